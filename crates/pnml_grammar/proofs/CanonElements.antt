-- Elements and labels of the canonical text: the tokens are in their text. An element has a child in the
-- text just where it has one among the tokens, since no spelling is empty.
use Rattle.std.proofs.Common.{◌≡◌, ℕ, ◌+◌, ◌≤◌, true, List, [], ◌∷◌, ◌++◌, length, length-append, refl, sym, ap, subst, arith, append_assoc}
use Rattle.std.specs.Prelude.{codes}
use Rattle.std.proofs.lemmas.Bool.Decides.{nat_tests}
use Rattle.net_values.specs.declared.limits.TheConstants.{MAX_NAME_BYTES}
use Rattle.net_values.specs.Characters.{IsLegalText}
use Rattle.pnml_grammar.specs.declared.token.Attribute.{Attribute}
use Rattle.pnml_grammar.specs.declared.token.Token.{Token}
use Rattle.pnml_grammar.specs.declared.token.Token.TheVariants as tokens
use Rattle.pnml_grammar.specs.Characters.{Each, Without}
use Rattle.pnml_grammar.specs.Values.{Denotes}
use Rattle.pnml_grammar.specs.Tokens.{is_text_byte, TokenAt}
use Rattle.pnml_grammar.specs.Canon.{escaped, start_tag, end_tag, element, label}
use Rattle.pnml_grammar.proofs.OffsetLaws.{token_goes_on}
use Rattle.pnml_grammar.proofs.EscapeLaws.{is_clean, escaped_clean, escaped_short, escaped_resolves, escaped_lines, escaped_legal, escaped_some}
use Rattle.pnml_grammar.proofs.CanonTokens.{element_tokens, value_tokens, label_tokens}
use Rattle.pnml_grammar.proofs.CanonPieces.{Follow, Writes, writes_join, IsPiece, piece_occurs, IsWord, word, ArePlain, attributes_text, start_writes, empty_writes, end_writes}

-- ---- a token has bytes

nothing_follows : (token : Token) (list : List Token) → Writes [] (token ∷ list) → ⊥
nothing_follows token list writes =
    let w = writes [] in
    let here : TokenAt [] 0 token (0 + length w.0) = record { inside = omega arith; spelling = w.0; rest = w.1; occurs = w.2; end_is = refl } in
    omega (arith, token_goes_on [] 0 token (0 + length w.0) here, ap length w.2.parts, length-append w.0 w.1)

-- ---- elements

pub element_writes : (name : List ℕ) (attributes : List Attribute) (text : List ℕ) (list : List Token) → IsWord name → ArePlain attributes → Writes text list
    → Writes (element name (attributes_text attributes) text) (element_tokens name attributes list)
element_writes name attributes [] [] is plain writes = empty_writes name attributes is plain
element_writes name attributes [] (t ∷ ts) is plain writes = absurd (nothing_follows t ts writes)
element_writes name attributes (b ∷ bs) [] is plain writes =
    let e : (b ∷ bs) ++ [] ≡ [] = writes [] in
    absurd cc
element_writes name attributes (b ∷ bs) (t ∷ ts) is plain writes =
    writes_join (start_tag name (attributes_text attributes) ++ (b ∷ bs)) (tokens.Start name attributes ∷ (t ∷ ts)) (end_tag name) (tokens.End name ∷ [])
    (writes_join (start_tag name (attributes_text attributes)) (tokens.Start name attributes ∷ []) (b ∷ bs) (t ∷ ts) (start_writes name attributes is plain) writes)
    (end_writes name is)

-- ---- values between tags

pub no_attributes : ArePlain []
no_attributes = record { each = tt; distinct = tt; few = omega arith }

text_bytes : (bytes : List ℕ) → Each is_clean bytes → Each is_text_byte bytes
text_bytes [] each = tt
text_bytes (b ∷ bs) each =
    let one : is_text_byte b ≡ true = grind (arith, nat_tests) in
    (one, text_bytes bs each.1)

clean_after : (before after : List ℕ) → Each is_clean (before ++ after) → Each is_clean after
clean_after [] after each = each
clean_after (b ∷ bs) after each = clean_after bs after each.1

-- a clean text has no `>`
no_section_end : (bytes : List ℕ) → Each is_clean bytes → Without (codes "]]>") bytes
no_section_end bytes each before after e =
    let found = clean_after before (codes "]]>" ++ after) (subst (Each is_clean) e each) in
    let greater : is_clean 62 ≡ true = found.1.1.0 in
    cc

characters_piece : (value : List ℕ) → 1 ≤ length (escaped value) → IsLegalText value → length value ≤ MAX_NAME_BYTES → IsPiece (tokens.Characters value) (escaped value)
characters_piece value some legal short = record {
  spells = record {
    some = some;
    each = text_bytes (escaped value) (escaped_clean value);
    without = no_section_end (escaped value) (escaped_clean value);
    means = subst (λ (t : List ℕ). Denotes t value) (sym (escaped_lines value)) (escaped_resolves value);
  };
  legal = escaped_legal value legal;
  short = omega (arith, escaped_short value);
}

text_word : IsWord (codes "text")
text_word = word (codes "text") refl

value_end : (value : List ℕ) → IsPiece (tokens.Characters value) (escaped value) → Writes (escaped value ++ end_tag (codes "text")) (tokens.Characters value ∷ tokens.End (codes "text") ∷ [])
unfolding end_tag
value_end value piece rest =
    let end = end_tag (codes "text") in
    subst (λ (t : List ℕ). Follow t (tokens.Characters value ∷ tokens.End (codes "text") ∷ []) rest) (sym (append_assoc (escaped value) end rest))
    (escaped value, end ++ rest, piece_occurs (tokens.Characters value) (escaped value) (end ++ rest) piece refl, end_writes (codes "text") text_word rest)

full : (name attributes text : List ℕ) → 1 ≤ length text → element name attributes text ≡ start_tag name attributes ++ (text ++ end_tag name)
full name attributes [] some = absurd (omega arith)
full name attributes (b ∷ bs) some = append_assoc (start_tag name attributes) (b ∷ bs) (end_tag name)

text_writes : (value : List ℕ) → IsLegalText value → length value ≤ MAX_NAME_BYTES → Writes (element (codes "text") [] (escaped value)) (element_tokens (codes "text") [] (value_tokens value))
unfolding escaped
text_writes [] legal short = empty_writes (codes "text") [] text_word no_attributes
text_writes (b ∷ bs) legal short =
    let value = b ∷ bs in
    let some = escaped_some value (omega arith) in
    subst (λ (t : List ℕ). Writes t (element_tokens (codes "text") [] (value_tokens value))) (sym (full (codes "text") [] (escaped value) some))
    (writes_join (start_tag (codes "text") []) (tokens.Start (codes "text") [] ∷ []) (escaped value ++ end_tag (codes "text")) (tokens.Characters value ∷ tokens.End (codes "text") ∷ [])
    (start_writes (codes "text") [] text_word no_attributes)
    (value_end value (characters_piece value some legal short)))

pub label_writes : (name value : List ℕ) → IsWord name → IsLegalText value → length value ≤ MAX_NAME_BYTES → Writes (label name (escaped value)) (label_tokens name value)
label_writes name value is legal short =
    element_writes name [] (element (codes "text") [] (escaped value)) (element_tokens (codes "text") [] (value_tokens value)) is no_attributes (text_writes value legal short)
