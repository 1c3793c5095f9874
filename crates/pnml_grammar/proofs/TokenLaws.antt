-- Any token: it occurs at the front just where it is read there. So two tokens that occur at one offset are
-- what one function reads there.
use Rattle.std.proofs.Common.{◌≡◌, ℕ, ◌-◌, ◌+◌, ◌≤◌, true, false, cond, List, [], ◌∷◌, ◌++◌, Option, Some, None, refl, sym, ap, subst, ◌∙◌, arith, inl, inr, length, drop, length-append}
use Rattle.std.specs.Prelude.{◌⊎◌, ◌==◌, nat_le, codes, is_none, IsUtf8}
use Rattle.std.proofs.lemmas.Bool.{cases_Bool, cases_lt, eqb-true, not-true, and_parts, and_from, leb-true, le-leb, true≢false}
use Rattle.std.proofs.lemmas.List.{take_at}
use Rattle.net_values.specs.declared.limits.TheConstants.{MAX_TOKEN_BYTES}
use Rattle.net_values.specs.Characters.{IsLegalText}
use Rattle.pnml_grammar.specs.declared.token.Token.{Token}
use Rattle.pnml_grammar.specs.declared.token.Token.TheVariants.{Declaration, Comment, Instruction, Cdata, Start, Empty, End, Characters}
use Rattle.pnml_grammar.specs.Characters.{Each}
use Rattle.pnml_grammar.specs.Tokens.{IsSpelling, IsCharacters, is_text_byte, IsTextEnd, MayFollow, Occurs, TokenAt, HasOneToken, HasTokenOrNone}
use Rattle.pnml_grammar.specs.Runs.{passed, beyond, past, past_text, until}
use Rattle.pnml_grammar.specs.Resolving.{value_of}
use Rattle.pnml_grammar.specs.Reading.{comment_at, cdata_at, instruction_at, end_tag_at, characters_at, after_or, markup_at, shape_at, is_legal, before_rest, is_spelling, token_from}
use Rattle.pnml_grammar.proofs.RunLaws.{bind_some, chosen, some_pair_is, Stops, passed-beyond, passed_each, passed_is, after_is, after_stops, past_found, past_text_found}
use Rattle.pnml_grammar.proofs.PartLaws.{until_none, none_without}
use Rattle.pnml_grammar.proofs.TextLaws.{legal_utf8, is_legal_is, is_legal_found}
use Rattle.pnml_grammar.proofs.AttributeLaws.{value_again, value_found}
use Rattle.pnml_grammar.proofs.ShapeLaws.{ShapeFound}
use Rattle.pnml_grammar.proofs.TagLaws.{start_again, empty_again, tag_found, end_again, end_found}
use Rattle.pnml_grammar.proofs.MarkupLaws.{comment_again, comment_found, cdata_again, cdata_found, declaration_again, instruction_again, instruction_found}

-- ---- characters

end_stops : (rest : List ℕ) → IsTextEnd rest → Stops is_text_byte rest
end_stops [] h = tt
end_stops (b ∷ bs) h = rw h refl

stops_end : (rest : List ℕ) → Stops is_text_byte rest → IsTextEnd rest
stops_end [] stops = tt
stops_end (b ∷ bs) stops = eqb-true b 60 (elim (cases_Bool (b == 60)) [ inl same ↦ same | inr other ↦ absurd (true≢false (sym (rw other refl) ∙ stops)) ])

characters_made : (bytes run value rest : List ℕ) → passed is_text_byte bytes ≡ run → beyond is_text_byte bytes ≡ rest → value_of false run ≡ Some value → until (codes "]]>") run ≡ None
    → characters_at bytes ≡ Some (Characters value, rest)
unfolding characters_at
characters_made bytes run value rest e0 e1 e2 e3 = rw (e0, e1, e2, e3) refl

open_characters : (b : ℕ) (bs : List ℕ) → is_text_byte b ≡ true → shape_at (b ∷ bs) ≡ characters_at (b ∷ bs)
unfolding shape_at
open_characters b bs e = rw (not-true (b == 60) e) refl

first_byte : (bytes rest : List ℕ) → 1 ≤ length bytes → Each is_text_byte bytes → shape_at (bytes ++ rest) ≡ characters_at (bytes ++ rest)
first_byte [] rest some each = absurd (omega arith)
first_byte (b ∷ bs) rest some each = open_characters b (bs ++ rest) each.0

characters_again : (value bytes rest : List ℕ) → IsCharacters value bytes → IsUtf8 bytes → IsTextEnd rest → shape_at (bytes ++ rest) ≡ Some (Characters value, rest)
characters_again value bytes rest is text ends =
    first_byte bytes rest is.some is.each
    ∙ characters_made (bytes ++ rest) bytes value rest
    (passed_is is_text_byte bytes rest is.each (end_stops rest ends))
    (after_is is_text_byte bytes rest is.each (end_stops rest ends))
    (value_again false bytes value text is.means)
    (until_none (codes "]]>") bytes is.without)

none_is : {A : Type 0} (o : Option A) → is_none o ≡ true → o ≡ None
none_is None e = refl
none_is (Some x) e = absurd cc

some_passed : (b : ℕ) (bs : List ℕ) → is_text_byte b ≡ true → 1 ≤ length (passed is_text_byte (b ∷ bs))
some_passed b bs e = rw e (omega arith)

characters_found : (b : ℕ) (bs : List ℕ) (token : Token) (rest : List ℕ) → is_text_byte b ≡ true → characters_at (b ∷ bs) ≡ Some (token, rest) → ShapeFound (b ∷ bs) token rest
unfolding characters_at
characters_found b bs token rest first e =
    let bytes = b ∷ bs in
    let run = passed is_text_byte bytes in
    let a = bind_some (value_of false run) _ (token, rest) e in
    let g = chosen (is_none (until (codes "]]>") run)) (Some (Characters a.0, beyond is_text_byte bytes)) (token, rest) a.2 in
    let p = some_pair_is (Characters a.0) token (beyond is_text_byte bytes) rest g.1 in
    let here : ShapeFound bytes (Characters a.0) (beyond is_text_byte bytes) = record {
      spelling = run;
      parts = sym (passed-beyond is_text_byte bytes);
      spells = record {
        some = some_passed b bs first;
        each = passed_each is_text_byte bytes;
        without = none_without (codes "]]>") run (none_is (until (codes "]]>") run) g.0);
        means = value_found false run a.0 a.1;
      };
      follows = stops_end (beyond is_text_byte bytes) (after_stops is_text_byte bytes);
    } in
    subst (λ t. ShapeFound bytes t rest) p.0 (subst (λ r. ShapeFound bytes (Characters a.0) r) p.1 here)

-- ---- any shape

shape_again : (token : Token) (spelling rest : List ℕ) → IsSpelling token spelling → IsUtf8 spelling → MayFollow token rest → shape_at (spelling ++ rest) ≡ Some (token, rest)
shape_again Declaration spelling rest is text follows = declaration_again spelling rest is
shape_again Comment spelling rest is text follows = comment_again spelling rest is
shape_again Instruction spelling rest is text follows = instruction_again spelling rest is
shape_again (Cdata value) spelling rest is text follows = cdata_again value spelling rest is text
shape_again (Start name attributes) spelling rest is text follows = start_again name attributes spelling rest is text
shape_again (Empty name attributes) spelling rest is text follows = empty_again name attributes spelling rest is text
shape_again (End name) spelling rest is text follows = end_again name spelling rest is text
shape_again (Characters value) spelling rest is text follows = characters_again value spelling rest is text follows

-- a way that was taken, or the others
after_found : (o : Option (List ℕ)) (way : List ℕ → Option (Token × List ℕ)) (other : Option (Token × List ℕ)) (bytes : List ℕ) (token : Token) (rest : List ℕ)
    → ((t : List ℕ) → o ≡ Some t → way t ≡ Some (token, rest) → ShapeFound bytes token rest) → (other ≡ Some (token, rest) → ShapeFound bytes token rest)
    → after_or o way other ≡ Some (token, rest) → ShapeFound bytes token rest
after_found None way other bytes token rest taken left e = left e
after_found (Some t) way other bytes token rest taken left e = taken t refl e

markup_found : (bytes : List ℕ) (token : Token) (rest : List ℕ) → markup_at bytes ≡ Some (token, rest) → ShapeFound (60 ∷ bytes) token rest
unfolding markup_at
markup_found bytes token rest e =
    after_found (past_text (codes "!--") bytes) comment_at _ (60 ∷ bytes) token rest
    (λ t is way. subst (λ (u : List ℕ). ShapeFound (60 ∷ u) token rest) (sym (past_text_found (codes "!--") bytes t is)) (comment_found t token rest way))
    (after_found (past_text (codes "![CDATA[") bytes) cdata_at _ (60 ∷ bytes) token rest
    (λ t is way. subst (λ (u : List ℕ). ShapeFound (60 ∷ u) token rest) (sym (past_text_found (codes "![CDATA[") bytes t is)) (cdata_found t token rest way))
    (after_found (past 63 bytes) instruction_at _ (60 ∷ bytes) token rest
    (λ t is way. subst (λ (u : List ℕ). ShapeFound (60 ∷ u) token rest) (sym (past_found 63 bytes t is)) (instruction_found t token rest way))
    (after_found (past 47 bytes) end_tag_at _ (60 ∷ bytes) token rest
    (λ t is way. subst (λ (u : List ℕ). ShapeFound (60 ∷ u) token rest) (sym (past_found 47 bytes t is)) (end_found t token rest way))
    (tag_found bytes token rest)))) e

pub shape_found : (bytes : List ℕ) (token : Token) (rest : List ℕ) → shape_at bytes ≡ Some (token, rest) → ShapeFound bytes token rest
unfolding shape_at
shape_found [] token rest e = absurd cc
shape_found (b ∷ bs) token rest e =
    elim (cases_Bool (b == 60)) [
      | inl less ↦ subst (λ (x : ℕ). ShapeFound (x ∷ bs) token rest) (sym (eqb-true b 60 less)) (markup_found bs token rest (sym (ap (λ t. cond t (markup_at bs) (characters_at (b ∷ bs))) less) ∙ e))
      | inr other ↦ characters_found b bs token rest (rw other refl) (sym (ap (λ t. cond t (markup_at bs) (characters_at (b ∷ bs))) other) ∙ e)
    ]

-- ---- any token

before_rest_is : (spelling rest : List ℕ) → before_rest (spelling ++ rest) rest ≡ spelling
before_rest_is spelling rest = take_at spelling rest (length (spelling ++ rest) - length rest) (omega (arith, length-append spelling rest))

spelling_is : (spelling : List ℕ) → length spelling ≤ MAX_TOKEN_BYTES → IsLegalText spelling → is_spelling spelling ≡ true
unfolding is_spelling
spelling_is spelling short legal = and_from (nat_le (length spelling) MAX_TOKEN_BYTES) (is_legal spelling) (le-leb _ _ short) (is_legal_is spelling legal)

token_made : (bytes : List ℕ) (token : Token) (spelling rest : List ℕ) → shape_at bytes ≡ Some (token, rest) → before_rest bytes rest ≡ spelling → is_spelling spelling ≡ true → token_from bytes ≡ Some (token, rest)
unfolding token_from
token_made bytes token spelling rest e0 e1 e2 = rw (e0, e1, e2) refl

-- a token that occurs is read
pub token_is : (bytes : List ℕ) (token : Token) (spelling rest : List ℕ) → Occurs bytes token spelling rest → token_from bytes ≡ Some (token, rest)
token_is bytes token spelling rest occurs =
    ap token_from occurs.parts
    ∙ token_made (spelling ++ rest) token spelling rest
    (shape_again token spelling rest occurs.spells (legal_utf8 spelling occurs.legal) occurs.follows)
    (before_rest_is spelling rest)
    (spelling_is spelling occurs.short occurs.legal)

-- a token that is read occurs
pub token_found : (bytes : List ℕ) (token : Token) (rest : List ℕ) → token_from bytes ≡ Some (token, rest) → (spelling : List ℕ) × Occurs bytes token spelling rest
unfolding token_from is_spelling
token_found bytes token rest e =
    let a = bind_some (shape_at bytes) _ (token, rest) e in
    let g = chosen (is_spelling (before_rest bytes a.0.1)) (Some a.0) (token, rest) a.2 in
    let p = some_pair_is a.0.0 token a.0.1 rest g.1 in
    let f = shape_found bytes a.0.0 a.0.1 a.1 in
    let cut : before_rest bytes a.0.1 ≡ f.spelling = ap (λ (t : List ℕ). before_rest t a.0.1) f.parts ∙ before_rest_is f.spelling a.0.1 in
    let tests = and_parts (nat_le (length f.spelling) MAX_TOKEN_BYTES) (is_legal f.spelling) (sym (ap is_spelling cut) ∙ g.0) in
    let here : Occurs bytes a.0.0 f.spelling a.0.1 = record {
      parts = f.parts;
      spells = f.spells;
      legal = is_legal_found f.spelling tests.1;
      short = leb-true _ _ tests.0;
      follows = f.follows;
    } in
    (f.spelling, subst (λ t. Occurs bytes t f.spelling rest) p.0 (subst (λ r. Occurs bytes a.0.0 f.spelling r) p.1 here))

-- at an offset at most one token occurs, and its end is determined
pub one_token_occurs : HasOneToken
one_token_occurs bytes k token other e f at also =
    let both = some_pair_is token other at.rest also.rest
    (sym (token_is (drop k bytes) token at.spelling at.rest at.occurs) ∙ token_is (drop k bytes) other also.spelling also.rest also.occurs)
    in
    let rests = ap length both.1 in
    let one = ap length at.occurs.parts in
    let two = ap length also.occurs.parts in
    (both.0, omega (arith, rests, one, two, at.end_is, also.end_is, length-append at.spelling at.rest, length-append also.spelling also.rest))

-- ---- a token, or none

Found : List ℕ → ℕ → Type 0
Found bytes k = (token : Token) × (e : ℕ) × TokenAt bytes k token e

Missing : List ℕ → ℕ → Type 0
Missing bytes k = (token : Token) (e : ℕ) → TokenAt bytes k token e → ⊥

read_at : (bytes : List ℕ) (k : ℕ) (found : Option (Token × List ℕ)) → k ≤ length bytes → token_from (drop k bytes) ≡ found → Found bytes k ⊎ Missing bytes k
unfolding Found Missing
read_at bytes k None inside e = inr (λ token end at. let is = token_is (drop k bytes) token at.spelling at.rest at.occurs in absurd cc)
read_at bytes k (Some found) inside e =
    let occurs = token_found (drop k bytes) found.0 found.1 e in
    inl (found.0, k + length occurs.0, record { inside = inside; spelling = occurs.0; rest = found.1; occurs = occurs.1; end_is = refl })

pub token_or_none : HasTokenOrNone
unfolding Found Missing
token_or_none bytes k =
    elim (cases_lt (length bytes) k) [
      | inl beyond ↦ inr (λ token end at. absurd (omega (arith, beyond, at.inside)))
      | inr inside ↦ read_at bytes k (token_from (drop k bytes)) inside refl
    ]
