-- The pieces of the canonical text: the tokens of each occur one after the other, whatever follows. Values
-- are escaped, so their bytes end no tag and no text, and a spelling is at most six times as long as what it
-- is written for.
use Rattle.std.proofs.Common.{◌≡◌, ℕ, ◌+◌, ◌*◌, ◌≤◌, Bool, true, false, List, [], ◌∷◌, ◌++◌, map, length, drop, length-append, refl, sym, ap, subst, ◌∙◌, arith, append_assoc, inl}
use Rattle.std.specs.Prelude.{◌&&◌, nat_le, codes}
use Rattle.std.specs.List.{AllByRecursion, AllZip, list_all, flat_map}
use Rattle.std.proofs.lemmas.Bool.{and_parts, leb-true}
use Rattle.std.proofs.lemmas.Bool.Decides.{nat_tests}
use Rattle.std.proofs.lemmas.List.{drop_at, drop-drop, length-drop}
use Rattle.net_values.specs.declared.limits.TheConstants.{MAX_ID_BYTES, MAX_TOKEN_BYTES}
use Rattle.net_values.specs.Characters.{IsLegalText}
use Rattle.pnml_grammar.specs.declared.token.Attribute.{Attribute}
use Rattle.pnml_grammar.specs.declared.token.Token.{Token}
use Rattle.pnml_grammar.specs.declared.token.Token.TheVariants as tokens
use Rattle.pnml_grammar.specs.Characters.{Each}
use Rattle.pnml_grammar.specs.Names.{IsName, is_name_start, is_name_byte}
use Rattle.pnml_grammar.specs.Values.{Denotes}
use Rattle.pnml_grammar.specs.Attributes.{Written, written, IsWritten, IsAttribute, HaveDistinctNames, is_value_byte}
use Rattle.pnml_grammar.specs.Tags.{IsTag}
use Rattle.pnml_grammar.specs.Tokens.{IsSpelling, MayFollow, Occurs, TokensTo}
use Rattle.pnml_grammar.specs.Canon.{escaped, start_tag, end_tag, empty_tag}
use Rattle.pnml_grammar.proofs.LegalLaws.{legal_join, legal_nothing}
use Rattle.pnml_grammar.proofs.EscapeLaws.{is_printed, printed_text, is_clean, escaped_clean, escaped_short, escaped_resolves, escaped_spaced, escaped_legal}

-- ---- tokens one after the other

-- the tokens occur one after the other at the front of the bytes, and this is the rest
abbrev pub Follow : List ℕ → List Token → List ℕ → Type 0
Follow bytes [] rest = bytes ≡ rest
Follow bytes (token ∷ list) rest = (spelling next : List ℕ) × Occurs bytes token spelling next × Follow next list rest

-- so they do whatever follows
abbrev pub Writes : List ℕ → List Token → Type 0
Writes text list = (rest : List ℕ) → Follow (text ++ rest) list rest

pub follow_join : (xs ys : List Token) (bytes middle rest : List ℕ) → Follow bytes xs middle → Follow middle ys rest → Follow bytes (xs ++ ys) rest
follow_join [] ys bytes middle rest first second = subst (λ (t : List ℕ). Follow t ys rest) (sym first) second
follow_join (x ∷ xs) ys bytes middle rest first second = (first.0, first.1, first.2, follow_join xs ys first.1 middle rest first.3 second)

pub writes_join : (xs : List ℕ) (list : List Token) (ys : List ℕ) (more : List Token) → Writes xs list → Writes ys more → Writes (xs ++ ys) (list ++ more)
writes_join xs list ys more first second rest =
    subst (λ (t : List ℕ). Follow t (list ++ more) rest) (sym (append_assoc xs ys rest)) (follow_join list more (xs ++ (ys ++ rest)) (ys ++ rest) rest (first (ys ++ rest)) (second rest))

pub writes_nothing : Writes [] []
writes_nothing rest = refl

-- a token that needs nothing of what follows
pub record IsPiece (token : Token) (text : List ℕ) : Type 0 where
  pub spells : IsSpelling token text
  pub legal : IsLegalText text
  pub short : length text ≤ MAX_TOKEN_BYTES

pub piece_occurs : (token : Token) (text rest : List ℕ) → IsPiece token text → MayFollow token rest → Occurs (text ++ rest) token text rest
piece_occurs token text rest piece follows = record { parts = refl; spells = piece.spells; legal = piece.legal; short = piece.short; follows = follows }

pub writes_piece : (token : Token) (text : List ℕ) → IsPiece token text → ((rest : List ℕ) → MayFollow token rest) → Writes text (token ∷ [])
writes_piece token text piece follows rest = (text, rest, piece_occurs token text rest piece (follows rest), refl)

-- ---- from the whole text to offsets

follow_to : (list : List Token) (bytes : List ℕ) (k : ℕ) → k ≤ length bytes → Follow (drop k bytes) list [] → TokensTo bytes k list (length bytes)
follow_to [] bytes k inside all = omega (arith, length-drop k bytes, ap length all)
follow_to (token ∷ list) bytes k inside all =
    let spelling = all.0 in
    let next = all.1 in
    let parts = all.2.parts in
    let beyond : drop (k + length spelling) bytes ≡ next =
    sym (drop-drop (length spelling) k bytes) ∙ ap (drop (length spelling)) parts ∙ drop_at spelling next (length spelling) refl
    in
    let within : k + length spelling ≤ length bytes = omega (arith, length-drop k bytes, ap length parts, length-append spelling next) in (
      k + length spelling,
      record { inside = inside; spelling = spelling; rest = next; occurs = all.2; end_is = refl },
      follow_to list bytes (k + length spelling) within (subst (λ (t : List ℕ). Follow t list []) (sym beyond) all.3),
    )

pub follow_whole : (bytes : List ℕ) (list : List Token) → Follow bytes list [] → TokensTo bytes 0 list (length bytes)
follow_whole bytes list follow = follow_to list bytes 0 (omega arith) follow

-- ---- names

-- a name of at most 100 bytes of ASCII
abbrev pub is_word : List ℕ → Bool
is_word [] = false
is_word (b ∷ bs) = is_name_start b && list_all is_name_byte bs && is_printed (b ∷ bs) && nat_le (length (b ∷ bs)) 100

pub record IsWord (name : List ℕ) : Type 0 where
  pub named : IsName name
  pub legal : IsLegalText name
  pub short : length name ≤ 100

all_each : (test : ℕ → Bool) (xs : List ℕ) → list_all test xs ≡ true → Each test xs
all_each test [] e = tt
all_each test (x ∷ xs) e =
    let p = and_parts (test x) (list_all test xs) e in
    (p.0, all_each test xs p.1)

pub word : (name : List ℕ) → is_word name ≡ true → IsWord name
word [] e = absurd cc
word (b ∷ bs) e =
    let p = and_parts _ (nat_le (length (b ∷ bs)) 100) e in
    let q = and_parts _ (is_printed (b ∷ bs)) p.0 in
    let n = and_parts (is_name_start b) (list_all is_name_byte bs) q.0 in
    record { named = (n.0, all_each is_name_byte bs n.1); legal = printed_text (b ∷ bs) q.1; short = leb-true (length (b ∷ bs)) 100 p.1 }

-- ---- attributes

-- an attribute is written after one space, in double quotes
abbrev pub written_attribute : Attribute → Written
written_attribute a = record { gap = codes " "; name = a.name; before = []; after = []; quote = 34; body = escaped a.value }

abbrev pub attributes_text : List Attribute → List ℕ
attributes_text attributes = flat_map written (map written_attribute attributes)

pub record IsPlainAttribute (a : Attribute) : Type 0 where
  pub name : IsWord a.name
  pub value : IsLegalText a.value
  pub short : length a.value ≤ MAX_ID_BYTES

pub record ArePlain (attributes : List Attribute) : Type 0 where
  pub each : AllByRecursion IsPlainAttribute attributes
  pub distinct : HaveDistinctNames attributes
  pub few : length attributes ≤ 3

value_bytes : (bytes : List ℕ) → Each is_clean bytes → Each (is_value_byte 34) bytes
value_bytes [] each = tt
value_bytes (b ∷ bs) each =
    let one : is_value_byte 34 b ≡ true = grind (arith, nat_tests) in
    (one, value_bytes bs each.1)

attribute_is_written : (a : Attribute) → IsPlainAttribute a → IsWritten (written_attribute a)
attribute_is_written a is = record {
  gap = (refl, tt);
  apart = omega arith;
  name = is.name.named;
  before = tt;
  after = tt;
  quote = inl refl;
  body = value_bytes (escaped a.value) (escaped_clean a.value);
}

attribute_is : (a : Attribute) → IsAttribute (written_attribute a) a
attribute_is a = record { name = refl; value = subst (λ (t : List ℕ). Denotes t a.value) (sym (escaped_spaced a.value)) (escaped_resolves a.value) }

attributes_are_written : (attributes : List Attribute) → AllByRecursion IsPlainAttribute attributes → AllByRecursion IsWritten (map written_attribute attributes)
attributes_are_written [] each = tt
attributes_are_written (a ∷ attributes) each = (attribute_is_written a each.0, attributes_are_written attributes each.1)

attributes_are : (attributes : List Attribute) → AllZip IsAttribute (map written_attribute attributes) attributes
attributes_are [] = tt
attributes_are (a ∷ attributes) = (attribute_is a, attributes_are attributes)

quote_legal : IsLegalText (34 ∷ [])
quote_legal = printed_text (34 ∷ []) refl

attribute_legal : (a : Attribute) → IsPlainAttribute a → IsLegalText (written (written_attribute a))
attribute_legal a is =
    legal_join (codes " ") _ (printed_text (codes " ") refl)
    (legal_join a.name _ is.name.legal
    (legal_join (61 ∷ 34 ∷ []) _ (printed_text (61 ∷ 34 ∷ []) refl)
    (legal_join (escaped a.value) (34 ∷ []) (escaped_legal a.value is.value) quote_legal)))

attributes_legal : (attributes : List Attribute) → AllByRecursion IsPlainAttribute attributes → IsLegalText (attributes_text attributes)
attributes_legal [] each = legal_nothing
attributes_legal (a ∷ attributes) each =
    legal_join (written (written_attribute a)) (attributes_text attributes) (attribute_legal a each.0) (attributes_legal attributes each.1)

attribute_short : (a : Attribute) → IsPlainAttribute a → length (written (written_attribute a)) ≤ 25000
attribute_short a is =
    omega (arith, is.short, is.name.short, escaped_short a.value, length-append a.name (61 ∷ 34 ∷ (escaped a.value ++ 34 ∷ [])), length-append (escaped a.value) (34 ∷ []))

attributes_short : (attributes : List Attribute) → AllByRecursion IsPlainAttribute attributes → length (attributes_text attributes) ≤ 25000 * length attributes
attributes_short [] each = omega arith
attributes_short (a ∷ attributes) each =
    omega (arith, attribute_short a each.0, attributes_short attributes each.1, length-append (written (written_attribute a)) (attributes_text attributes))

-- ---- tags

tag_regrouped : (name attributes close : List ℕ) → ((codes "<" ++ name) ++ attributes) ++ close ≡ 60 ∷ (name ++ (attributes ++ ([] ++ close)))
tag_regrouped name attributes close = ap (λ (t : List ℕ). 60 ∷ t) (append_assoc name attributes close)

tag_is : (close name : List ℕ) (attributes : List Attribute) → IsWord name → ArePlain attributes → IsTag close name attributes (((codes "<" ++ name) ++ attributes_text attributes) ++ close)
tag_is close name attributes is plain = record {
  named = is.named;
  writtens = map written_attribute attributes;
  each = attributes_are_written attributes plain.each;
  are = attributes_are attributes;
  distinct = plain.distinct;
  gap = [];
  space = tt;
  spelling = tag_regrouped name (attributes_text attributes) close;
}

tag_legal : (close name : List ℕ) (attributes : List Attribute) → is_printed close ≡ true → IsWord name → ArePlain attributes → IsLegalText (((codes "<" ++ name) ++ attributes_text attributes) ++ close)
tag_legal close name attributes closes is plain =
    legal_join ((codes "<" ++ name) ++ attributes_text attributes) close
    (legal_join (codes "<" ++ name) (attributes_text attributes)
    (legal_join (codes "<") name (printed_text (codes "<") refl) is.legal)
    (attributes_legal attributes plain.each))
    (printed_text close closes)

tag_short : (close name : List ℕ) (attributes : List Attribute) → length close ≤ 2 → IsWord name → ArePlain attributes → length (((codes "<" ++ name) ++ attributes_text attributes) ++ close) ≤ MAX_TOKEN_BYTES
tag_short close name attributes closes is plain =
    omega (
      arith,
      is.short,
      plain.few,
      attributes_short attributes plain.each,
      length-append ((codes "<" ++ name) ++ attributes_text attributes) close,
      length-append (codes "<" ++ name) (attributes_text attributes),
    )

tag_writes : (close name : List ℕ) (attributes : List Attribute) (token : Token) → is_printed close ≡ true → length close ≤ 2 → IsWord name → ArePlain attributes
    → IsSpelling token (((codes "<" ++ name) ++ attributes_text attributes) ++ close) → ((rest : List ℕ) → MayFollow token rest) → Writes (((codes "<" ++ name) ++ attributes_text attributes) ++ close) (token ∷ [])
tag_writes close name attributes token closes brief is plain spells follows =
    writes_piece token (((codes "<" ++ name) ++ attributes_text attributes) ++ close) record { spells = spells; legal = tag_legal close name attributes closes is plain; short = tag_short close name attributes brief is plain } follows

pub start_writes : (name : List ℕ) (attributes : List Attribute) → IsWord name → ArePlain attributes → Writes (start_tag name (attributes_text attributes)) (tokens.Start name attributes ∷ [])
unfolding start_tag
start_writes name attributes is plain = tag_writes (codes ">") name attributes (tokens.Start name attributes) refl (omega arith) is plain (tag_is (codes ">") name attributes is plain) (λ rest. tt)

pub empty_writes : (name : List ℕ) (attributes : List Attribute) → IsWord name → ArePlain attributes → Writes (empty_tag name (attributes_text attributes)) (tokens.Empty name attributes ∷ [])
unfolding empty_tag
empty_writes name attributes is plain = tag_writes (codes "/>") name attributes (tokens.Empty name attributes) refl (omega arith) is plain (tag_is (codes "/>") name attributes is plain) (λ rest. tt)

pub end_writes : (name : List ℕ) → IsWord name → Writes (end_tag name) (tokens.End name ∷ [])
unfolding end_tag
end_writes name is =
    writes_piece (tokens.End name) (end_tag name)
    (record {
      spells = record { named = is.named; gap = []; space = tt; spelling = refl };
      legal = legal_join (codes "</" ++ name) (codes ">") (legal_join (codes "</") name (printed_text (codes "</") refl) is.legal) (printed_text (codes ">") refl);
      short = omega (arith, is.short, length-append (codes "</" ++ name) (codes ">"));
    })
    (λ rest. tt)
