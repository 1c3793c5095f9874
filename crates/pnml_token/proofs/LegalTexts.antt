-- The test of a whole spelling, by the standard library's test of UTF-8; one of ASCII is its own characters.
use Rattle.std.proofs.Common.{◌≡◌, ℕ, ◌+◌, ◌/◌, ◌%◌, ◌<◌, Bool, true, false, cond, List, [], ◌∷◌, Option, Some, None, Ok, refl, sym, ap, subst, ◌∙◌, inl, inr, ◌⊎◌, arith}
use Rattle.std.specs.Prelude.{◌↔◌, IsTrue, chars, IsUtf8, IsAscii, ok_or, nat_lt}
use Rattle.std.specs.List.{list_all}
use Rattle.std.specs.Str.{is_utf8}
use Rattle.std.proofs.lemmas.Bool.{true≢false, cases_Bool, and_left, and_parts, and_from}
use Rattle.std.proofs.lemmas.Bool.Decides.{nat_tests}
use Rattle.std.proofs.lemmas.Str.{IsUtf8-from_is_utf8, is_utf8-from_IsUtf8, IsUtf8-from_ascii, chars-IsAscii, encodes-chars, scalars-chars}
use Rattle.std.proofs.lemmas.List.Folds.{list_all-append}
use Rattle.std.proofs.Math.Utf8.{scalar, scalars, encode, encodes}
use Rattle.std.proofs.lemmas.Str.Ascii.{IsAscii-nil, IsAscii-cons}
use Rattle.net_values.specs.Characters.{IsLegalCharacter, IsLegalText}
use Rattle.pnml_grammar.specs.Resolving.{is_legal_character}
use Rattle.pnml_grammar.specs.Reading.{is_legal}
use Rattle.pnml_grammar.proofs.ReferenceLaws.{legal_is, legal_found}
use Rattle.pnml_grammar.proofs.TextLaws.{is_legal_is, is_legal_found}
use Rattle.pnml_token.specs.declared.runs.ByteClass.TheVariants.{Common}
use Rattle.pnml_token.specs.ByteClasses.{in_class, is_plain_byte}

-- two tests of one property are one
same_test : (b c : Bool) (P : Type 0) → IsTrue b ↔ P → IsTrue c ↔ P → b ≡ c
same_test true true P one two = refl
same_test true false P one two = absurd (true≢false (sym (two.1 (one.0 refl))))
same_test false true P one two = absurd (true≢false (sym (one.1 (two.0 refl))))
same_test false false P one two = refl

pub legal_text : (text bytes : List ℕ) (b : Bool) → (text ≡ bytes) × IsUtf8 bytes → IsTrue b ↔ IsLegalText text → b ≡ is_legal bytes
legal_text text bytes b h holds =
    let told = subst (λ (t : List ℕ). IsTrue b ↔ IsLegalText t) h.0 holds in
    same_test b (is_legal bytes) (IsLegalText bytes) told (is_legal_found bytes, is_legal_is bytes)

pub legal_character : (c : ℕ) (b : Bool) → IsTrue b ↔ IsLegalCharacter c → b ≡ is_legal_character c
legal_character c b holds = same_test b (is_legal_character c) (IsLegalCharacter c) holds (legal_found c, legal_is c)

pub no_legal_text : (bytes : List ℕ) → ¬ (IsUtf8 bytes) → false ≡ is_legal bytes
unfolding is_legal
no_legal_text bytes h =
    elim (cases_Bool (is_utf8 bytes)) [
      | inl utf8 ↦ absurd (h (IsUtf8-from_is_utf8 bytes utf8))
      | inr other ↦ sym (and_left (is_utf8 bytes) (list_all is_legal_character (chars bytes)) other)
    ]

-- what was found, from what `ok_or` says
pub ok_some : {A E : Type 0} (o : Option A) (e : E) (x : A) → Ok x ≡ ok_or o e → o ≡ Some x
ok_some None e x is = absurd cc
ok_some (Some y) e x is = cc

-- ---- ASCII

plain_is_ascii : (b : ℕ) → is_plain_byte b ≡ true → b < 128
plain_is_ascii b e = grind (arith, nat_tests)

plain_is_legal : (b : ℕ) → is_plain_byte b ≡ true → is_legal_character b ≡ true
plain_is_legal b e = grind (arith, nat_tests)

pub plain_are_ascii : (bytes : List ℕ) → list_all is_plain_byte bytes ≡ true → IsAscii bytes
plain_are_ascii [] e = IsAscii-nil
plain_are_ascii (b ∷ bytes) e =
    let p = and_parts (is_plain_byte b) (list_all is_plain_byte bytes) e in
    IsAscii-cons b bytes (plain_is_ascii b p.0) (plain_are_ascii bytes p.1)

plain_are_legal : (bytes : List ℕ) → list_all is_plain_byte bytes ≡ true → list_all is_legal_character bytes ≡ true
plain_are_legal [] e = refl
plain_are_legal (b ∷ bytes) e =
    let p = and_parts (is_plain_byte b) (list_all is_plain_byte bytes) e in
    and_from (is_legal_character b) (list_all is_legal_character bytes) (plain_is_legal b p.0) (plain_are_legal bytes p.1)

pub plain_text : (bytes : List ℕ) → list_all is_plain_byte bytes ≡ true → true ≡ is_legal bytes
unfolding is_legal
plain_text bytes e =
    let ascii = plain_are_ascii bytes e in
    sym (and_from (is_utf8 bytes) (list_all is_legal_character (chars bytes)) (is_utf8-from_IsUtf8 bytes (IsUtf8-from_ascii bytes ascii))
    (ap (list_all is_legal_character) (chars-IsAscii bytes ascii) ∙ plain_are_legal bytes e))

-- ---- beyond ASCII

abbrev are_common : List ℕ → Bool
are_common bytes = list_all (in_class Common) bytes

abbrev later : ℕ → ℕ
later bits = 128 + bits % 64

not_the_last : (b : ℕ) → in_class Common b ≡ true → (b < 239) ⊎ (239 < b)
not_the_last b e = grind (arith, nat_tests)

-- the character by the number of its bytes
common_by_length : (x y z : Bool) (c : ℕ) → nat_lt c 128 ≡ x → nat_lt c 2048 ≡ y → nat_lt c 65536 ≡ z → scalar c ≡ true
    → are_common (cond x (c ∷ []) (cond y ((192 + c / 64) ∷ later c ∷ []) (cond z ((224 + c / 4096) ∷ later (c / 64) ∷ later c ∷ []) ((240 + c / 262144) ∷ later (c / 4096) ∷ later (c / 64) ∷ later c ∷ [])))) ≡ true
    → is_legal_character c ≡ true
common_by_length true y z c is_one is_two is_three is all =
    let own = (and_parts (in_class Common c) true all).0 in
    grind (arith, nat_tests)
common_by_length false true z c is_one is_two is_three is all = grind (arith, nat_tests)
common_by_length false false true c is_one is_two is_three is all =
    let first = (and_parts (in_class Common (224 + c / 4096)) _ all).0 in
    let small : c < 65536 = grind (arith, nat_tests) in
    let below : c < 61440 = omega (arith, small, not_the_last (224 + c / 4096) first) in
    grind (arith, nat_tests)
common_by_length false false false c is_one is_two is_three is all = grind (arith, nat_tests)

common_is_legal : (c : ℕ) → scalar c ≡ true → are_common (encode c) ≡ true → is_legal_character c ≡ true
unfolding lib.Utf8.encode
common_is_legal c is all = common_by_length (nat_lt c 128) (nat_lt c 2048) (nat_lt c 65536) c refl refl refl is all

common_are_legal : (cs : List ℕ) → scalars cs ≡ true → are_common (encodes cs) ≡ true → list_all is_legal_character cs ≡ true
common_are_legal [] are all = refl
common_are_legal (c ∷ cs) are all =
    let p = and_parts (scalar c) (scalars cs) are in
    let q = and_parts (are_common (encode c)) (are_common (encodes cs)) (sym (list_all-append (in_class Common) (encode c) (encodes cs)) ∙ all) in
    and_from (is_legal_character c) (list_all is_legal_character cs) (common_is_legal c p.0 q.0) (common_are_legal cs p.1 q.1)

pub common_text : (bytes : List ℕ) → IsUtf8 bytes → list_all (in_class Common) bytes ≡ true → is_legal bytes ≡ true
unfolding is_legal
common_text bytes utf8 all =
    and_from (is_utf8 bytes) (list_all is_legal_character (chars bytes)) (is_utf8-from_IsUtf8 bytes utf8)
    (common_are_legal (chars bytes) (scalars-chars bytes utf8) (ap are_common (encodes-chars bytes utf8) ∙ all))

pub common_decides : (bytes : List ℕ) (b : Bool) → IsUtf8 bytes → b ≡ list_all (in_class Common) bytes → b ≡ true → IsTrue b ↔ IsLegalText bytes
common_decides bytes b utf8 is all = (λ holds. is_legal_found bytes (common_text bytes utf8 (sym is ∙ all)), λ legal. all)
