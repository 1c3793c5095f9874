-- UTF-8 and legal characters. A text may be cut at an ASCII byte, so the parts of a spelling between its
-- marks are text.
use Rattle.std.proofs.Common.{◌≡◌, ℕ, ◌<◌, true, List, [], ◌∷◌, ◌++◌, Some, refl, sym, ap, subst, ◌∙◌, arith, length, get_or, length-append}
use Rattle.std.specs.Prelude.{Bool, chars, IsTrue, IsUtf8, ◌↔◌}
use Rattle.std.specs.List.{AllByRecursion, list_all}
use Rattle.std.specs.Str.{is_utf8, all_scalars}
use Rattle.std.proofs.Math.Utf8.{scalar}
use Rattle.std.proofs.lemmas.Bool.{and_parts, and_from}
use Rattle.std.proofs.lemmas.Bool.Decides.{nat_tests}
use Rattle.std.proofs.lemmas.List.{take_at, drop_at, get_or_at, append-nil}
use Rattle.std.proofs.lemmas.Str.{chars-encodes, encodes-chars, IsUtf8-from_is_utf8, is_utf8-from_IsUtf8, IsUtf8-take, IsUtf8-drop, IsCharBoundary-before_ascii, IsCharBoundary-after_ascii}
use Rattle.net_values.specs.Characters.{IsLegalCharacter, IsLegalText}
use Rattle.pnml_grammar.specs.Characters.{Each, is_space}
use Rattle.pnml_grammar.specs.Resolving.{is_legal_character, text_of}
use Rattle.pnml_grammar.specs.Reading.{is_legal}
use Rattle.pnml_grammar.proofs.EachLaws.{each_found, each_tested}
use Rattle.pnml_grammar.proofs.RunLaws.{chosen, some_is}
use Rattle.pnml_grammar.proofs.ReferenceLaws.{legal_is, legal_found}

pub legal_scalar : (c : ℕ) → IsLegalCharacter c → scalar c ≡ true
legal_scalar c h = grind (arith, nat_tests)

legal_scalars : (cs : List ℕ) → AllByRecursion IsLegalCharacter cs → all_scalars cs ≡ true
legal_scalars [] each = refl
legal_scalars (c ∷ cs) each = and_from (scalar c) (all_scalars cs) (legal_scalar c each.0) (legal_scalars cs each.1)

pub legal_utf8 : (bytes : List ℕ) → IsLegalText bytes → IsUtf8 bytes
legal_utf8 bytes h = (h.0, (legal_scalars h.0 h.1, h.2))

pub is_legal_is : (bytes : List ℕ) → IsLegalText bytes → is_legal bytes ≡ true
unfolding is_legal
is_legal_is bytes h =
    let cs : chars bytes ≡ h.0 = ap chars (sym h.2) ∙ chars-encodes h.0 (legal_scalars h.0 h.1) in
    and_from (is_utf8 bytes) (list_all is_legal_character (chars bytes)) (is_utf8-from_IsUtf8 bytes (legal_utf8 bytes h))
    (ap (list_all is_legal_character) cs ∙ each_tested IsLegalCharacter is_legal_character legal_is h.0 h.1)

pub is_legal_found : (bytes : List ℕ) → is_legal bytes ≡ true → IsLegalText bytes
unfolding is_legal
is_legal_found bytes e =
    let p = and_parts (is_utf8 bytes) (list_all is_legal_character (chars bytes)) e in
    (chars bytes, each_found IsLegalCharacter is_legal_character legal_found (chars bytes) p.1, encodes-chars bytes (IsUtf8-from_is_utf8 bytes p.0))

-- the test tells whether a text is legal
pub legal_text_decided : (bytes : List ℕ) (b : Bool) → IsUtf8 bytes → b ≡ list_all is_legal_character (chars bytes) → IsTrue b ↔ IsLegalText bytes
unfolding is_legal
legal_text_decided bytes b text e =
    let same : is_legal bytes ≡ b = rw (is_utf8-from_IsUtf8 bytes text) (sym e) in
    (λ holds. is_legal_found bytes (same ∙ holds), λ legal. sym same ∙ is_legal_is bytes legal)

pub text_again : (bytes : List ℕ) → IsUtf8 bytes → text_of bytes ≡ Some bytes
unfolding text_of
text_again bytes h = rw (is_utf8-from_IsUtf8 bytes h) refl

pub text_found : (bytes text : List ℕ) → text_of bytes ≡ Some text → bytes ≡ text
unfolding text_of
text_found bytes text e = some_is bytes text (chosen (is_utf8 bytes) (Some bytes) text e).1

-- ---- cuts

-- nothing, or an ASCII byte first
abbrev pub BeginsAscii : List ℕ → Type 0
BeginsAscii [] = Unit
BeginsAscii (b ∷ bs) = b < 128

pub utf8_split : (xs rest : List ℕ) → BeginsAscii rest → IsUtf8 (xs ++ rest) → IsUtf8 xs × IsUtf8 rest
utf8_split xs [] ascii h = (subst IsUtf8 (append-nil xs) h, ([], (refl, refl)))
utf8_split xs (b ∷ bs) ascii h =
    let inside : length xs < length (xs ++ b ∷ bs) = omega (arith, length-append xs (b ∷ bs)) in
    let at : get_or (xs ++ b ∷ bs) (length xs) 0 < 128 = rw (get_or_at xs b bs 0 (length xs) refl) ascii in
    let cut = IsCharBoundary-before_ascii (xs ++ b ∷ bs) (length xs) inside at in (
      subst IsUtf8 (take_at xs (b ∷ bs) (length xs) refl) (IsUtf8-take (xs ++ b ∷ bs) (length xs) h cut),
      subst IsUtf8 (drop_at xs (b ∷ bs) (length xs) refl) (IsUtf8-drop (xs ++ b ∷ bs) (length xs) h cut),
    )

pub utf8_past : (b : ℕ) (bs : List ℕ) → b < 128 → IsUtf8 (b ∷ bs) → IsUtf8 bs
utf8_past b bs ascii h = IsUtf8-drop (b ∷ bs) 1 h (IsCharBoundary-after_ascii (b ∷ bs) 0 h (omega arith) ascii)

space_is_ascii : (b : ℕ) → is_space b ≡ true → b < 128
space_is_ascii b e = grind (arith, nat_tests)

pub space_begins : (xs ys : List ℕ) → Each is_space xs → BeginsAscii ys → BeginsAscii (xs ++ ys)
space_begins [] ys each ascii = ascii
space_begins (x ∷ xs) ys each ascii = space_is_ascii x each.0

-- texts with the property may be cut at an ASCII byte: before it, and after it
pub record IsCutAtAscii (Property : List ℕ → Type 0) : Type 0 where
  pub before : (xs rest : List ℕ) → BeginsAscii rest → Property (xs ++ rest) → Property xs × Property rest
  pub past : (b : ℕ) (bs : List ℕ) → b < 128 → Property (b ∷ bs) → Property bs

pub cut_after_space : (Property : List ℕ → Type 0) → IsCutAtAscii Property → (xs ys : List ℕ) → Each is_space xs → Property (xs ++ ys) → Property ys
cut_after_space Property cut [] ys each h = h
cut_after_space Property cut (x ∷ xs) ys each h = cut_after_space Property cut xs ys each.1 (cut.past x (xs ++ ys) (space_is_ascii x each.0) h)

pub utf8_is_cut : IsCutAtAscii IsUtf8
utf8_is_cut = record { before = utf8_split; past = utf8_past }
