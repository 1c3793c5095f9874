-- The test of UTF-8 by the standard library is the one of `text_of`. What its text has, the bytes have.
use Rattle.std.proofs.Common.{◌≡◌, ℕ, Bool, true, List, Some, None, is_some, refl, sym, ap, ◌∙◌, inl, inr}
use Rattle.std.specs.Prelude.{IsUtf8}
use Rattle.std.specs.Str.{is_utf8}
use Rattle.std.proofs.lemmas.Bool.{cases_Bool}
use Rattle.std.proofs.lemmas.Str.{IsUtf8-from_is_utf8}
use Rattle.pnml_grammar.specs.Resolving.{text_of, value_of, resolved, literal}
use Rattle.pnml_grammar.proofs.TextLaws.{text_again}

pub text_is : (text bytes : List ℕ) → (text ≡ bytes) × IsUtf8 bytes → text_of bytes ≡ Some text
text_is text bytes h = text_again bytes h.1 ∙ ap (λ (t : List ℕ). Some t) (sym h.0)

pub no_text : (bytes : List ℕ) → ¬ (IsUtf8 bytes) → text_of bytes ≡ None
unfolding text_of
no_text bytes h = elim (cases_Bool (is_utf8 bytes)) [ inl utf8 ↦ absurd (h (IsUtf8-from_is_utf8 bytes utf8)) | inr other ↦ rw other refl ]

pub value_there : (spaces : Bool) (text bytes : List ℕ) → text_of bytes ≡ Some text → is_some (resolved (literal spaces text)) ≡ true → is_some (value_of spaces bytes) ≡ true
unfolding value_of
value_there spaces text bytes is there = rw is there
