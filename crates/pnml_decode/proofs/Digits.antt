-- Digits are ASCII without a sign in front, so that they parse exactly to the number that they write.
use Rattle.std.proofs.Common.{◌≡◌, ℕ, suc, ◌<◌, ◌^◌, Bool, true, false, cond, List, [], ◌∷◌, Some, None, Result, Ok, Err, length, refl, ap, subst, arith}
use Rattle.std.specs.Prelude.{◌==◌, nat_le, nat_lt}
use Rattle.std.specs.Result.{result_ok, OkIff}
use Rattle.std.specs.Char.{digit_value}
use Rattle.std.specs.Str.Parse.{AllDigits, IsNumeral, ParsesUnsigned, digits_value, without_leading_plus}
use Rattle.std.proofs.lemmas.Bool.{and_parts, lt-ltb, ltb-true}
use Rattle.std.proofs.lemmas.Bool.Decides.{nat_tests}
use Rattle.pnml_grammar.specs.declared.element.Context.{Context}
use Rattle.pnml_grammar.specs.Characters.{is_space}
use Rattle.pnml_grammar.specs.Numerals.{is_digit, is_white, numeral, number_in}
use Rattle.pnml_grammar.specs.Runs.{passed, beyond}
use Rattle.pnml_decode.specs.Numbers.{narrow, number_of}

digit : (c : ℕ) → is_digit c ≡ true → digit_value c < 10
digit c e = grind (arith, nat_tests)

-- the digits that come first are digits
pub passed_digits : (bytes : List ℕ) → AllDigits 10 (passed is_digit bytes)
passed_digits [] = tt
passed_digits (c ∷ cs) = go (is_digit c) refl (passed_digits cs) where
  go : (b : Bool) → is_digit c ≡ b → AllDigits 10 (passed is_digit cs) → AllDigits 10 (cond b (c ∷ passed is_digit cs) [])
  go true e rest = (digit c e, rest)
  go false e rest = tt

no_sign : (c : ℕ) → digit_value c < 10 → (c == 43) ≡ false
no_sign c h = grind (arith, nat_tests)

plain : (digits : List ℕ) → AllDigits 10 digits → without_leading_plus digits ≡ digits
plain [] each = refl
plain (c ∷ cs) each = rw (no_sign c each.0) refl

narrowed : (x n : ℕ) → n < 2 ^ 64 → x ≡ n → Some x ≡ narrow n
narrowed x n small e = rw (lt-ltb n (2 ^ 64) small) (ap Some e)

too_wide : (n : ℕ) → (n < 2 ^ 64 → ⊥) → None ≡ narrow n
too_wide n wide = go (nat_lt n (2 ^ 64)) refl where
  go : (b : Bool) → nat_lt n (2 ^ 64) ≡ b → None ≡ cond b (Some n) None
  go true e = absurd (wide (ltb-true n (2 ^ 64) e))
  go false e = refl

some : (n : ℕ) → nat_le 1 (suc n) ≡ true
some n = grind (arith, nat_tests)

read : {E : Type 0} (r : Result ℕ E) (digits : List ℕ) → AllDigits 10 digits →
    OkIff r (IsNumeral 10 digits × (digits_value 10 digits < 2 ^ 64)) (digits_value 10 digits) → result_ok r ≡ number_of digits
read (Ok x) [] each parses = absurd (omega (arith, parses.0.0.0))
read (Ok x) (c ∷ cs) each parses = rw (some (length cs)) (narrowed x (digits_value 10 (c ∷ cs)) parses.0.1 parses.1)
read (Err e) [] each parses = refl
read (Err e) (c ∷ cs) each parses = rw (some (length cs)) (too_wide (digits_value 10 (c ∷ cs)) (λ small. parses ((omega arith, each), small)))

pub parsed : {E : Type 0} (r : Result ℕ E) (digits : List ℕ) → AllDigits 10 digits → ParsesUnsigned 64 10 digits r → result_ok r ≡ number_of digits
parsed r digits each parses =
    let F : List ℕ → Type 0 = λ bytes. OkIff r (IsNumeral 10 bytes × (digits_value 10 bytes < 2 ^ 64)) (digits_value 10 bytes) in
    read r digits each (subst F (plain digits each) parses)

-- ---- white space has no digits

white_passed : (bytes : List ℕ) → is_white bytes ≡ true → beyond is_space bytes ≡ []
white_passed [] e = refl
white_passed (c ∷ cs) e = let p = and_parts (is_space c) (is_white cs) e in rw p.0 (white_passed cs p.1)

pub white_is_no_number : (context : Context) (bytes : List ℕ) → is_white bytes ≡ true → number_in context bytes ≡ None
unfolding number_in numeral
white_is_no_number context bytes e = rw (white_passed bytes e) refl
