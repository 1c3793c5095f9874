-- Numbers in their decimal texts: read exactly, and of digits only.
use Rattle.std.proofs.Common.{◌≡◌, refl, sym, ap, ◌∙◌, subst, ℕ, ◌<◌, ◌≤◌, ◌^◌, ◌&&◌, if◌then◌else◌, Bool, true, false, List, [], ◌∷◌, length, Option, Some, None, decimal, arith}
use Rattle.std.specs.Prelude.{nat_le, nat_lt, bytes_eq}
use Rattle.std.specs.List.{AllByRecursion}
use Rattle.std.specs.Char.{digit_value}
use Rattle.std.specs.Str.Parse.{AllDigits, digits_value}
use Rattle.std.proofs.lemmas.Bool.{and_parts}
use Rattle.std.proofs.lemmas.Bool.Decides.{nat_tests}
use Rattle.std.proofs.lemmas.Fmt.{decimal_is_IsNumeral_wide}
use Rattle.std.proofs.lemmas.Slice.Eq.{bytes_eq-Decides}
use Rattle.certificates.specs.Words.{number_in}
use Rattle.certificates.proofs.Lists.{le_true, le_from}

pub same_bytes : (xs ys : List ℕ) → bytes_eq xs ys ≡ true → xs ≡ ys
same_bytes xs ys e = grind (arith, nat_tests, bytes_eq-Decides xs ys)

pub bytes_same : (xs : List ℕ) → bytes_eq xs xs ≡ true
bytes_same xs = grind (arith, nat_tests, bytes_eq-Decides xs xs)

lt_true : (a b : ℕ) → a < b → nat_lt a b ≡ true
lt_true a b h = grind (arith, nat_tests)

lt_from : (a b : ℕ) → nat_lt a b ≡ true → a < b
lt_from a b h = grind (arith, nat_tests)

-- what the text of a number from the least to below the limit means
pub record IsNumberText (least limit : ℕ) (text : List ℕ) (n : ℕ) : Type 0 where
  pub text_is : text ≡ decimal n
  pub least_is : least ≤ n
  pub below : n < limit

pub number_found : (least limit : ℕ) (text : List ℕ) (n : ℕ) → number_in least limit text ≡ Some n → IsNumberText least limit text n
unfolding number_in
number_found least limit text n = go ((nat_le least (digits_value 10 text) && nat_lt (digits_value 10 text) limit) && bytes_eq text (decimal (digits_value 10 text))) refl where
  go : (test : Bool) → ((nat_le least (digits_value 10 text) && nat_lt (digits_value 10 text) limit) && bytes_eq text (decimal (digits_value 10 text))) ≡ test →
      (if test then Some (digits_value 10 text) else None) ≡ Some n → IsNumberText least limit text n
  go true e found =
      let value : digits_value 10 text ≡ n = cc in
      let outer = and_parts (nat_le least (digits_value 10 text) && nat_lt (digits_value 10 text) limit) (bytes_eq text (decimal (digits_value 10 text))) e in
      let inner = and_parts (nat_le least (digits_value 10 text)) (nat_lt (digits_value 10 text) limit) outer.0 in
      record {
        text_is = same_bytes text (decimal (digits_value 10 text)) outer.1 ∙ ap decimal value;
        least_is = subst (λ (k : ℕ). least ≤ k) value (le_from least (digits_value 10 text) inner.0);
        below = subst (λ (k : ℕ). k < limit) value (lt_from (digits_value 10 text) limit inner.1);
      }
  go false e found = absurd (cc)

pub number_again : (least limit n : ℕ) → n < 2 ^ 128 → least ≤ n → n < limit → number_in least limit (decimal n) ≡ Some n
unfolding number_in
number_again least limit n fits low high =
    let value : digits_value 10 (decimal n) ≡ n = (decimal_is_IsNumeral_wide n (omega (arith, fits))).1 in
    let P : ℕ → Type 0 = λ k. (if (nat_le least k && nat_lt k limit) && bytes_eq (decimal n) (decimal k) then Some k else None) ≡ Some n in
    let plain : P n = rw (le_true least n low, lt_true n limit high, bytes_same (decimal n)) refl in
    subst P (sym value) plain

-- where a text isn't one of such a number, none is read
pub number_none : (least limit : ℕ) (text : List ℕ) → ((n : ℕ) → least ≤ n → n < limit → text ≡ decimal n → ⊥) → number_in least limit text ≡ None
number_none least limit text other = go (number_in least limit text) refl where
  go : (o : Option ℕ) → number_in least limit text ≡ o → o ≡ None
  go None e = refl
  go (Some n) e = let h = number_found least limit text n e in absurd (other n h.least_is h.below h.text_is)

-- a text is of one number
pub decimal_one : (m n : ℕ) → m < 2 ^ 128 → n < 2 ^ 128 → decimal m ≡ decimal n → m ≡ n
decimal_one m n low high same =
    sym (decimal_is_IsNumeral_wide m (omega (arith, low))).1 ∙ ap (digits_value 10) same ∙ (decimal_is_IsNumeral_wide n (omega (arith, high))).1

-- a number that is too low or too high isn't read
pub number_outside : (least limit n : ℕ) (text : List ℕ) → n < 2 ^ 128 → limit ≤ 2 ^ 128 → text ≡ decimal n → (least ≤ n → n < limit → ⊥) → number_in least limit text ≡ None
number_outside least limit n text fits wide is outside =
    number_none least limit text (λ m low below other.
    let same = decimal_one m n (omega (arith, below, wide)) fits (sym other ∙ is) in
    outside (subst (λ (k : ℕ). least ≤ k) same low) (subst (λ (k : ℕ). k < limit) same below))

pub number_read : (least limit n : ℕ) (text : List ℕ) → n < 2 ^ 128 → text ≡ decimal n → least ≤ n → n < limit → number_in least limit text ≡ Some n
number_read least limit n text fits is low high = ap (number_in least limit) is ∙ number_again least limit n fits low high

-- ---- the bytes of a number

abbrev pub IsDigit : ℕ → Type 0
IsDigit byte = (48 ≤ byte) × (byte < 58)

digit : (byte : ℕ) → digit_value byte < 10 → IsDigit byte
digit byte h = (grind (arith, nat_tests), grind (arith, nat_tests))

digits : (bytes : List ℕ) → AllDigits 10 bytes → AllByRecursion IsDigit bytes
digits [] each = tt
digits (byte ∷ bytes) each = (digit byte each.0, digits bytes each.1)

pub decimal_digits : (n : ℕ) → n < 2 ^ 128 → AllByRecursion IsDigit (decimal n)
decimal_digits n fits = digits (decimal n) (decimal_is_IsNumeral_wide n (omega (arith, fits))).0.1

pub decimal_some : (n : ℕ) → n < 2 ^ 128 → 0 < length (decimal n)
decimal_some n fits = (decimal_is_IsNumeral_wide n (omega (arith, fits))).0.0
