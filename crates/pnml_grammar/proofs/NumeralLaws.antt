-- Decimal texts: all of their bytes are digits, so they are written as they are, and they read back as the
-- number.
use Rattle.std.proofs.Common.{◌≡◌, ℕ, ◌+◌, ◌<◌, ◌≤◌, ◌^◌, ◌%◌, true, List, [], ◌∷◌, ◌++◌, length, refl, sym, ap, subst, ◌∙◌, arith, append-nil, Option, Some, None}
use Rattle.std.specs.Prelude.{◌==◌, ◌&&◌, not, nat_le, nat_lt, decimal}
use Rattle.std.specs.List.{list_all}
use Rattle.std.specs.Str.Parse.{digits_value}
use Rattle.std.proofs.Math.Nat.{mod-lt}
use Rattle.std.proofs.lemmas.Bool.{and_parts, and_from, leb-true, ltb-true, le-leb, lt-ltb, true≢false}
use Rattle.std.proofs.lemmas.Bool.Decides.{nat_tests}
use Rattle.std.proofs.lemmas.Fmt.{decimal_by_steps, decimal_is_IsNumeral, decimal_nonempty, length-decimal-le}
use Rattle.std.proofs.lemmas.List.Folds.{list_all-append}
use Rattle.net_values.specs.Characters.{IsLegalText}
use Rattle.pnml_grammar.specs.declared.element.Context.{Context}
use Rattle.pnml_grammar.specs.declared.element.Context.TheVariants as contexts
use Rattle.pnml_grammar.specs.Characters.{Each, is_space, is_between}
use Rattle.pnml_grammar.specs.Numerals.{is_digit, is_white, IsNumeral, IsInRange, numeral, is_in_range, number_if_any, number_in, AreRead}
use Rattle.pnml_grammar.specs.Canon.{escape, escaped}
use Rattle.pnml_grammar.specs.Runs.{passed, beyond}
use Rattle.pnml_grammar.proofs.RunLaws.{chosen, some_is, Stops, passed-beyond, passed_each, passed_is, after_is}
use Rattle.pnml_grammar.proofs.EscapeLaws.{is_printed, printed_text, is_clean, escape_plain}

one_digit : (d : ℕ) → d < 10 → list_all is_digit ((48 + d) ∷ []) ≡ true
one_digit d small =
    let e : is_digit (48 + d) ≡ true = grind (arith, nat_tests) in
    rw e refl

all_digits : (n : ℕ) → n < 2 ^ 64 → list_all is_digit (decimal n) ≡ true
all_digits n small =
    decimal_by_steps (λ m ds. list_all is_digit ds ≡ true) one_digit
    (λ m ds some is. list_all-append is_digit ds ((48 + m % 10) ∷ []) ∙ and_from (list_all is_digit ds) _ is (one_digit (m % 10) (mod-lt m (omega arith)))) n small

-- ---- digits are written as they are

digit_escape : (b : ℕ) → is_digit b ≡ true → escape b ≡ b ∷ []
digit_escape b digit =
    let plain : (not (b == 38) && is_clean b) ≡ true = grind (arith, nat_tests) in
    escape_plain b plain

digits_escape : (bytes : List ℕ) → list_all is_digit bytes ≡ true → escaped bytes ≡ bytes
unfolding escaped
digits_escape [] e = refl
digits_escape (b ∷ bs) e =
    let p = and_parts (is_digit b) (list_all is_digit bs) e in
    rw (digit_escape b p.0) (ap (λ (t : List ℕ). b ∷ t) (digits_escape bs p.1))

digits_printed : (bytes : List ℕ) → list_all is_digit bytes ≡ true → is_printed bytes ≡ true
digits_printed [] e = refl
digits_printed (b ∷ bs) e =
    let p = and_parts (is_digit b) (list_all is_digit bs) e in
    let printed : is_between 32 127 b ≡ true = grind (arith, nat_tests) in
    and_from (is_between 32 127 b) (is_printed bs) printed (digits_printed bs p.1)

pub decimal_escaped : (n : ℕ) → n < 2 ^ 64 → escaped (decimal n) ≡ decimal n
decimal_escaped n small = digits_escape (decimal n) (all_digits n small)

pub decimal_legal : (n : ℕ) → n < 2 ^ 64 → IsLegalText (decimal n)
decimal_legal n small = printed_text (decimal n) (digits_printed (decimal n) (all_digits n small))

pub decimal_short : (n : ℕ) → n < 2 ^ 64 → length (decimal n) ≤ 20
decimal_short n small = length-decimal-le 20 n (omega arith) (omega arith) small

-- ---- what is read is a numeral, and each numeral is read

white_each : (bytes : List ℕ) → is_white bytes ≡ true → Each is_space bytes
white_each [] e = tt
white_each (b ∷ bs) e = let p = and_parts (is_space b) (is_white bs) e in (p.0, white_each bs p.1)

each_white : (bytes : List ℕ) → Each is_space bytes → is_white bytes ≡ true
each_white [] each = refl
each_white (b ∷ bs) each = and_from (is_space b) (is_white bs) each.0 (each_white bs each.1)

digits_stop : (digits after : List ℕ) → Each is_digit digits → 1 ≤ length digits → Stops is_space (digits ++ after)
digits_stop [] after each some = absurd (omega arith)
digits_stop (d ∷ ds) after each some = let digit = each.0 in grind (arith, nat_tests)

space_stops : (after : List ℕ) → Each is_space after → Stops is_digit after
space_stops [] each = tt
space_stops (b ∷ bs) each = let space = each.0 in grind (arith, nat_tests)

numeral_reads : (bytes digits after : List ℕ) (n : ℕ) → beyond is_space bytes ≡ digits ++ after → passed is_digit (digits ++ after) ≡ digits → beyond is_digit (digits ++ after) ≡ after
    → nat_le 1 (length digits) ≡ true → is_white after ≡ true → digits_value 10 digits ≡ n → numeral bytes ≡ Some n
unfolding numeral
numeral_reads bytes digits after n e0 e1 e2 e3 e4 e5 = rw (e0, e1, e2, e3, e4, e5) refl

numeral_is : (bytes : List ℕ) (n : ℕ) → IsNumeral bytes n → numeral bytes ≡ Some n
numeral_is bytes n is =
    let stops = digits_stop is.digits is.after is.digit is.some in
    numeral_reads bytes is.digits is.after n
    (ap (beyond is_space) is.spelling ∙ after_is is_space is.before (is.digits ++ is.after) is.space stops)
    (passed_is is_digit is.digits is.after is.digit (space_stops is.after is.trailing))
    (after_is is_digit is.digits is.after is.digit (space_stops is.after is.trailing))
    (le-leb 1 (length is.digits) is.some) (each_white is.after is.trailing) (sym is.value)

numeral_found : (bytes : List ℕ) (n : ℕ) → numeral bytes ≡ Some n → IsNumeral bytes n
unfolding numeral
numeral_found bytes n e =
    let rest = beyond is_space bytes in
    let digits = passed is_digit rest in
    let g = chosen (nat_le 1 (length digits) && is_white (beyond is_digit rest)) (Some (digits_value 10 digits)) n e in
    let p = and_parts (nat_le 1 (length digits)) (is_white (beyond is_digit rest)) g.0 in
    record {
      before = passed is_space bytes;
      digits = digits;
      after = beyond is_digit rest;
      spelling = sym (passed-beyond is_space bytes) ∙ ap (λ (t : List ℕ). passed is_space bytes ++ t) (sym (passed-beyond is_digit rest));
      space = passed_each is_space bytes;
      digit = passed_each is_digit rest;
      some = leb-true 1 (length digits) p.0;
      trailing = white_each (beyond is_digit rest) p.1;
      value = sym (some_is (digits_value 10 digits) n g.1);
    }

in_range : (context : Context) (n : ℕ) → IsInRange context n → is_in_range context n ≡ true
in_range contexts.MarkingText n is = lt-ltb n (2 ^ 64) is
in_range contexts.WeightText n is = and_from (nat_le 1 n) (nat_lt n (2 ^ 64)) (le-leb 1 n is.0) (lt-ltb n (2 ^ 64) is.1)
in_range _ n is = absurd is

range_found : (context : Context) (n : ℕ) → is_in_range context n ≡ true → IsInRange context n
range_found contexts.MarkingText n e = ltb-true n (2 ^ 64) e
range_found contexts.WeightText n e = let p = and_parts (nat_le 1 n) (nat_lt n (2 ^ 64)) e in (leb-true 1 n p.0, ltb-true n (2 ^ 64) p.1)
range_found _ n e = absurd (true≢false (sym e))

any_found : (context : Context) (found : Option ℕ) (n : ℕ) → number_if_any context found ≡ Some n → (found ≡ Some n) × IsInRange context n
any_found context None n e = absurd cc
any_found context (Some m) n e =
    let g = chosen (is_in_range context m) (Some m) n e in
    (g.1, range_found context n (subst (λ (k : ℕ). is_in_range context k ≡ true) (some_is m n g.1) g.0))

number_read : (context : Context) (bytes : List ℕ) (n : ℕ) → IsNumeral bytes n → IsInRange context n → number_in context bytes ≡ Some n
unfolding number_in
number_read context bytes n is range = rw (numeral_is bytes n is, in_range context n range) refl

number_found : (context : Context) (bytes : List ℕ) (n : ℕ) → number_in context bytes ≡ Some n → IsNumeral bytes n × IsInRange context n
unfolding number_in
number_found context bytes n e = let found = any_found context (numeral bytes) n e in (numeral_found bytes n found.0, found.1)

pub numbers_are_read : AreRead
numbers_are_read context bytes n = (number_found context bytes n, λ is. number_read context bytes n is.0 is.1)

-- ---- decimal texts read back

each_digit : (bytes : List ℕ) → list_all is_digit bytes ≡ true → Each is_digit bytes
each_digit [] e = tt
each_digit (b ∷ bs) e =
    let p = and_parts (is_digit b) (list_all is_digit bs) e in
    (p.0, each_digit bs p.1)

pub decimal_numeral : (n : ℕ) → n < 2 ^ 64 → numeral (decimal n) ≡ Some n
decimal_numeral n small =
    numeral_is (decimal n) n (record {
      before = [];
      digits = decimal n;
      after = [];
      spelling = sym (append-nil (decimal n));
      space = tt;
      digit = each_digit (decimal n) (all_digits n small);
      some = decimal_nonempty n small;
      trailing = tt;
      value = sym (decimal_is_IsNumeral n small).1;
    })

pub decimal_marking : (n : ℕ) → n < 2 ^ 64 → number_in contexts.MarkingText (decimal n) ≡ Some n
unfolding number_in
decimal_marking n small = rw (decimal_numeral n small, lt-ltb n (2 ^ 64) small) refl

pub decimal_weight : (n : ℕ) → 1 ≤ n → n < 2 ^ 64 → number_in contexts.WeightText (decimal n) ≡ Some n
unfolding number_in
decimal_weight n some small = rw (decimal_numeral n small, le-leb 1 n some, lt-ltb n (2 ^ 64) small) refl
