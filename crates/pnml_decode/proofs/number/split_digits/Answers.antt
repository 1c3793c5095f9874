-- The bytes in front are digits.
use Rattle.std.proofs.Common.{List, ℕ, sym, subst}
use Rattle.std.specs.Str.Parse.{AllDigits}
use Rattle.pnml_grammar.specs.Numerals.{is_digit}
use Rattle.pnml_token.proofs.Prefixes.{cut_front, cut_rest}
use Rattle.pnml_decode.proofs.Digits.{passed_digits}
use Rattle.pnml_decode.proofs.number.split_digits.Goals as goal

pub returns-clause-digits : goal.returns-clause-digits
returns-clause-digits c = cut_front is_digit c.args.bytes.now c.split_at.result.0.now c.digits_length.result c.split_at.ensures.front c.digits_length.ensures

pub returns-clause-rest : goal.returns-clause-rest
returns-clause-rest c = cut_rest is_digit c.args.bytes.now c.split_at.result.1.now c.digits_length.result c.split_at.ensures.back c.digits_length.ensures

pub returns-clause-decimal : goal.returns-clause-decimal
returns-clause-decimal c =
    let F : List ℕ → Type 0 = AllDigits 10 in
    subst F (sym (cut_front is_digit c.args.bytes.now c.split_at.result.0.now c.digits_length.result c.split_at.ensures.front c.digits_length.ensures)) (passed_digits c.args.bytes.now)
