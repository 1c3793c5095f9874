use Rattle.std.proofs.Common.{inl, inr, arith}
use Rattle.std.proofs.lemmas.Bool.{cases_lt}
use Rattle.cert_check.proofs.laws.one_false_line.Goals as goal

pub returns : goal.returns
returns c net certificate one other first second =
    elim (cases_lt one other) [
      | inl below ↦ absurd (first.fails (second.before one below))
      | inr above ↦ elim (cases_lt other one) [
        | inl below ↦ absurd (second.fails (first.before other below))
        | inr equal ↦ omega arith
      ]
    ]
