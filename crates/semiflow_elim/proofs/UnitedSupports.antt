-- The sum of positive multiples of two rows is positive exactly in the union of their supports.
use Rattle.std.proofs.Common.{◌≡◌, sym, ◌∙◌, ℕ, zero, suc, ◌+◌, ◌*◌, ◌<◌, ◌≤◌, List, Bool, false, slice_index, inl, inr, arith}
use Rattle.std.proofs.lemmas.Bool.{cases_lt, lt-ltb, true≢false}
use Rattle.net_values.specs.PlaceSets.{has}
use Rattle.semiflow_elim.specs.Arithmetic.{IsUnionOf}

pub sum_positive : (x r y s : ℕ) → 0 < x → 0 < y → 0 < r + s → 0 < x * r + y * s
sum_positive zero r y s first second some = absurd (omega arith)
sum_positive (suc x) r zero s first second some = absurd (omega arith)
sum_positive (suc x) zero (suc y) zero first second some = absurd (omega arith)
sum_positive (suc x) (suc r) (suc y) s first second some = omega arith
sum_positive (suc x) zero (suc y) (suc s) first second some = omega arith

pub both_zero : (x r y s : ℕ) → r + s ≤ 0 → x * r + y * s ≡ 0
both_zero x zero y zero none = omega arith
both_zero x (suc r) y s none = absurd (omega arith)
both_zero x zero y (suc s) none = absurd (omega arith)

-- where neither row is positive, the sum of their multiples is 0
pub outside_zero : (x y : ℕ) (r s : List ℕ) (either : List Bool) (i : ℕ) → IsUnionOf r s either → has either i ≡ false → x * slice_index r i + y * slice_index s i ≡ 0
outside_zero x y r s either i u out =
    elim (cases_lt 0 (slice_index r i + slice_index s i)) [
      | inl some ↦ absurd (true≢false (sym (u.members i ∙ lt-ltb 0 (slice_index r i + slice_index s i) some) ∙ out))
      | inr none ↦ both_zero x (slice_index r i) y (slice_index s i) none
    ]
