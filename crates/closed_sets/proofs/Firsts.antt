-- The lowest number below a bound that passes a test: there is one or none passes, and it is one. The members of a set
-- are walked from each to the next: those before the next one are those before the place that the walk has come to.
use Rattle.std.proofs.Common.{◌≡◌, sym, subst, ℕ, zero, suc, ◌<◌, ◌≤◌, ◌⊎◌, List, Bool, false, IsTrue, length, inl, inr, arith}
use Rattle.std.proofs.lemmas.Bool.{cases_lt, cases_eq, both_ways, cases_Bool}
use Rattle.std.proofs.lemmas.List.{get_or_past}
use Rattle.net_values.specs.PlaceSets.{has, HasNoneFrom, IsFirstFrom}
use Rattle.closed_sets.specs.Growth.{IsFirst}

-- the lowest number that passes, or none does
pub first_of : (n : ℕ) (test : ℕ → Bool) → ((k : ℕ) × IsFirst n test k) ⊎ ((k : ℕ) → k < n → test k ≡ false)
first_of zero test = inr (λ k below. absurd (omega arith))
first_of (suc n) test =
    elim (first_of n test) [
      | inl found ↦ inl (found.0, record { below = omega (arith, found.1.below); passes = found.1.passes; before = found.1.before })
      | inr none ↦ elim (cases_Bool (test n)) [
        | inl passes ↦ inl (n, record { below = omega arith; passes = passes; before = none })
        | inr fails ↦ inr (λ k below. elim (cases_eq k n) [
          | inl same ↦ subst (λ (m : ℕ). test m ≡ false) (sym same) fails
          | inr other ↦ none k (omega arith)
        ])
      ]
    ]

pub first_same : (n : ℕ) (test : ℕ → Bool) (a b : ℕ) → IsFirst n test a → IsFirst n test b → a ≡ b
first_same n test a b one other =
    elim (cases_lt a b) [
      | inl below ↦ absurd (both_ways (test a) (other.before a below) one.passes)
      | inr above ↦ elim (cases_lt b a) [
        | inl below ↦ absurd (both_ways (test b) (one.before b below) other.passes)
        | inr equal ↦ omega arith
      ]
    ]

-- a member before the first one from a place on is below that place, and so is every member where there is none from it on
pub before_first : (set : List Bool) (from p q : ℕ) → IsFirstFrom set from p → q < p → IsTrue (has set q) → q < from
before_first set from p q first below member =
    elim (cases_lt q from) [
      | inl before ↦ before
      | inr after ↦ absurd (both_ways (has set q) (first.first q (omega arith) below) member)
    ]

pub before_all : (set : List Bool) (from q : ℕ) → HasNoneFrom set from → IsTrue (has set q) → q < from
before_all set from q none member =
    elim (cases_lt q from) [
      | inl before ↦ before
      | inr after ↦ absurd (both_ways (has set q) (none q (omega arith)) member)
    ]

pub none_past : (set : List Bool) (from : ℕ) → length set ≤ from → HasNoneFrom set from
none_past set from past p after = get_or_past set p false (omega arith)
