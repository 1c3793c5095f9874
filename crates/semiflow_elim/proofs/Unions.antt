-- The support of a row in the union of those of two others, as sets and as entries: past its end a row is 0.
use Rattle.std.proofs.Common.{◌≡◌, ◌⊎◌, ◌↔◌, refl, sym, ◌∙◌, subst, ℕ, ◌+◌, ◌<◌, IsTrue, Bool, true, false, MatchBool, List, length, slice_index, inl, inr, arith}
use Rattle.std.proofs.lemmas.Bool.{cases_lt, ltb-true, lt-ltb, false≢true}
use Rattle.std.proofs.lemmas.List.{get_or_past}
use Rattle.net_values.specs.PlaceSets.{has, IsWithinEither}
use Rattle.net_values.specs.Vectors.{support_of}
use Rattle.net_values.proofs.Supports.{support_has}
use Rattle.incidence.specs.Matrix.{Matrix}
use Rattle.incidence.specs.Semiflow.{IsWithin}
use Rattle.semiflow_elim.specs.Adjacent.{IsInUnion, IsThird}
use Rattle.semiflow_elim.specs.Elimination.{row_of}

position_entry : (row : List ℕ) (p : ℕ) → IsTrue (has (support_of row) p) → 0 < slice_index row p
position_entry row p member = ltb-true 0 (slice_index row p) (sym (support_has row p) ∙ member)

entry_position : (row : List ℕ) (p : ℕ) → 0 < slice_index row p → IsTrue (has (support_of row) p)
entry_position row p some = support_has row p ∙ lt-ltb 0 (slice_index row p) some

pub union_within : (m : Matrix) (t r s : List ℕ) → length t ≡ m.rows → IsWithinEither (support_of t) (support_of r) (support_of s) → IsWithin m (slice_index t) (λ x. slice_index r x + slice_index s x)
union_within m t r s size within x under some =
    elim (within x (entry_position t x some)) [
      | inl first ↦ let more = position_entry r x first in omega arith
      | inr second ↦ let more = position_entry s x second in omega arith
    ]

pub within_union : (m : Matrix) (t r s : List ℕ) → length t ≡ m.rows → IsWithin m (slice_index t) (λ x. slice_index r x + slice_index s x) → IsWithinEither (support_of t) (support_of r) (support_of s)
within_union m t r s size within p member =
    let some = position_entry t p member in
    elim (cases_lt p m.rows) [
      | inr past ↦ let none = get_or_past t p 0 (omega arith) in absurd (omega arith)
      | inl under ↦
          let sum : 0 < slice_index r p + slice_index s p = within p under some in
          elim (cases_lt 0 (slice_index r p)) [
            | inl first ↦ inl (entry_position r p first)
            | inr none ↦ inr (entry_position s p (omega arith))
          ]
    ]

-- what the test of the sets says of the rows
module _ (m : Matrix) (rows : List (List ℕ)) (i k j : ℕ) (t u v : List Bool) (size : length (row_of rows j) ≡ m.rows) (t_is : t ≡ support_of (row_of rows j)) (u_is : u ≡ support_of (row_of rows i)) (v_is : v ≡ support_of (row_of rows k)) where
  of_sets : IsWithinEither t u v → IsInUnion m rows i k j
  of_sets within =
      union_within m (row_of rows j) (row_of rows i) (row_of rows k) size
      (subst (IsWithinEither (support_of (row_of rows j)) (support_of (row_of rows i))) v_is
      (subst (λ (z : List Bool). IsWithinEither (support_of (row_of rows j)) z v) u_is
      (subst (λ (z : List Bool). IsWithinEither z u v) t_is within)))

  of_rows : IsInUnion m rows i k j → IsWithinEither t u v
  of_rows within =
      subst (λ (z : List Bool). IsWithinEither z u v) (sym t_is)
      (subst (λ (z : List Bool). IsWithinEither (support_of (row_of rows j)) z v) (sym u_is)
      (subst (IsWithinEither (support_of (row_of rows j)) (support_of (row_of rows i))) (sym v_is)
      (within_union m (row_of rows j) (row_of rows i) (row_of rows k) size within)))

  pub third_cases : (r : Bool) → (j ≡ i → ⊥) → (j ≡ k → ⊥) → (IsTrue r ↔ IsWithinEither t u v) → MatchBool r (IsThird m rows i k j) (IsInUnion m rows i k j → (j ≡ i) ⊎ (j ≡ k))
  third_cases true first second test = record { within = of_sets (test.0 refl); not_first = first; not_second = second }
  third_cases false first second test = λ within. absurd (false≢true (test.1 (of_rows within)))
