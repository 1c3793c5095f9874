-- A list of semiflows that generates all has a first wide member or none, and gives each place its least bound:
-- both are found row by row.
use Rattle.std.proofs.Common.{◌≡◌, ◌⊎◌, ℕ, zero, suc, ◌+◌, ◌^◌, ◌<◌, ◌≤◌, List, Option, None, length, sym, subst, arith, inl, inr, map}
use Rattle.std.specs.List.{range_with_len}
use Rattle.std.specs.Cmp.Lexicographic.{slice_cmp}
use Rattle.std.specs.Ordering.{nat_cmp}
use Rattle.std.proofs.lemmas.Bool.{cases_lt}
use Rattle.std.proofs.lemmas.List.FromFn.{get_or-map-range_with_len, length-map-range_with_len}
use Rattle.net_values.specs.Net.{Net}
use Rattle.net_values.specs.TheList.{IsTheList}
use Rattle.bounds.specs.declared.place_bound.PlaceBound.{PlaceBound}
use Rattle.bounds.specs.LeastBound.{IsLeastBound}
use Rattle.bounds.specs.Listed.{kept_at, bound_of, row_at, tokens_of, tightened, IsLeastOfRows, AreLeastBounds, AreNarrowRows, NameFirstRows, IsFirstWideRow}
use Rattle.bounds.proofs.OfRows.{below_more, row_more, least_bound}
use Rattle.bounds.proofs.Sums.{Generate}
use Rattle.incidence.specs.Matrix.{incidence_of}
use Rattle.incidence.specs.Semiflow.{all_columns}
use Rattle.semiflow_elim.specs.Bases.{IsMinimalRow}

module _ (net : Net) (list : List (List ℕ)) where
  abbrev pub NarrowOrWide : ℕ → Type 0
  NarrowOrWide n = AreNarrowRows net list n ⊎ ((row : ℕ) × (row < n) × (2 ^ 127 ≤ tokens_of net list row) × AreNarrowRows net list row)

  narrow_or_wide : (n : ℕ) → NarrowOrWide n
  narrow_or_wide zero = inl (λ k under. absurd (omega arith))
  narrow_or_wide (suc n) = elim (narrow_or_wide n) [
    | inl narrow ↦ elim (cases_lt (tokens_of net list n) (2 ^ 127)) [
      | inl last ↦ inl (λ k under. below_more n (λ j. tokens_of net list j < 2 ^ 127) narrow last k (omega (arith, under)))
      | inr wide ↦ inr (n, omega arith, wide, narrow)
    ]
    | inr found ↦ inr (found.0, omega (arith, found.1), found.2, found.3)
  ]

  pub narrow_or_first_wide : AreNarrowRows net list (length list) ⊎ ((row : ℕ) × IsFirstWideRow net list row)
  narrow_or_first_wide = elim (narrow_or_wide (length list)) [
    | inl narrow ↦ inl narrow
    | inr found ↦ inr (found.0, record { within = found.1; wide = found.2; before = found.3 })
  ]

  pub of_rows : (p n : ℕ) → (kept : Option PlaceBound) × IsLeastOfRows net list n p kept
  of_rows p zero = (None, λ k under. absurd (omega arith))
  of_rows p (suc n) =
      let old = of_rows p n in
      let e : n + 1 ≡ suc n = omega arith in
      (tightened old.0 (row_at list n p) (tokens_of net list n) n, subst (λ (k : ℕ). IsLeastOfRows net list k p (tightened old.0 (row_at list n p) (tokens_of net list n) n)) e (row_more net list p n old.0 old.1))

  abbrev pub all_kept : List (Option PlaceBound)
  all_kept = map (λ p. (of_rows p (length list)).0) (range_with_len 0 net.places)

  pub all_sized : length all_kept ≡ net.places
  all_sized = length-map-range_with_len (λ p. (of_rows p (length list)).0) 0 net.places

  kept_is : (p : ℕ) → p < net.places → kept_at all_kept p ≡ (of_rows p (length list)).0
  kept_is p under = get_or-map-range_with_len (λ q. (of_rows q (length list)).0) 0 net.places p p None under (omega arith)

  pub all_least : IsTheList (slice_cmp nat_cmp) (IsMinimalRow (incidence_of net) all_columns) list → Generate net list → AreLeastBounds net all_kept
  all_least is generate = λ p under.
      subst (λ (kept : Option PlaceBound). IsLeastBound net p (bound_of kept)) (sym (kept_is p under))
      (least_bound net list p is generate under (of_rows p (length list)).0 (of_rows p (length list)).1)

  pub all_first : NameFirstRows net list all_kept
  all_first p under =
      subst (λ (kept : Option PlaceBound). IsLeastOfRows net list (length list) p kept) (sym (kept_is p under)) (of_rows p (length list)).1
