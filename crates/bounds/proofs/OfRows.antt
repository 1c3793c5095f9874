-- One row more makes the bound of a place smaller or leaves it, and the bound of all rows is the least bound
-- over all semiflows. It holds at every reachable marking, since some semiflow gives it.
use Rattle.std.proofs.Common.{◌≡◌, refl, sym, ap, subst, ℕ, ◌+◌, ◌*◌, ◌/◌, ◌<◌, ◌≤◌, cond, List, [], length, get_or, Option, None, Some, MatchOption, inl, inr, arith}
use Rattle.std.proofs.Math.Nat.{div-mul-le_self, mul-le-mul_left}
use Rattle.std.proofs.lemmas.Nat.{le-div}
use Rattle.std.proofs.lemmas.Bool.{cases_lt, cases_eq, eq-eqb, ne_eqb, lt-ltb, le-ltb}
use Rattle.std.proofs.lemmas.List.Elements.{Contains-get_or}
use Rattle.std.specs.Cmp.Lexicographic.{slice_cmp}
use Rattle.std.specs.Ordering.{nat_cmp}
use Rattle.net_values.specs.Net.{Net}
use Rattle.net_values.specs.TheList.{IsTheList}
use Rattle.net_values.specs.TokenGame.{IsReachable}
use Rattle.incidence.specs.Matrix.{incidence_of}
use Rattle.incidence.specs.Semiflow.{all_columns}
use Rattle.incidence.specs.Invariance.{weighted_tokens, IsPlaceSemiflow}
use Rattle.incidence.proofs.Firing.{semiflows_bound_places}
use Rattle.semiflow_elim.specs.Bases.{IsMinimalRow}
use Rattle.bounds.specs.declared.place_bound.PlaceBound.{PlaceBound}
use Rattle.bounds.specs.LeastBound.{bound_by, IsLeastBound}
use Rattle.bounds.specs.Listed.{row_at, tokens_of, bound_of, tightened, smaller_of, IsFirstLeast, IsLeastOfRows}
use Rattle.bounds.proofs.Sums.{Generate, bound_all, none_covers}

-- what a row that doesn't cover the place leaves, and what one that does
skipped : (kept : Option PlaceBound) (entry tokens row : ℕ) → entry ≡ 0 → tightened kept entry tokens row ≡ kept
skipped kept entry tokens row none = ap (λ b. cond b kept (smaller_of kept record { bound = tokens / entry; row = row })) (eq-eqb entry 0 none)

taken : (kept : Option PlaceBound) (entry tokens row : ℕ) → (entry ≡ 0 → ⊥) → tightened kept entry tokens row ≡ smaller_of kept record { bound = tokens / entry; row = row }
taken kept entry tokens row some = ap (λ b. cond b kept (smaller_of kept record { bound = tokens / entry; row = row })) (ne_eqb entry 0 some)

pub below_more : (n : ℕ) (P : ℕ → Type 0) → ((k : ℕ) → k < n → P k) → P n → (k : ℕ) → k < n + 1 → P k
below_more n P front last k under =
    elim (cases_lt k n) [
      | inl below ↦ front k below
      | inr above ↦ let same : n ≡ k = omega arith in subst P same last
    ]

module _ (net : Net) (rows : List (List ℕ)) (p : ℕ) where
  same_more : (n : ℕ) (kept : Option PlaceBound) → IsLeastOfRows net rows n p kept → row_at rows n p ≡ 0 → IsLeastOfRows net rows (n + 1) p kept
  same_more n None h none = below_more n (λ k. row_at rows k p ≡ 0) h none
  same_more n (Some kept) h none = record {
    within = let under = h.within in omega arith;
    covers = h.covers;
    gives = h.gives;
    least = below_more n (λ k. 0 < row_at rows k p → kept.bound ≤ bound_by net (row_at rows k) p) h.least (λ some. absurd (omega arith));
    first = h.first;
  }

  smaller_more : (n : ℕ) (kept : Option PlaceBound) → IsLeastOfRows net rows n p kept → 0 < row_at rows n p → IsLeastOfRows net rows (n + 1) p (smaller_of kept record { bound = bound_by net (row_at rows n) p; row = n })
  smaller_more n None h some = record {
    within = omega arith;
    covers = some;
    gives = refl;
    least = below_more n (λ k. 0 < row_at rows k p → bound_by net (row_at rows n) p ≤ bound_by net (row_at rows k) p) (λ k under other. absurd (let none = h k under in omega arith)) (λ _. omega arith);
    first = λ k under other. absurd (let none = h k under in omega arith);
  }
  smaller_more n (Some kept) h some =
      elim (cases_lt (bound_by net (row_at rows n) p) kept.bound) [
        | inl less ↦
            subst (IsLeastOfRows net rows (n + 1) p) (sym (ap (λ b. cond b (Some record { bound = bound_by net (row_at rows n) p; row = n }) (Some kept)) (lt-ltb (bound_by net (row_at rows n) p) kept.bound less))) record {
              within = omega arith;
              covers = some;
              gives = refl;
              least = below_more n (λ k. 0 < row_at rows k p → bound_by net (row_at rows n) p ≤ bound_by net (row_at rows k) p) (λ k under other. let more = h.least k under other in omega arith) (λ _. omega arith);
              first = λ k under other. let more = h.least k under other in omega arith;
            }
        | inr more ↦
            subst (IsLeastOfRows net rows (n + 1) p) (sym (ap (λ b. cond b (Some record { bound = bound_by net (row_at rows n) p; row = n }) (Some kept)) (le-ltb (bound_by net (row_at rows n) p) kept.bound more))) record {
              within = let under = h.within in omega arith;
              covers = h.covers;
              gives = h.gives;
              least = below_more n (λ k. 0 < row_at rows k p → kept.bound ≤ bound_by net (row_at rows k) p) h.least (λ _. more);
              first = h.first;
            }
      ]

  -- one row more
  pub row_more : (n : ℕ) (kept : Option PlaceBound) → IsLeastOfRows net rows n p kept → IsLeastOfRows net rows (n + 1) p (tightened kept (row_at rows n p) (tokens_of net rows n) n)
  row_more n kept h =
      elim (cases_eq (row_at rows n p) 0) [
        | inl none ↦ subst (IsLeastOfRows net rows (n + 1) p) (sym (skipped kept (row_at rows n p) (tokens_of net rows n) n none)) (same_more n kept h none)
        | inr some ↦ subst (IsLeastOfRows net rows (n + 1) p) (sym (taken kept (row_at rows n p) (tokens_of net rows n) n some)) (smaller_more n kept h (omega arith))
      ]

  module _ (list : IsTheList (slice_cmp nat_cmp) (IsMinimalRow (incidence_of net) all_columns) rows) (generate : Generate net rows) (under : p < net.places) where
    row_semiflow : (k : ℕ) → k < length rows → IsPlaceSemiflow net (row_at rows k)
    row_semiflow k within = ((list.members (get_or rows k [])).0 (Contains-get_or rows k [] within)).minimal.semiflow

    -- the least bound of the rows is at most every semiflow's
    least_everywhere : (kept : PlaceBound) → IsFirstLeast net rows (length rows) p kept → (y : ℕ → ℕ) → IsPlaceSemiflow net y → 0 < y p → kept.bound ≤ bound_by net y p
    least_everywhere kept h y flow covers =
        le-div kept.bound (weighted_tokens net y net.initial) (y p) covers
        (bound_all net rows generate kept.bound p under (λ k within.
        elim (cases_lt 0 (row_at rows k p)) [
          | inl some ↦
              let below : row_at rows k p * kept.bound ≤ row_at rows k p * bound_by net (row_at rows k) p = mul-le-mul_left (row_at rows k p) (h.least k within some) in
              let floor = div-mul-le_self (tokens_of net rows k) (row_at rows k p) in
              omega (arith, below, floor)
          | inr none ↦ let nothing : row_at rows k p ≡ 0 = omega arith in let product : kept.bound * row_at rows k p ≡ kept.bound * 0 = ap (λ x. kept.bound * x) nothing in omega arith
        ]) y flow)

    pub least_bound : (kept : Option PlaceBound) → IsLeastOfRows net rows (length rows) p kept → IsLeastBound net p (bound_of kept)
    least_bound None h = none_covers net rows generate p under h
    least_bound (Some kept) h = record {
      attained = (row_at rows kept.row, row_semiflow kept.row h.within, h.covers, h.gives);
      least = least_everywhere kept h;
    }

    pub bound_holds : (kept : Option PlaceBound) → IsLeastOfRows net rows (length rows) p kept → (M : ℕ → ℕ) → IsReachable net M → MatchOption kept (Unit {0}) (λ bound. M p ≤ bound.bound)
    bound_holds None h M reachable = tt
    bound_holds (Some kept) h M reachable =
        let y : ℕ → ℕ = row_at rows kept.row in
        let product = semiflows_bound_places net y M p (row_semiflow kept.row h.within) reachable under in
        subst (λ b. M p ≤ b) (sym h.gives) (le-div (M p) (weighted_tokens net y net.initial) (y p) h.covers product)
