-- All places together: the bounds of the rows so far, one row more, and what holds after the last.
use Rattle.std.proofs.Common.{◌≡◌, sym, ap, ◌∙◌, subst, ℕ, ◌+◌, ◌<◌, ◌^◌, List, [], ◌++◌, length, get_or, slice_index, take, drop, Option, None, Some, MatchOption, inl, inr, arith}
use Rattle.std.proofs.Math.Nat.{div-le_self}
use Rattle.std.proofs.Math.Seq.{take-append_seam}
use Rattle.std.proofs.lemmas.Bool.{cases_lt}
use Rattle.std.proofs.lemmas.List.{get_or_default, get_or_past}
use Rattle.std.specs.Cmp.Lexicographic.{slice_cmp}
use Rattle.std.specs.Ordering.{nat_cmp}
use Rattle.net_values.specs.Net.{Net}
use Rattle.net_values.specs.TheList.{IsTheList}
use Rattle.incidence.specs.Matrix.{incidence_of}
use Rattle.incidence.specs.Semiflow.{all_columns}
use Rattle.incidence.specs.Invariance.{weighted_tokens}
use Rattle.semiflow_elim.specs.Bases.{IsMinimalRow}
use Rattle.bounds.specs.declared.place_bound.PlaceBound.{PlaceBound}
use Rattle.bounds.specs.Listed.{row_at, kept_at, tightened, tokens_of, IsLeastOfRows, AreNarrowRows, AreNarrow, AreLeastBounds, BoundsHold}
use Rattle.bounds.proofs.Sums.{Generate}
use Rattle.bounds.proofs.OfRows.{below_more, row_more, least_bound, bound_holds}

-- each place has the bound of the first n rows, whose weighted tokens are narrow
pub record AreBounded (net : Net) (rows : List (List ℕ)) (n : ℕ) (kept : List (Option PlaceBound)) : Type 0 where
  pub size : length kept ≡ net.places
  pub least : (p : ℕ) → p < net.places → IsLeastOfRows net rows n p (kept_at kept p)
  pub narrow : AreNarrowRows net rows n
  pub fits : AreNarrow kept

-- a bound is at most the weighted tokens of its row
narrow_bound : (net : Net) (rows : List (List ℕ)) (n p : ℕ) (kept : Option PlaceBound) → AreNarrowRows net rows n → IsLeastOfRows net rows n p kept → MatchOption kept (Unit {0}) (λ bound. bound.bound < 2 ^ 127)
narrow_bound net rows n p None narrow h = tt
narrow_bound net rows n p (Some kept) narrow h =
    let gives = h.gives in
    let small = narrow kept.row h.within in
    let part = div-le_self (tokens_of net rows kept.row) (row_at rows kept.row p) in
    omega (arith, gives, small, part)

pub all_narrow : (net : Net) (rows : List (List ℕ)) (n : ℕ) (kept : List (Option PlaceBound)) → length kept ≡ net.places → AreNarrowRows net rows n → ((p : ℕ) → p < net.places → IsLeastOfRows net rows n p (kept_at kept p)) → AreNarrow kept
all_narrow net rows n kept size narrow least = record {
  narrow = λ p. elim (cases_lt p net.places) [
    | inl under ↦ narrow_bound net rows n p (kept_at kept p) narrow (least p under)
    | inr past ↦ subst (λ (k : Option PlaceBound). MatchOption k (Unit {0}) (λ bound. bound.bound < 2 ^ 127)) (sym (get_or_past kept p None (omega arith))) tt
  ];
}

-- one row more
pub bounded_more : (net : Net) (rows : List (List ℕ)) (n : ℕ) (old new : List (Option PlaceBound)) → AreBounded net rows n old → (row : List ℕ) → n < length rows → row ≡ get_or rows n row → (tokens : ℕ) → (weighted_tokens net (slice_index row) net.initial < 2 ^ 127) × (tokens ≡ weighted_tokens net (slice_index row) net.initial) → length new ≡ length old → ((p : ℕ) → p < length new → kept_at new p ≡ tightened (kept_at old p) (slice_index row p) tokens n) → AreBounded net rows (n + 1) new
bounded_more net rows n old new h row within row_is tokens told size tightens =
    let at : row ≡ get_or rows n [] = row_is ∙ get_or_default rows n row [] within in
    let tokens_is : tokens ≡ tokens_of net rows n = told.1 ∙ ap (λ (r : List ℕ). weighted_tokens net (slice_index r) net.initial) at in
    let narrow : tokens_of net rows n < 2 ^ 127 = subst (λ (r : List ℕ). weighted_tokens net (slice_index r) net.initial < 2 ^ 127) at told.0 in
    let narrows = below_more n (λ k. tokens_of net rows k < 2 ^ 127) h.narrow narrow in
    let least = λ (p : ℕ) (under : p < net.places).
    let same : kept_at new p ≡ tightened (kept_at old p) (row_at rows n p) (tokens_of net rows n) n =
    tightens p (omega (arith, h.size)) ∙ ap (λ (r : List ℕ). tightened (kept_at old p) (slice_index r p) tokens n) at ∙ ap (λ (k : ℕ). tightened (kept_at old p) (row_at rows n p) k n) tokens_is in
    subst (IsLeastOfRows net rows (n + 1) p) (sym same) (row_more net rows p n (kept_at old p) (h.least p under))
    in
    record {
      size = size ∙ h.size;
      least = least;
      narrow = narrows;
      fits = all_narrow net rows (n + 1) new (size ∙ h.size) narrows least;
    }

-- what a vector has after all its items were lent and changed
pub written_back : (len : ℕ) (new old : List (Option PlaceBound)) → len ≡ length old → length new ≡ length old → take len (new ++ drop (length new) old) ≡ new
written_back len new old len_is size = ap (λ (k : ℕ). take k (new ++ drop (length new) old)) (len_is ∙ sym size) ∙ take-append_seam new (drop (length new) old)

module _ (net : Net) (rows : List (List ℕ)) (list : IsTheList (slice_cmp nat_cmp) (IsMinimalRow (incidence_of net) all_columns) rows) (generate : Generate net rows) (kept : List (Option PlaceBound)) (all : (p : ℕ) → p < net.places → IsLeastOfRows net rows (length rows) p (kept_at kept p)) where
  pub least_bounds : AreLeastBounds net kept
  least_bounds p under = least_bound net rows p list generate under (kept_at kept p) (all p under)

  pub bounds_hold : BoundsHold net kept
  bounds_hold M reachable p under = bound_holds net rows p list generate under (kept_at kept p) (all p under) M reachable
