-- Sub-semiflows of places (G. Memmi and G. Roucairol, "Linear algebra in net theory", 1980; T. Murata, "Petri nets:
-- properties, analysis and applications", Proceedings of the IEEE 77, 1989, section VII-A): no transition raises the
-- weighted tokens. So they bound a place whatever the initial marking is.
use Rattle.std.specs.Prelude.{◌≡◌, ℕ, ◌*◌, ◌<◌, ◌≤◌, List, length, map, take, slice_index}
use Rattle.std.specs.Cmp.Lexicographic.{slice_cmp}
use Rattle.std.specs.Ordering.{nat_cmp}
use Rattle.net_values.specs.Net.{Net}
use Rattle.net_values.specs.TheList.{IsTheList}
use Rattle.net_values.specs.TokenGame.{IsReachable}
use Rattle.incidence.specs.Matrix.{incidence_of, extended_of, gain_sum, loss_sum}
use Rattle.incidence.specs.Invariance.{weighted_tokens}
use Rattle.incidence.specs.Semiflow.{IsNonzero, IsCoprime, all_columns}
use Rattle.semiflow_elim.specs.Bases.{IsMinimalRow}

-- a nonzero vector of natural numbers over the places whose sum with the entries of each transition is at most 0
pub record IsSubSemiflow (net : Net) (y : ℕ → ℕ) : Type 0 where
  pub nonzero : IsNonzero (incidence_of net) y
  pub falls : (t : ℕ) → t < net.transitions → gain_sum (incidence_of net) t y ≤ loss_sum (incidence_of net) t y

-- the sum is below 0: the transition takes more than it gives
abbrev pub IsLossy : Net → (ℕ → ℕ) → ℕ → Type 0
IsLossy net y t = gain_sum (incidence_of net) t y < loss_sum (incidence_of net) t y

-- the mark of z, its positive places with its lossy transitions, is a subset of the mark of y
pub record HasMarkWithin (net : Net) (z y : ℕ → ℕ) : Type 0 where
  pub places : (p : ℕ) → p < net.places → 0 < z p → 0 < y p
  pub transitions : (t : ℕ) → t < net.transitions → IsLossy net z t → IsLossy net y t

-- a sub-semiflow with coprime entries whose mark has no smaller mark of a sub-semiflow in it
pub record IsExtremal (net : Net) (y : ℕ → ℕ) : Type 0 where
  pub sub : IsSubSemiflow net y
  pub coprime : IsCoprime (incidence_of net) y
  pub least : (z : ℕ → ℕ) → IsSubSemiflow net z → HasMarkWithin net z y → HasMarkWithin net y z

-- an entry for each place, and extremal
pub record IsExtremalRow (net : Net) (row : List ℕ) : Type 0 where
  pub size : length row ≡ net.places
  pub extremal : IsExtremal net (slice_index row)

-- the net with another initial marking
abbrev pub started_at : Net → (ℕ → ℕ) → Net
started_at net M = record net { initial = M }

-- whatever the initial marking is, at every marking that is reachable from it the tokens of a place, counted y(p) times
-- each, are at most its weighted tokens
abbrev pub SubSemiflowsBoundPlaces : Net → Type 0
SubSemiflowsBoundPlaces net =
    (y initial M : ℕ → ℕ) (p : ℕ) → IsSubSemiflow net y → IsReachable (started_at net initial) M → p < net.places
    → M p * y p ≤ weighted_tokens net y initial

-- the list of the semiflows of minimal support of the extended incidence, cut to the place entries, is that of the
-- extremal sub-semiflows
abbrev pub CutsAreExtremal : Net → Type 0
CutsAreExtremal net =
    (rows : List (List ℕ)) → IsTheList (slice_cmp nat_cmp) (IsMinimalRow (extended_of net) all_columns) rows
    → IsTheList (slice_cmp nat_cmp) (IsExtremalRow net) (map (take net.places) rows)
