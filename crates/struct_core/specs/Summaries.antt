-- What `sample` tells of a net, in numbers.
use Rattle.std.specs.Prelude.{◌≡◌, ◌↔◌, ◌⊎◌, ℕ, ◌<◌, ◌≤◌, ℤ, pos, ◌≤ℤ◌, List, Bool, true, false, Option, Some, IsTrue, length}
use Rattle.std.specs.Cmp.Lexicographic.{slice_cmp}
use Rattle.std.specs.Ordering.{bool_cmp}
use Rattle.net_values.specs.Net.{Net}
use Rattle.net_values.specs.TheList.{IsTheList}
use Rattle.bounds.specs.declared.place_bound.PlaceBound.{PlaceBound}
use Rattle.bounds.specs.LeastBound.{IsLeastBound}
use Rattle.bounds.specs.Listed.{kept_at, bound_of}
use Rattle.closed_sets.specs.Commoner.{MeetsCommoner}
use Rattle.closed_sets.specs.MinimalSets.{IsMinimalSet}
use Rattle.incidence.specs.Matrix.{Matrix, incidence_of, transposed}
use Rattle.net_class.specs.declared.verdict.Verdict.{Verdict}
use Rattle.net_class.specs.declared.verdict.Verdict.TheVariants.{Yes, No}
use Rattle.report.specs.declared.summary.Summary.{Summary}
use Rattle.struct_core.specs.Enumerations.{AreListed}
use Rattle.struct_core.specs.Words.{default_budgets}

-- so many semiflows are listed, within the default budget
abbrev pub HasSemiflows : Matrix → ℕ → Type 0
HasSemiflows m count = (list : List (List ℕ)) × AreListed m default_budgets.rows list × (length list ≡ count)

-- so many siphons are minimal
abbrev pub HasSiphons : Net → ℕ → Type 0
HasSiphons net count = (list : List (List Bool)) × IsTheList (slice_cmp bool_cmp) (IsMinimalSet net) list × (length list ≡ count)

-- the greatest of the least bounds of the places, or 0 where no place has one
pub record IsGreatestBound (net : Net) (tokens : ℕ) : Type 0 where
  pub above : (p bound : ℕ) → p < net.places → IsLeastBound net p (Some bound) → bound ≤ tokens
  pub attained : (tokens ≡ 0) ⊎ ((p : ℕ) × (p < net.places) × IsLeastBound net p (Some tokens))

-- the numbers of a net that has so many arcs
pub record IsSummary (net : Net) (arcs : ℕ) (summary : Summary) : Type 0 where
  pub places : summary.places ≡ net.places
  pub transitions : summary.transitions ≡ net.transitions
  pub arcs_are : summary.arcs ≡ arcs
  pub of_places : HasSemiflows (incidence_of net) summary.place_semiflows
  pub of_transitions : HasSemiflows (transposed (incidence_of net)) summary.transition_semiflows
  pub siphons : HasSiphons net summary.siphons
  pub greatest : (tokens : ℕ) × IsGreatestBound net tokens × (summary.greatest_bound ≡ pos tokens)
  pub commoner : IsTrue summary.commoner ↔ MeetsCommoner net

-- ---- how the numbers are read off; only proofs rest on these words

-- the greatest of the first n bounds, or 0
pub record HasGreatest (bounds : List (Option PlaceBound)) (n : ℕ) (greatest : ℤ) : Type 0 where
  pub tokens : ℕ
  pub is : greatest ≡ pos tokens
  pub above : (p bound : ℕ) → p < n → bound_of (kept_at bounds p) ≡ Some bound → bound ≤ tokens
  pub attained : (tokens ≡ 0) ⊎ ((p : ℕ) × (p < n) × (bound_of (kept_at bounds p) ≡ Some tokens))

-- the greater of two numbers
pub record IsGreater (one other greater : ℤ) : Type 0 where
  pub first : one ≤ℤ greater
  pub second : other ≤ℤ greater
  pub either : (greater ≡ one) ⊎ (greater ≡ other)

-- whether a verdict is yes
abbrev pub is_yes : Verdict → Bool
is_yes Yes = true
is_yes (No siphon) = false
