-- Classes of place/transition nets (T. Murata, Petri nets: properties, analysis and applications,
-- Proceedings of the IEEE 77, 1989, section VI). Each is a class of ordinary nets, whose arcs have the
-- weight 1.
use Rattle.std.specs.Prelude.{◌≡◌, ◌↔◌, ℕ, ◌<◌}
use Rattle.net_values.specs.Net.{Net}
use Rattle.closed_sets.specs.Commoner.{IsOrdinary}

-- exactly one number below the bound has the property
pub record HasOne (bound : ℕ) (Property : ℕ → Type 0) : Type 0 where
  pub one : ℕ
  pub below : one < bound
  pub holds : Property one
  pub only : (other : ℕ) → other < bound → Property other → other ≡ one

-- by these weights each transition is joined to exactly one place
abbrev pub OnePlaceEach : Net → (ℕ → ℕ → ℕ) → Type 0
OnePlaceEach net weights = (t : ℕ) → t < net.transitions → HasOne net.places (λ p. 0 < weights p t)

-- by these weights each place is joined to exactly one transition
abbrev pub OneTransitionEach : Net → (ℕ → ℕ → ℕ) → Type 0
OneTransitionEach net weights = (p : ℕ) → p < net.places → HasOne net.transitions (λ t. 0 < weights p t)

-- each transition has exactly one input place and exactly one output place
pub record IsStateMachine (net : Net) : Type 0 where
  pub ordinary : IsOrdinary net
  pub input : OnePlaceEach net net.pre
  pub output : OnePlaceEach net net.post

-- each place has exactly one input transition, which gives to it, and exactly one output transition, which
-- takes from it
pub record IsMarkedGraph (net : Net) : Type 0 where
  pub ordinary : IsOrdinary net
  pub input : OneTransitionEach net net.post
  pub output : OneTransitionEach net net.pre

-- some place is an input place of both transitions
abbrev pub ShareAnInput : Net → ℕ → ℕ → Type 0
ShareAnInput net t u = (p : ℕ) × (p < net.places) × (0 < net.pre p t) × (0 < net.pre p u)

-- each place is an input place of both transitions or of neither
abbrev pub HaveSameInputs : Net → ℕ → ℕ → Type 0
HaveSameInputs net t u = (p : ℕ) → p < net.places → (0 < net.pre p t) ↔ (0 < net.pre p u)

-- two transitions that share an input place have the same input places, which Murata calls extended free
-- choice
pub record IsFreeChoice (net : Net) : Type 0 where
  pub ordinary : IsOrdinary net
  pub shared : (t u : ℕ) → t < net.transitions → u < net.transitions → ShareAnInput net t u → HaveSameInputs net t u
