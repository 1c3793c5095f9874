-- How a siphon grows from a set in it, by a fixed order of the places and the transitions: while some
-- transition has an output place in the set and no input place in it, the lowest such transition is taken,
-- and the lowest of its input places that the siphon has is added. The set so far always lies in the siphon.
use Rattle.std.specs.Prelude.{◌≡◌, ◌↔◌, ℕ, ◌<◌, Bool, false, IsTrue, ◌&&◌, ◌||◌, ◌==◌, not, ◌⊎◌, nat_lt}
use Rattle.net_values.specs.Net.{Net, reversed}
use Rattle.closed_sets.specs.ClosedSets.{has_input_in, has_output_in, IsSiphon, IsTrap, IsWithin, IsNonempty, IsMinimalSiphon, IsMinimalTrap}

-- the lowest number below the bound that passes the test
pub record IsFirst (bound : ℕ) (test : ℕ → Bool) (first : ℕ) : Type 0 where
  pub below : first < bound
  pub passes : IsTrue (test first)
  pub before : (k : ℕ) → k < first → test k ≡ false

-- the transition has an output place in the set and no input place in it
abbrev pub is_open : Net → (ℕ → Bool) → ℕ → Bool
is_open net A t = has_output_in net A t && not (has_input_in net A t)

-- an input place of the transition in the set
abbrev pub is_input_in : Net → (ℕ → Bool) → ℕ → ℕ → Bool
is_input_in net S t p = S p && nat_lt 0 (net.pre p t)

-- the set with one place more
abbrev pub with_place : (ℕ → Bool) → ℕ → ℕ → Bool
with_place A p q = q == p || A q

-- the set of one place
abbrev pub only_place : ℕ → ℕ → Bool
only_place p q = q == p

-- the growth of the siphon from a set in it ends with the whole of it
pub data GrowsWhole (net : Net) (S : ℕ → Bool) : (ℕ → Bool) → Type 0 where
  whole : {A : ℕ → Bool} → IsSiphon net A → IsWithin net S A → GrowsWhole net S A
  more : {A : ℕ → Bool} (t p : ℕ) → IsFirst net.transitions (is_open net A) t → IsFirst net.places (is_input_in net S t) p → GrowsWhole net S (with_place A p) → GrowsWhole net S A

-- a siphon whose growth from its lowest place ends with the whole of it; such a siphon isn't empty
pub record IsGrown (net : Net) (S : ℕ → Bool) : Type 0 where
  pub siphon : IsSiphon net S
  pub lowest : ℕ
  pub first : IsFirst net.places S lowest
  pub grows : GrowsWhole net S (only_place lowest)

-- The growth of a trap has inputs and outputs exchanged: the lowest transition with an input place in the
-- set and no output place in it is taken, and the lowest of its output places that the trap has is added.

-- the transition has an input place in the set and no output place in it
abbrev pub is_leaving : Net → (ℕ → Bool) → ℕ → Bool
is_leaving net A t = has_input_in net A t && not (has_output_in net A t)

-- an output place of the transition in the set
abbrev pub is_output_in : Net → (ℕ → Bool) → ℕ → ℕ → Bool
is_output_in net S t p = S p && nat_lt 0 (net.post p t)

-- the growth of the trap from a set in it ends with the whole of it
pub data TrapGrowsWhole (net : Net) (S : ℕ → Bool) : (ℕ → Bool) → Type 0 where
  whole_trap : {A : ℕ → Bool} → IsTrap net A → IsWithin net S A → TrapGrowsWhole net S A
  more_trap : {A : ℕ → Bool} (t p : ℕ) → IsFirst net.transitions (is_leaving net A) t → IsFirst net.places (is_output_in net S t) p → TrapGrowsWhole net S (with_place A p) → TrapGrowsWhole net S A

-- a trap whose growth from its lowest place ends with the whole of it; such a trap isn't empty
pub record IsGrownTrap (net : Net) (S : ℕ → Bool) : Type 0 where
  pub trap : IsTrap net S
  pub lowest : ℕ
  pub first : IsFirst net.places S lowest
  pub grows : TrapGrowsWhole net S (only_place lowest)

-- the traps of a net are the siphons of the net with every arc turned round, the minimal traps the minimal
-- siphons, and the grown traps the grown siphons
pub record TrapsAreSiphonsReversed (net : Net) (S : ℕ → Bool) : Type 0 where
  pub trap : IsTrap net S ↔ IsSiphon (reversed net) S
  pub minimal : IsMinimalTrap net S ↔ IsMinimalSiphon (reversed net) S
  pub grown : IsGrownTrap net S ↔ IsGrown (reversed net) S

-- the set belongs to the class that contains the one set and avoids the other
pub record Belongs (net : Net) (contains avoids S : ℕ → Bool) : Type 0 where
  pub has_all : IsWithin net contains S
  pub has_none : (p : ℕ) → p < net.places → IsTrue (avoids p) → S p ≡ false

-- a siphon of the class whose growth from the contained set ends with the whole of it; where the
-- contained set is empty, a grown siphon of the class
pub record IsGrownIn (net : Net) (contains avoids S : ℕ → Bool) : Type 0 where
  pub siphon : IsSiphon net S
  pub belongs : Belongs net contains avoids S
  pub grows : (IsNonempty net contains × GrowsWhole net S contains) ⊎ ((IsNonempty net contains → ⊥) × IsGrown net S)
