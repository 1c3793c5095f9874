-- Siphons and traps of a place/transition net (T. Murata, Petri nets: properties, analysis and
-- applications, Proceedings of the IEEE 77, 1989). A set of places is a test of place numbers; what it
-- answers past the places of the net doesn't count. The empty set is both a siphon and a trap.
use Rattle.std.specs.Prelude.{ℕ, zero, suc, ◌<◌, ◌==◌, Bool, false, IsTrue, ◌&&◌, ◌||◌, not, nat_lt}
use Rattle.net_values.specs.Net.{Net}

-- some number below the bound passes the test
abbrev pub any_below : ℕ → (ℕ → Bool) → Bool
any_below zero test = false
any_below (suc n) test = test n || any_below n test

-- the transition has an input place in the set
abbrev pub has_input_in : Net → (ℕ → Bool) → ℕ → Bool
has_input_in net S t = any_below net.places (λ p. S p && nat_lt 0 (net.pre p t))

-- the transition has an output place in the set
abbrev pub has_output_in : Net → (ℕ → Bool) → ℕ → Bool
has_output_in net S t = any_below net.places (λ p. S p && nat_lt 0 (net.post p t))

-- each transition with an output place in the set has an input place in it
abbrev pub IsSiphon : Net → (ℕ → Bool) → Type 0
IsSiphon net S = (t : ℕ) → t < net.transitions → IsTrue (has_output_in net S t) → IsTrue (has_input_in net S t)

-- each transition that gives to the place has an input place in the set
abbrev pub IsFed : Net → (ℕ → Bool) → ℕ → Type 0
IsFed net S p = (t : ℕ) → t < net.transitions → 0 < net.post p t → IsTrue (has_input_in net S t)

-- each transition with an input place in the set has an output place in it
abbrev pub IsTrap : Net → (ℕ → Bool) → Type 0
IsTrap net S = (t : ℕ) → t < net.transitions → IsTrue (has_input_in net S t) → IsTrue (has_output_in net S t)

-- each place of the first set is in the second
abbrev pub IsWithin : Net → (ℕ → Bool) → (ℕ → Bool) → Type 0
IsWithin net S U = (p : ℕ) → p < net.places → IsTrue (S p) → IsTrue (U p)

-- some place is in the set
abbrev pub IsNonempty : Net → (ℕ → Bool) → Type 0
IsNonempty net S = IsTrue (any_below net.places S)

-- the greatest siphon in a set: it is a siphon in it, and it contains every siphon in it
pub record IsGreatestSiphon (net : Net) (U G : ℕ → Bool) : Type 0 where
  pub siphon : IsSiphon net G
  pub within : IsWithin net G U
  pub greatest : (S : ℕ → Bool) → IsSiphon net S → IsWithin net S U → IsWithin net S G

-- each set has a greatest siphon in it
abbrev pub EachSetHasGreatest : Net → Type 0
EachSetHasGreatest net = (U : ℕ → Bool) → (G : ℕ → Bool) × IsGreatestSiphon net U G

-- the greatest siphon in a set stays the greatest one where a place is taken out of both
abbrev pub OnePlaceLess : Net → Type 0
OnePlaceLess net = (U G H : ℕ → Bool) (p : ℕ) → IsGreatestSiphon net U G → IsGreatestSiphon net (λ q. G q && not (q == p)) H → IsGreatestSiphon net (λ q. U q && not (q == p)) H

-- the greatest trap in a set
pub record IsGreatestTrap (net : Net) (U G : ℕ → Bool) : Type 0 where
  pub trap : IsTrap net G
  pub within : IsWithin net G U
  pub greatest : (S : ℕ → Bool) → IsTrap net S → IsWithin net S U → IsWithin net S G

-- a nonempty siphon that has no smaller nonempty siphon in it
pub record IsMinimalSiphon (net : Net) (S : ℕ → Bool) : Type 0 where
  pub siphon : IsSiphon net S
  pub nonempty : IsNonempty net S
  pub least : (R : ℕ → Bool) → IsSiphon net R → IsNonempty net R → IsWithin net R S → IsWithin net S R

-- a nonempty trap that has no smaller nonempty trap in it
pub record IsMinimalTrap (net : Net) (S : ℕ → Bool) : Type 0 where
  pub trap : IsTrap net S
  pub nonempty : IsNonempty net S
  pub least : (R : ℕ → Bool) → IsTrap net R → IsNonempty net R → IsWithin net R S → IsWithin net S R

-- a nonempty siphon in the set lacks the place
abbrev pub HasSiphonWithout : Net → (ℕ → Bool) → ℕ → Type 0
HasSiphonWithout net S p = (R : ℕ → Bool) × IsSiphon net R × IsNonempty net R × IsWithin net R S × IsTrue (not (R p))
