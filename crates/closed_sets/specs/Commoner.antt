-- Commoner's condition (M. Hack, Analysis of production schemata by Petri nets, MIT, 1972; T. Murata, Petri
-- nets: properties, analysis and applications, Proceedings of the IEEE 77, 1989).
use Rattle.std.specs.Prelude.{◌≡◌, ℕ, ◌<◌, ◌≤◌, ◌==◌, Bool, IsTrue, ◌&&◌, nat_lt, List}
use Rattle.net_values.specs.PlaceSets.{has}
use Rattle.net_values.specs.Net.{Net}
use Rattle.net_values.specs.TokenGame.{Reach, IsReachable, IsDead}
use Rattle.closed_sets.specs.ClosedSets.{any_below, IsSiphon, IsTrap, IsWithin, IsNonempty}

-- some place of the set has a token
abbrev pub IsMarked : Net → (ℕ → ℕ) → (ℕ → Bool) → Type 0
IsMarked net M S = IsTrue (any_below net.places (λ p. S p && nat_lt 0 (M p)))

-- each arc has the weight 1
abbrev pub IsOrdinary : Net → Type 0
IsOrdinary net = (p t : ℕ) → p < net.places → t < net.transitions → (net.pre p t ≤ 1) × (net.post p t ≤ 1)

-- the set contains a trap that is marked at the initial marking
pub record HasMarkedTrap (net : Net) (S : ℕ → Bool) : Type 0 where
  pub trap : ℕ → Bool
  pub closed : IsTrap net trap
  pub within : IsWithin net trap S
  pub marked : IsMarked net net.initial trap

-- the set is a trap that is marked at the initial marking
pub record IsMarkedTrap (net : Net) (S : ℕ → Bool) : Type 0 where
  pub closed : IsTrap net S
  pub marked : IsMarked net net.initial S

-- every nonempty siphon contains a trap that is marked at the initial marking
abbrev pub MeetsCommoner : Net → Type 0
MeetsCommoner net = (S : ℕ → Bool) → IsSiphon net S → IsNonempty net S → HasMarkedTrap net S

-- no reachable marking is dead
abbrev pub IsDeadlockFree : Net → Type 0
IsDeadlockFree net = (M : ℕ → ℕ) → IsReachable net M → IsDead net M → ⊥

-- no place of the set has a token
abbrev pub IsUnmarked : Net → (ℕ → ℕ) → (ℕ → Bool) → Type 0
IsUnmarked net M S = (p : ℕ) → p < net.places → IsTrue (S p) → M p ≡ 0

-- a siphon without a token stays so along any firing list
abbrev pub EmptySiphonsStayEmpty : Net → Type 0
EmptySiphonsStayEmpty net = (S : ℕ → Bool) (M M' : ℕ → ℕ) (ts : List ℕ) → IsSiphon net S → IsUnmarked net M S → Reach net M ts M' → IsUnmarked net M' S

-- a trap that is marked stays marked along any firing list
abbrev pub TrapsStayMarked : Net → Type 0
TrapsStayMarked net = (S : ℕ → Bool) (M M' : ℕ → ℕ) (ts : List ℕ) → IsTrap net S → IsMarked net M S → Reach net M ts M' → IsMarked net M' S

-- the places without a token
abbrev pub empty_places : (ℕ → ℕ) → ℕ → Bool
empty_places M p = M p == 0

-- the set is that of the places without a token at the initial marking
abbrev pub IsInitiallyEmpty : Net → List Bool → Type 0
IsInitiallyEmpty net set = (p : ℕ) → p < net.places → has set p ≡ empty_places net.initial p

-- at a dead marking of an ordinary net with a transition the empty places are a nonempty siphon
abbrev pub DeadEmptiesASiphon : Net → Type 0
DeadEmptiesASiphon net = (M : ℕ → ℕ) → IsOrdinary net → 0 < net.transitions → IsDead net M → IsSiphon net (empty_places M) × IsNonempty net (empty_places M)

-- Commoner's condition excludes every dead reachable marking of an ordinary net with a transition
abbrev pub CommonerExcludesDead : Net → Type 0
CommonerExcludesDead net = IsOrdinary net → 0 < net.transitions → MeetsCommoner net → IsDeadlockFree net
