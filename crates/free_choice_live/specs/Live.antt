-- Liveness of a place/transition net (T. Murata, Petri nets: properties, analysis and applications,
-- Proceedings of the IEEE 77, 1989, section IV): whatever marking has been reached, each transition can be
-- fired after some further firings. The word is said over all firing lists, and by what it excludes.
use Rattle.std.specs.Prelude.{ℕ, ◌<◌, List}
use Rattle.net_values.specs.Net.{Net}
use Rattle.net_values.specs.TokenGame.{IsEnabled, Reach, IsReachable, IsDead}
use Rattle.closed_sets.specs.Commoner.{MeetsCommoner}
use Rattle.net_class.specs.Classes.{IsFreeChoice}

-- every firing list from the marking ends at a marking that doesn't enable the transition
abbrev pub IsLost : Net → (ℕ → ℕ) → ℕ → Type 0
IsLost net M t = (ts : List ℕ) (M' : ℕ → ℕ) → Reach net M ts M' → IsEnabled net M' t → ⊥

-- no transition is lost at any reachable marking
abbrev pub IsLive : Net → Type 0
IsLive net = (M : ℕ → ℕ) → IsReachable net M → (t : ℕ) → t < net.transitions → IsLost net M t → ⊥

-- in a free-choice net Commoner's condition gives liveness (M. Hack, Analysis of production schemata by
-- Petri nets, MIT, 1972; J. Desel and J. Esparza, Free choice Petri nets, 1995, theorem 4.21)
abbrev pub CommonerGivesLiveness : Net → Type 0
CommonerGivesLiveness net = IsFreeChoice net → MeetsCommoner net → IsLive net

-- a live net with a transition has no dead reachable marking
abbrev pub LiveNetsNeverDie : Net → Type 0
LiveNetsNeverDie net = 0 < net.transitions → IsLive net → (M : ℕ → ℕ) → IsReachable net M → IsDead net M → ⊥
