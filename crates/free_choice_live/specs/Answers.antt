-- What the test for liveness answers, and why it doesn't.
use Rattle.std.specs.Prelude.{◌≡◌, ℕ, ◌<◌, List, Bool}
use Rattle.std.specs.Cmp.Lexicographic.{slice_cmp}
use Rattle.std.specs.Ordering.{bool_cmp}
use Rattle.net_values.specs.Net.{Net}
use Rattle.net_values.specs.TheList.{IsTheList}
use Rattle.closed_sets.specs.Commoner.{MeetsCommoner}
use Rattle.closed_sets.specs.MinimalSets.{IsMinimalSet}
use Rattle.siphon_branch.specs.declared.fault.SetFault.{SetFault}
use Rattle.siphon_branch.specs.declared.fault.SetFault.TheVariants as faults
use Rattle.siphon_branch.specs.Limits.{HasAtMostGrown, PassesLimit}
use Rattle.net_class.specs.Classes.{IsFreeChoice}
use Rattle.net_class.specs.Verdicts.{IsFirstWithoutTrap}
use Rattle.free_choice_live.specs.declared.liveness.Liveness.{Liveness}
use Rattle.free_choice_live.specs.declared.liveness.Liveness.TheVariants.{Proved, NotFreeChoice, NoTransition, Siphon}

-- the siphons are asked for: the net is free-choice and has a transition
pub record IsAsked (net : Net) : Type 0 where
  pub free_choice : IsFreeChoice net
  pub some : 0 < net.transitions

-- the first of all minimal siphons that contains no marked trap
pub record IsFirstUnsafe (net : Net) (siphon : List Bool) : Type 0 where
  pub siphons : List (List Bool)
  pub all : IsTheList (slice_cmp bool_cmp) (IsMinimalSet net) siphons
  pub first : IsFirstWithoutTrap net siphons siphon

-- the four answers. The first says that the net meets Commoner's condition, and so is live; no two hold of
-- one net
abbrev pub Tells : Net → ℕ → Liveness → Type 0
Tells net sets Proved = IsAsked net × HasAtMostGrown net sets × MeetsCommoner net
Tells net sets NotFreeChoice = IsFreeChoice net → ⊥
Tells net sets NoTransition = IsFreeChoice net × (net.transitions ≡ 0)
Tells net sets (Siphon siphon) = IsAsked net × HasAtMostGrown net sets × IsFirstUnsafe net siphon

-- no answer: the siphons are asked for and more are grown than the limit; out of memory says nothing
abbrev pub FailsToTell : Net → ℕ → SetFault → Type 0
FailsToTell net sets faults.NoMemory = Unit {0}
FailsToTell net sets (faults.SetLimit carried) = IsAsked net × PassesLimit net sets carried
