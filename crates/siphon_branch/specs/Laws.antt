-- What the search rests on, and what its answers exclude.
use Rattle.std.specs.Prelude.{◌↔◌, ℕ, List, Bool}
use Rattle.std.specs.Cmp.Lexicographic.{slice_cmp}
use Rattle.std.specs.Ordering.{bool_cmp}
use Rattle.net_values.specs.Net.{Net, reversed}
use Rattle.net_values.specs.TheList.{IsTheList}
use Rattle.closed_sets.specs.ClosedSets.{IsMinimalSiphon}
use Rattle.closed_sets.specs.Growth.{IsGrown, IsGrownIn}
use Rattle.closed_sets.specs.MinimalSets.{IsMinimalSet, IsMinimalTrapSet}
use Rattle.siphon_branch.specs.Classes.{IsLiveClass}
use Rattle.siphon_branch.specs.Limits.{IsGrownSet, IsGrownTrapSet, AtMostOrMore, HasAtMostGrown, PassesLimit, HasAtMostGrownTraps, PassesTrapLimit}

-- a live class has a siphon that is grown in it
abbrev pub LiveClassesHaveGrown : Net → Type 0
LiveClassesHaveGrown net = (contains avoids : ℕ → Bool) → IsLiveClass net contains avoids → (S : ℕ → Bool) × IsGrownIn net contains avoids S

-- every minimal siphon is grown
abbrev pub MinimalAreGrown : Net → Type 0
MinimalAreGrown net = (S : ℕ → Bool) → IsMinimalSiphon net S → IsGrown net S

-- a net with at most so many grown siphons or traps has not more
pub record FewAreNotMany (net : Net) (limit : ℕ) (carried : List (List Bool)) : Type 0 where
  pub siphons : HasAtMostGrown net limit → PassesLimit net limit carried → ⊥
  pub traps : HasAtMostGrownTraps net limit → PassesTrapLimit net limit carried → ⊥

-- a net has at most so many grown siphons or more, and likewise traps
pub record FewOrMany (net : Net) (limit : ℕ) : Type 0 where
  pub siphons : AtMostOrMore (IsGrownSet net) limit
  pub traps : AtMostOrMore (IsGrownTrapSet net) limit

-- a net has the list of its minimal siphons, and that of its minimal traps
pub record HasLists (net : Net) : Type 0 where
  pub siphons : (list : List (List Bool)) × IsTheList (slice_cmp bool_cmp) (IsMinimalSet net) list
  pub traps : (list : List (List Bool)) × IsTheList (slice_cmp bool_cmp) (IsMinimalTrapSet net) list

-- what is said of the traps of a net is what is said of the siphons of the net with every arc turned round
pub record TrapListsReversed (net : Net) (limit : ℕ) (list : List (List Bool)) : Type 0 where
  pub minimal : IsTheList (slice_cmp bool_cmp) (IsMinimalTrapSet net) list ↔ IsTheList (slice_cmp bool_cmp) (IsMinimalSet (reversed net)) list
  pub few : HasAtMostGrownTraps net limit ↔ HasAtMostGrown (reversed net) limit
  pub many : PassesTrapLimit net limit list ↔ PassesLimit (reversed net) limit list
