-- A set is a minimal or a grown trap exactly where it is a minimal or a grown siphon of the net with every arc
-- turned round, so lists of them are alike.
use Rattle.std.proofs.Common.{◌↔◌, ℕ, List, Bool}
use Rattle.net_values.specs.Net.{Net, reversed}
use Rattle.net_values.specs.PlaceSets.{has}
use Rattle.closed_sets.specs.MinimalSets.{IsMinimalSet, IsMinimalTrapSet}
use Rattle.closed_sets.proofs.Traps.{traps_reversed}
use Rattle.siphon_branch.specs.Limits.{IsGrownSet, IsGrownTrapSet, HaveAtMost, CarriesMore}
use Rattle.siphon_branch.specs.Laws.{TrapListsReversed}

minimal_same : (net : Net) (set : List Bool) → IsMinimalTrapSet net set ↔ IsMinimalSet (reversed net) set
minimal_same net set = (
  λ trap. record { size = trap.size; minimal = (traps_reversed net (has set)).minimal.0 trap.minimal },
  λ siphon. record { size = siphon.size; minimal = (traps_reversed net (has set)).minimal.1 siphon.minimal },
)

grown_same : (net : Net) (set : List Bool) → IsGrownTrapSet net set ↔ IsGrownSet (reversed net) set
grown_same net set = (
  λ trap. record { size = trap.size; grown = (traps_reversed net (has set)).grown.0 trap.grown },
  λ siphon. record { size = siphon.size; grown = (traps_reversed net (has set)).grown.1 siphon.grown },
)

few_same : (P Q : List Bool → Type 0) (limit : ℕ) → ((set : List Bool) → Q set → P set) → HaveAtMost P limit → HaveAtMost Q limit
few_same P Q limit within few = record { list = few.list; few = few.few; every = λ set holds. few.every set (within set holds) }

many_same : (P Q : List Bool → Type 0) (limit : ℕ) (list : List (List Bool)) → ((set : List Bool) → P set → Q set) → CarriesMore P limit list → CarriesMore Q limit list
many_same P Q limit list within more = record { count = more.count; distinct = more.distinct; grown = λ set there. within set (more.grown set there) }

pub trap_lists : (net : Net) (limit : ℕ) (list : List (List Bool)) → TrapListsReversed net limit list
trap_lists net limit list = record {
  minimal = (
    λ traps. record { ascending = traps.ascending; members = λ set. (λ there. (minimal_same net set).0 ((traps.members set).0 there), λ minimal. (traps.members set).1 ((minimal_same net set).1 minimal)) },
    λ siphons. record { ascending = siphons.ascending; members = λ set. (λ there. (minimal_same net set).1 ((siphons.members set).0 there), λ minimal. (siphons.members set).1 ((minimal_same net set).0 minimal)) },
  );
  few = (few_same _ _ limit (λ set. (grown_same net set).1), few_same _ _ limit (λ set. (grown_same net set).0));
  many = (many_same _ _ limit list (λ set. (grown_same net set).0), many_same _ _ limit list (λ set. (grown_same net set).1));
}
