use Rattle.std.proofs.Common.{subst}
use Rattle.siphon_branch.specs.Met.{IsListOf}
use Rattle.siphon_branch.specs.Searches.{IsMinimalOf, SearchValue, SplitsMinimal, searched_net}
use Rattle.siphon_branch.proofs.Searching.{search_from, splits_minimal}
use Rattle.siphon_branch.proofs.search.Search.found.Goals as goal

pub returns-clause-minimal : goal.returns-clause-minimal
returns-clause-minimal c =
    subst (λ (s : SearchValue). IsListOf (IsMinimalOf (searched_net s) s.met) s.found) c.self.view_is (search_from c.self.inside.net.now _ _ _ _ _ _ c.self.invariant).found

pub returns-clause-classes : goal.returns-clause-classes
returns-clause-classes c =
    subst (λ (s : SearchValue). SplitsMinimal s) c.self.view_is (splits_minimal _ (search_from c.self.inside.net.now _ _ _ _ _ _ c.self.invariant))
