use Rattle.std.proofs.Common.{subst}
use Rattle.siphon_branch.specs.Searches.{IsSearch, SearchValue}
use Rattle.siphon_branch.proofs.Searching.{search_from}
use Rattle.siphon_branch.proofs.search.Search.into_parts.Goals as goal

pub returns-clause-search : goal.returns-clause-search
returns-clause-search c = subst (λ (s : SearchValue). IsSearch s) c.self.view_is (search_from c.self.inside.net.now _ _ _ _ _ _ c.self.invariant)
