use Rattle.std.proofs.Common.{◌≡◌, ◌+◌, subst, length}
use Rattle.siphon_branch.specs.Limits.{PassesLimit}
use Rattle.siphon_branch.specs.Searches.{SearchValue, StartedFromAll, searched_net}
use Rattle.siphon_branch.proofs.Searching.{search_from, passes}
use Rattle.siphon_branch.proofs.search.Search.into_met.Goals as goal

pub returns-clause-carried : goal.returns-clause-carried
returns-clause-carried c =
    subst (λ (s : SearchValue). StartedFromAll s → length s.met ≡ s.limit + 1 → PassesLimit (searched_net s) s.limit c.self.inside.met) c.self.view_is (λ all count. passes _ (search_from c.self.inside.net.now _ _ _ _ _ _ c.self.invariant) all count)
