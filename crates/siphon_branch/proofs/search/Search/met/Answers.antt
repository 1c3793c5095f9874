use Rattle.std.proofs.Common.{◌≤◌, ◌+◌, subst, length}
use Rattle.siphon_branch.specs.Searches.{DividesAll, IsDivided, SearchValue, StartedFromAll, searched_net}
use Rattle.siphon_branch.proofs.Searching.{search_from, divides_all}
use Rattle.siphon_branch.proofs.search.Search.met.Goals as goal

pub returns-clause-room : goal.returns-clause-room
returns-clause-room c = subst (λ (s : SearchValue). length s.met ≤ s.limit + 1) c.self.view_is (search_from c.self.inside.net.now _ _ _ _ _ _ c.self.invariant).room

pub returns-clause-divided : goal.returns-clause-divided
returns-clause-divided c =
    subst (λ (s : SearchValue). IsDivided (searched_net s) s.origin s.pending s.met) c.self.view_is (search_from c.self.inside.net.now _ _ _ _ _ _ c.self.invariant).divided

pub returns-clause-all : goal.returns-clause-all
returns-clause-all c =
    subst (λ (s : SearchValue). StartedFromAll s → DividesAll s) c.self.view_is (λ all. divides_all _ (search_from c.self.inside.net.now _ _ _ _ _ _ c.self.invariant) all)
