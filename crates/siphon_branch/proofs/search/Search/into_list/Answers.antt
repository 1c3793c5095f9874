use Rattle.std.proofs.Common.{◌≡◌, ◌≤◌, [], subst, length}
use Rattle.std.specs.Cmp.Lexicographic.{slice_cmp}
use Rattle.std.specs.Ordering.{bool_cmp}
use Rattle.net_values.specs.TheList.{IsTheList}
use Rattle.closed_sets.specs.MinimalSets.{IsMinimalSet}
use Rattle.siphon_branch.specs.Limits.{HasAtMostGrown}
use Rattle.siphon_branch.specs.Searches.{SearchValue, StartedFromAll, searched_net}
use Rattle.siphon_branch.proofs.Searching.{search_from, at_most, listed}
use Rattle.siphon_branch.proofs.search.Search.into_list.Goals as goal

pub returns-clause-few : goal.returns-clause-few
returns-clause-few c =
    subst (λ (s : SearchValue). StartedFromAll s → s.pending ≡ [] → length s.met ≤ s.limit → HasAtMostGrown (searched_net s) s.limit) c.self.view_is (λ all none few. at_most _ (search_from c.self.inside.net.now _ _ _ _ _ _ c.self.invariant) all none few)

pub returns-clause-list : goal.returns-clause-list
returns-clause-list c =
    subst (λ (s : SearchValue). StartedFromAll s → s.pending ≡ [] → IsTheList (slice_cmp bool_cmp) (IsMinimalSet (searched_net s)) c.sort.new.self) c.self.view_is
    (λ all none. listed _ (search_from c.self.inside.net.now _ _ _ _ _ _ c.self.invariant) all none c.sort.new.self c.sort.ensures.same c.sort.ensures.sorted)
