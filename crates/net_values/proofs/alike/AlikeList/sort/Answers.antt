use Rattle.net_values.proofs.SortedLists.{ascending_from_sort}
use Rattle.net_values.proofs.OneLength.{alike_permuted}
use Rattle.net_values.proofs.alike.AlikeList.sort.Goals as goal

pub invariant_of-self : goal.invariant_of-self
invariant_of-self g c = alike_permuted g.T.Listed.size _ _ c.sort_unstable.ensures.permutation c.self.invariant

pub returns-clause-strict : goal.returns-clause-strict
returns-clause-strict g c =
    λ apart. ascending_from_sort g.T.Ord.cmp g.met.T.Ord.total g.met.T.Listed.exact _ _ (rw (← c.self.view_is) at apart) c.sort_unstable.ensures.permutation c.sort_unstable.ensures.sorted
