use Rattle.std.proofs.Common.{subst}
use Rattle.std.specs.Cmp.Lexicographic.{slice_cmp}
use Rattle.std.specs.Ordering.{bool_cmp}
use Rattle.net_values.specs.FlatNets.{NetLists, net_of}
use Rattle.net_values.specs.TheList.{IsTheList}
use Rattle.closed_sets.specs.MinimalSets.{IsMinimalSet}
use Rattle.closed_sets.proofs.Covers.{covers}
use Rattle.siphon_branch.proofs.Searching.{IsOverAll, done_none, over_all_on, over_all_started}
use Rattle.siphon_branch.proofs.list.minimal_siphons.Goals as goal

pub returns-in-Ok-Done-clause-covers : goal.returns-in-Ok-Done-clause-covers
returns-in-Ok-Done-clause-covers c =
    let search = c.advance.new.self in
    let over : IsOverAll c.args.net.now c.args.sets search = over_all_on c.args.net.now c.args.sets _ c.loop-search.search search c.advance.ensures.on c.loop-search.invariant in
    covers (net_of c.args.net.now) c.into_list.result
    (subst (λ (lists : NetLists). IsTheList (slice_cmp bool_cmp) (IsMinimalSet (net_of lists)) c.into_list.result) over.lists
    (c.into_list.ensures.list (over_all_started c.args.net.now c.args.sets search over) (done_none _ c.loop-search.search search c.in-Ok-Done.field-0 c.in-Ok-Done.field-0-is c.in-Ok-Done.ensures.answer)))
