use Rattle.std.proofs.Common.{sym, subst, List, Bool}
use Rattle.net_values.specs.FlatNets.{net_of}
use Rattle.closed_sets.specs.Leavers.{AreSetRight}
use Rattle.closed_sets.specs.Opens.{AreLeaving}
use Rattle.closed_sets.proofs.LeavingSets.{leaving_more}
use Rattle.closed_sets.proofs.leaving.put_place.Goals as goal

pub returns-clause-leaving : goal.returns-clause-leaving
returns-clause-leaving c =
    let net = net_of c.args.net.now in
    let old = c.args.leaving.now in
    let mid = c.set_right.new.leaving in
    let new = c.set_right-2.new.leaving in
    subst (λ (s : List Bool). AreLeaving net s new) (sym c.put.ensures)
    (leaving_more net c.args.set.now old mid new c.args.p c.args.member c.takers.result.now c.givers.result.now c.requires.leaving c.set_right.ensures.size c.set_right-2.ensures.size c.takers.ensures.lists c.givers.ensures.lists
    (subst (λ (s : List Bool). AreSetRight net c.takers.result.now s old mid) c.put.ensures c.set_right.ensures.right)
    (subst (λ (s : List Bool). AreSetRight net c.givers.result.now s mid new) c.put.ensures c.set_right-2.ensures.right))
