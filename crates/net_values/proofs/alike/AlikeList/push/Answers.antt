use Rattle.net_values.proofs.OneLength.{alike_more}
use Rattle.net_values.proofs.alike.AlikeList.push.Goals as goal

pub invariant_of-self-2 : goal.invariant_of-self-2
invariant_of-self-2 g c = rw c.in_ok-push.ensures.items (alike_more g.T.Listed.size _ _ (rw c.self.view_is c.requires))
