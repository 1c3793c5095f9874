use Rattle.std.proofs.Common.{refl}
use Rattle.std.proofs.lemmas.Option.{slice_get_read}
use Rattle.net_values.proofs.OneLength.{alike_removed}
use Rattle.net_values.proofs.alike.AlikeList.remove.Goals as goal

pub invariant_of-self : goal.invariant_of-self
invariant_of-self g c = rw c.remove.ensures.items (alike_removed g.T.Listed.size _ _ c.self.invariant)

pub returns-clause-given : goal.returns-clause-given
returns-clause-given g c = slice_get_read _ _ _ _ refl c.requires (cc)
