use Rattle.struct_core.proofs.VerdictLaws.{proved_live}
use Rattle.struct_core.proofs.laws.proved_nets_are_live.Goals as goal

pub returns : goal.returns
returns c = proved_live
