use Rattle.struct_core.proofs.VerdictLaws.{proved_never_die}
use Rattle.struct_core.proofs.laws.deadlock_free_is_proved.Goals as goal

pub returns : goal.returns
returns c = proved_never_die
