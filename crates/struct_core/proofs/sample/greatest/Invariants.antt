use Rattle.struct_core.specs.Summaries.{HasGreatest}
use Rattle.struct_core.proofs.sample.greatest.Given as goal

abbrev pub invariant-loop-p : goal.invariant-loop-p
invariant-loop-p l = HasGreatest l.bounds l.p l.greatest
