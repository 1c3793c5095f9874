use Rattle.std.proofs.Common.{length}
use Rattle.pnml_token.specs.ByteClasses.{in_class}
use Rattle.pnml_token.proofs.Prefixes.{AreParts}
use Rattle.pnml_token.proofs.runs.long_run_length.Given as goal

abbrev pub invariant-parts : goal.invariant-parts
invariant-parts l = AreParts (in_class l.fn.class) l.fn.bytes l.length l.rest

abbrev pub decreases-parts : goal.decreases-parts
decreases-parts l = length l.rest
