use Rattle.std.proofs.Common.{◌≡◌, length}
use Rattle.std.specs.List.{list_all}
use Rattle.pnml_token.specs.ByteClasses.{in_class}
use Rattle.pnml_token.proofs.runs.has_all.Given as goal

abbrev pub invariant-parts : goal.invariant-parts
invariant-parts l = list_all (in_class l.fn.class) l.fn.bytes ≡ list_all (in_class l.fn.class) l.rest

abbrev pub decreases-parts : goal.decreases-parts
decreases-parts l = length l.rest
