use Rattle.std.proofs.Common.{◌≡◌, take}
use Rattle.std.specs.List.{list_all}
use Rattle.pnml_token.specs.ByteClasses.{in_class}
use Rattle.pnml_token.proofs.runs.are_all.Given as goal

abbrev pub invariant-loop-byte : goal.invariant-loop-byte
invariant-loop-byte l = l.all ≡ list_all (in_class l.class) (take l.byte-index l.part)
