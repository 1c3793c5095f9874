use Rattle.std.proofs.Common.{◌≡◌, take}
use Rattle.std.specs.List.{list_all}
use Rattle.pnml_token.specs.ByteClasses.{is_plain_byte}
use Rattle.pnml_token.proofs.legality.are_plain_in.Given as goal

abbrev pub invariant-loop-byte : goal.invariant-loop-byte
invariant-loop-byte l = l.all ≡ list_all is_plain_byte (take l.byte-index l.part)
