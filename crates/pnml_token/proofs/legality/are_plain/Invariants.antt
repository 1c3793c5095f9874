use Rattle.std.proofs.Common.{◌≡◌, length}
use Rattle.std.specs.List.{list_all}
use Rattle.pnml_token.specs.ByteClasses.{is_plain_byte}
use Rattle.pnml_token.proofs.legality.are_plain.Given as goal

abbrev pub invariant-parts : goal.invariant-parts
invariant-parts l = list_all is_plain_byte l.fn.bytes ≡ list_all is_plain_byte l.rest

abbrev pub decreases-parts : goal.decreases-parts
decreases-parts l = length l.rest
