use Rattle.std.proofs.Common.{◌≡◌, drop}
use Rattle.pnml_token.specs.Ranks.{tail_from}
use Rattle.pnml_token.proofs.ranks.tail.Given as goal

abbrev pub invariant-loop-byte : goal.invariant-loop-byte
invariant-loop-byte l = tail_from 0 l.name ≡ tail_from l.tail (drop l.byte-index l.name)
