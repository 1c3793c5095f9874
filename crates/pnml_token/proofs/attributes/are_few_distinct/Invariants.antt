use Rattle.std.proofs.Common.{take}
use Rattle.pnml_token.proofs.NamesSeen.{Seen, is_name_of}
use Rattle.pnml_token.proofs.attributes.are_few_distinct.Given as goal

abbrev pub invariant-loop-i : goal.invariant-loop-i
invariant-loop-i l = Seen (is_name_of (take l.i l.raw_attributes)) l.raw_attributes l.i
