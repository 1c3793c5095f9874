use Rattle.pnml_token.proofs.NamesSeen.{Seen, has}
use Rattle.pnml_token.proofs.attributes.are_all_distinct.Given as goal

abbrev pub invariant-loop-raw_attribute : goal.invariant-loop-raw_attribute
invariant-loop-raw_attribute l = Seen (has l.seen) l.raw_attributes l.raw_attribute-index
