-- What is written, and the text of the items that are left, are the whole text.
use Rattle.std.proofs.Common.{◌≡◌, ◌++◌, length}
use Rattle.pnml_grammar.specs.Canon.{items_text}
use Rattle.pnml_write.proofs.items.push_items.Given as goal

abbrev pub invariant-loop-rest : goal.invariant-loop-rest
invariant-loop-rest l = l.text ++ items_text l.rest ≡ l.initial.text ++ items_text l.items

abbrev pub decreases-loop-rest : goal.decreases-loop-rest
decreases-loop-rest l = length l.rest
