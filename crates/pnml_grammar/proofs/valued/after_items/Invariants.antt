use Rattle.std.proofs.Common.{◌≡◌, Some, drop}
use Rattle.pnml_grammar.specs.ValuedTests.{after}
use Rattle.pnml_grammar.proofs.valued.after_items.Given as goal

-- the walk over what is left leads from here to where that over all items leads
abbrev pub invariant-loop-item : goal.invariant-loop-item
invariant-loop-item l = after (Some l.walk) (drop l.item-index l.items) ≡ after (Some l.fn.walk) l.items
