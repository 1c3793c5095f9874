-- the items so far are those of the parts so far
use Rattle.std.proofs.Common.{◌≡◌, List}
use Rattle.std.specs.List.{flat_map}
use Rattle.net_values.specs.declared.document.Item.{Item}
use Rattle.pnml_decode.proofs.item_parts.ItemParts.into_items.Given as goal

abbrev pub invariant-loop-part : goal.invariant-loop-part
invariant-loop-part l = l.items ≡ flat_map (λ (part : List Item). part) l.yielded
