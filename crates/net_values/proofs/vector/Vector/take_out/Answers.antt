use Rattle.std.proofs.Common.{◌≡◌, ◌∙◌, true, false, sym, length-set, arith}
use Rattle.net_values.specs.PlaceSets.{has}
use Rattle.net_values.proofs.Packed.{zero_again}
use Rattle.net_values.proofs.PackedPlaces.{index_below, zero_here, removed_kept, stored, shown, held, held_room}
use Rattle.net_values.proofs.vector.Vector.take_out.Goals as goal

pub remove-entry-requires : goal.remove-entry-requires
remove-entry-requires c =
    let kept = held _ _ _ _ c.self.invariant c.self.view_is in
    let is : has c.self.inside.support c.args.i ≡ true = sym c.contains.ensures ∙ c.if-contains.true in
    omega (arith, c.self.inside.numbers.ok.0, index_below _ _ _ kept _ _ c.count_below.ensures is)

pub invariant_of-self : goal.invariant_of-self
invariant_of-self c =
    let kept = held _ _ _ _ c.self.invariant c.self.view_is in
    let is : has c.self.inside.support c.args.i ≡ true = sym c.contains.ensures ∙ c.if-contains.true in
    let room = held_room _ _ _ _ c.self.invariant c.self.view_is in
    stored _ _ _ _ _ c.remove.ensures c.remove-entry.ensures.items (removed_kept _ _ _ kept _ _ c.count_below.ensures c.requires is) _
    (omega (arith, c.remove-entry.ensures.capacity, length-set c.args.self.now c.args.i 0))

pub returns-then-contains : goal.returns-then-contains
returns-then-contains c =
    let kept = held _ _ _ _ c.self.invariant c.self.view_is in
    let is : has c.self.inside.support c.args.i ≡ true = sym c.contains.ensures ∙ c.if-contains.true in
    shown _ _ _ _ _ c.remove.ensures c.remove-entry.ensures.items (removed_kept _ _ _ kept _ _ c.count_below.ensures c.requires is)

pub returns-else-contains : goal.returns-else-contains
returns-else-contains c =
    let kept = held _ _ _ _ c.self.invariant c.self.view_is in
    let is : has c.self.inside.support c.args.i ≡ false = sym c.contains.ensures ∙ c.if-contains.false in
    sym (zero_again c.args.self.now c.args.i (zero_here _ _ _ kept c.args.i is))
