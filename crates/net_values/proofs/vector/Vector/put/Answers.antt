use Rattle.std.proofs.Common.{◌≡◌, ◌∙◌, refl, true, false, sym, length-set, arith}
use Rattle.std.proofs.lemmas.Bool.{false≢true}
use Rattle.net_values.specs.PlaceSets.{has}
use Rattle.net_values.proofs.PackedPlaces.{index_below, index_most, count_is, zero_here, put_kept, inserted_kept, not_full, stored, shown, held, held_room}
use Rattle.net_values.proofs.vector.Vector.put.Goals as goal

pub index_mut-requires : goal.index_mut-requires
index_mut-requires c =
    let kept = held _ _ _ _ c.self.invariant c.self.view_is in
    let is : has c.self.inside.support c.args.i ≡ true = sym c.contains.ensures ∙ c.if-contains.true in
    omega (arith, c.self.inside.numbers.ok.0, index_below _ _ _ kept _ _ c.count_below-index.ensures is)

pub invariant_of-self : goal.invariant_of-self
invariant_of-self c =
    let kept = held _ _ _ _ c.self.invariant c.self.view_is in
    let is : has c.self.inside.support c.args.i ≡ true = sym c.contains.ensures ∙ c.if-contains.true in
    let room = held_room _ _ _ _ c.self.invariant c.self.view_is in
    stored _ _ _ _ _ refl refl (put_kept _ _ _ kept _ _ c.count_below-index.ensures c.args.entry c.requires.within c.requires.positive c.requires.narrow is) _
    (omega (arith, length-set c.args.self.now c.args.i c.args.entry))

pub returns-then-contains : goal.returns-then-contains
returns-then-contains c =
    let kept = held _ _ _ _ c.self.invariant c.self.view_is in
    let is : has c.self.inside.support c.args.i ≡ true = sym c.contains.ensures ∙ c.if-contains.true in
    shown _ _ _ _ _ refl refl (put_kept _ _ _ kept _ _ c.count_below-index.ensures c.args.entry c.requires.within c.requires.positive c.requires.narrow is)

pub insert-requires : goal.insert-requires
insert-requires c =
    let kept = held _ _ _ _ c.self.invariant c.self.view_is in
    omega (arith, c.self.inside.numbers.ok.0, index_most _ _ _ kept _ _ c.count_below-index.ensures)

pub invariant_of-self-in-Ok : goal.invariant_of-self-in-Ok
invariant_of-self-in-Ok c =
    let kept = held _ _ _ _ c.self.invariant c.self.view_is in
    let is : has c.self.inside.support c.args.i ≡ false = sym c.contains.ensures ∙ c.if-contains.false in
    let room = held_room _ _ _ _ c.self.invariant c.self.view_is in
    stored _ _ _ _ _ c.insert-in-Ok.ensures c.in-Ok.ensures.items (inserted_kept _ _ _ kept _ _ c.count_below-index.ensures c.args.entry c.requires.within c.requires.positive c.requires.narrow is) _
    (omega (arith, c.insert.ensures.capacity, length-set c.args.self.now c.args.i c.args.entry))

pub unreachable-requires : goal.unreachable-requires
unreachable-requires c =
    let kept = held _ _ _ _ c.self.invariant c.self.view_is in
    let is : has c.self.inside.support c.args.i ≡ false = sym c.contains.ensures ∙ c.if-contains.false in
    let room = held_room _ _ _ _ c.self.invariant c.self.view_is in
    let none = not_full c.args.self.now c.args.i c.requires.within (zero_here _ _ _ kept c.args.i is) in
    absurd (false≢true (c.in-Err.ensures.succeeds (omega (arith, c.self.inside.numbers.ok.0, count_is _ _ _ kept))))

pub returns : goal.returns
returns c =
    let kept = held _ _ _ _ c.self.invariant c.self.view_is in
    let is : has c.self.inside.support c.args.i ≡ false = sym c.contains.ensures ∙ c.if-contains.false in
    shown _ _ _ _ _ c.insert-in-Ok.ensures c.in-Ok.ensures.items (inserted_kept _ _ _ kept _ _ c.count_below-index.ensures c.args.entry c.requires.within c.requires.positive c.requires.narrow is)
