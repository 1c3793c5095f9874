use Rattle.std.proofs.Common.{length-set, arith}
use Rattle.std.proofs.lemmas.Bool.{false≢true}
use Rattle.net_values.proofs.PackedPlaces.{count_is, pushed_kept, not_full, stored, shown, held, held_room}
use Rattle.net_values.proofs.vector.Vector.append.Goals as goal

pub invariant_of-self : goal.invariant_of-self
invariant_of-self c =
    let kept = held _ _ _ _ c.self.invariant c.self.view_is in
    let room = held_room _ _ _ _ c.self.invariant c.self.view_is in
    stored _ _ _ _ _ c.insert.ensures c.in-Ok.ensures.items (pushed_kept _ _ _ kept c.args.i c.args.entry c.requires.within c.requires.positive c.requires.narrow c.requires.following) _
    (omega (arith, c.push.ensures.capacity, length-set c.args.self.now c.args.i c.args.entry))

pub unreachable-requires : goal.unreachable-requires
unreachable-requires c =
    let count = count_is _ _ _ (held _ _ _ _ c.self.invariant c.self.view_is) in
    let room = held_room _ _ _ _ c.self.invariant c.self.view_is in
    let none = not_full c.args.self.now c.args.i c.requires.within (c.requires.following c.args.i (omega arith)) in
    absurd (false≢true (c.in-Err.ensures.succeeds (omega (arith, c.self.inside.numbers.ok.0))))

pub returns : goal.returns
returns c =
    let kept = held _ _ _ _ c.self.invariant c.self.view_is in
    shown _ _ _ _ _ c.insert.ensures c.in-Ok.ensures.items (pushed_kept _ _ _ kept c.args.i c.args.entry c.requires.within c.requires.positive c.requires.narrow c.requires.following)
