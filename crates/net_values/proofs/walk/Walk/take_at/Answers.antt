use Rattle.std.proofs.Common.{◌≡◌, ◌∙◌, true, false, sym, arith}
use Rattle.net_values.specs.PlaceSets.{has}
use Rattle.net_values.proofs.PackedWalks.{walked_kept, walked_past, walked_on, next_below, next_here, next_narrow}
use Rattle.net_values.proofs.walk.Walk.take_at.Goals as goal

pub overflow_add-self : goal.overflow_add-self
overflow_add-self c =
    let short = (walked_kept _ _ _ _ _ c.self.invariant c.self.view_is).vector.short in
    omega (arith, c.requires.within)

pub invariant_of-self : goal.invariant_of-self
invariant_of-self c =
    let is : has c.self.inside.support.now c.args.position ≡ false = sym c.contains.ensures ∙ c.if-not-contains.true in
    walked_past _ _ _ _ _ c.self.invariant c.self.view_is _ c.requires.ahead is

pub offset_bounds-numbers-self-inside : goal.offset_bounds-numbers-self-inside
offset_bounds-numbers-self-inside c =
    let is : has c.self.inside.support.now c.args.position ≡ true = sym c.contains.ensures ∙ c.if-not-contains.false in
    let below = next_below _ _ _ _ _ c.self.invariant c.self.view_is _ c.requires.ahead is in
    omega (arith, c.self.told.0, c.self.told.1)

pub bounds-numbers-self-inside : goal.bounds-numbers-self-inside
bounds-numbers-self-inside c = next_below _ _ _ _ _ c.self.invariant c.self.view_is _ c.requires.ahead (sym c.contains.ensures ∙ c.if-not-contains.false)

pub overflow_add-self-2 : goal.overflow_add-self-2
overflow_add-self-2 c =
    let is : has c.self.inside.support.now c.args.position ≡ true = sym c.contains.ensures ∙ c.if-not-contains.false in
    let below = next_below _ _ _ _ _ c.self.invariant c.self.view_is _ c.requires.ahead is in
    omega (arith, c.self.told.0, c.self.told.1)

pub invariant_of-self-2 : goal.invariant_of-self-2
invariant_of-self-2 c = walked_on _ _ _ _ _ c.self.invariant c.self.view_is _ c.requires.ahead (sym c.contains.ensures ∙ c.if-not-contains.false)

pub returns-clause-entry : goal.returns-clause-entry
returns-clause-entry c = next_here _ _ _ _ _ c.self.invariant c.self.view_is _ c.requires.ahead (sym c.contains.ensures ∙ c.if-not-contains.false)

pub returns-clause-bound : goal.returns-clause-bound
returns-clause-bound c = next_narrow _ _ _ _ _ c.self.invariant c.self.view_is _ c.requires.ahead (sym c.contains.ensures ∙ c.if-not-contains.false) c.requires.within
