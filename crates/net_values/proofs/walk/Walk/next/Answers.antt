use Rattle.std.proofs.Common.{rules, arith}
use Rattle.net_values.proofs.PackedWalks.{zeros_before, walked_on, next_below, first_found, none_left}
use Rattle.net_values.proofs.walk.Walk.next.Goals as goal

pub returns-in_default-clause-next : goal.returns-in_default-clause-next
returns-in_default-clause-next c = none_left _ _ _ _ _ c.self.invariant c.self.view_is (search rules)

pub offset_bounds-self-inside-self-inside : goal.offset_bounds-self-inside-self-inside
offset_bounds-self-inside-self-inside c =
    let zeros = zeros_before _ _ _ _ _ c.self.invariant c.self.view_is c.in-Some.position c.in-Some.ensures in
    let below = next_below _ _ _ _ _ c.self.invariant c.self.view_is _ zeros c.in-Some.ensures.member in
    omega (arith, c.self.told.0, c.self.told.1)

pub bounds-self-inside-self-inside : goal.bounds-self-inside-self-inside
bounds-self-inside-self-inside c =
    let zeros = zeros_before _ _ _ _ _ c.self.invariant c.self.view_is c.in-Some.position c.in-Some.ensures in
    next_below _ _ _ _ _ c.self.invariant c.self.view_is _ zeros c.in-Some.ensures.member

pub overflow_add-self-2 : goal.overflow_add-self-2
overflow_add-self-2 c =
    let zeros = zeros_before _ _ _ _ _ c.self.invariant c.self.view_is c.in-Some.position c.in-Some.ensures in
    let below = next_below _ _ _ _ _ c.self.invariant c.self.view_is _ zeros c.in-Some.ensures.member in
    omega (arith, c.self.told.0, c.self.told.1)

pub invariant_of-self : goal.invariant_of-self
invariant_of-self c =
    let zeros = zeros_before _ _ _ _ _ c.self.invariant c.self.view_is c.in-Some.position c.in-Some.ensures in
    walked_on _ _ _ _ _ c.self.invariant c.self.view_is _ zeros c.in-Some.ensures.member

pub returns-clause-next : goal.returns-clause-next
returns-clause-next c = first_found _ _ _ _ _ c.self.invariant c.self.view_is c.in-Some.position c.in-Some.ensures
