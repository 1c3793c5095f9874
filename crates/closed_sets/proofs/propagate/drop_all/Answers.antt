-- At each entry the place is taken out where it is in the set and not guarded.
use Rattle.std.proofs.Common.{◌≡◌, ◌<◌, ℕ, false, IsTrue, get_or, length, rules, arith}
use Rattle.net_values.specs.PlaceSets.{has}
use Rattle.net_values.proofs.TokenCounts.{nowhere}
use Rattle.closed_sets.specs.Guards.{guards}
use Rattle.closed_sets.proofs.Falling.{drops_none, drops_more}
use Rattle.closed_sets.proofs.propagate.drop_all.Goals as goal

pub loop-entry-init : goal.loop-entry-init
loop-entry-init c = drops_none c.args.guard c.args.entries.now c.args.set.now c.args.fallen.now

pub loop-entry-preserved : goal.loop-entry-preserved
loop-entry-preserved c =
    let at : ℕ = (get_or c.args.entries.now c.loop-entry.entry-index nowhere).place in
    let within : c.loop-entry.entry-index < length c.args.entries.now = omega arith in
    let member : IsTrue (has c.loop-entry.set at) = search rules in
    let free : guards c.args.guard at ≡ false = search rules in
    rw (c.remove.ensures, c.push.ensures)
    (drops_more c.args.guard c.args.entries.now c.loop-entry.entry-index within c.args.set.now c.loop-entry.set c.args.fallen.now c.loop-entry.fallen member free c.loop-entry.invariant)
