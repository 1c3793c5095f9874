use Rattle.std.proofs.Common.{◌≡◌, sym, ◌∙◌, false, IsTrue, arith}
use Rattle.net_values.specs.FlatNets.{net_of}
use Rattle.net_values.specs.PlaceSets.{has}
use Rattle.closed_sets.specs.ClosedSets.{has_input_in}
use Rattle.closed_sets.specs.Kinds.{seen_as}
use Rattle.closed_sets.proofs.Falling.{closes, closes_not, loses}
use Rattle.closed_sets.proofs.Settling.{match_both}
use Rattle.closed_sets.proofs.Passes.{meets_is}
use Rattle.closed_sets.proofs.propagate.close.Goals as goal

pub returns-then-meets-clause-closed : goal.returns-then-meets-clause-closed
returns-then-meets-clause-closed c =
    let net = seen_as c.args.kind (net_of c.args.net.now) in
    let takes : IsTrue (has_input_in net (has c.args.set.now) c.args.t) = sym (meets_is _ _ _ (has c.args.set.now) c.inputs.ensures) ∙ sym c.meets.ensures ∙ c.if-meets.true in
    closes_not net c.args.guard c.args.t c.args.set.now c.args.fallen.now takes

pub drop_all-requires-clause-few : goal.drop_all-requires-clause-few
drop_all-requires-clause-few c = omega (arith, c.requires.size, c.requires.few)

pub returns-clause-closed : goal.returns-clause-closed
returns-clause-closed c =
    let net = seen_as c.args.kind (net_of c.args.net.now) in
    let none : has_input_in net (has c.args.set.now) c.args.t ≡ false = sym (meets_is _ _ _ (has c.args.set.now) c.inputs.ensures) ∙ sym c.meets.ensures ∙ c.if-meets.false in
    match_both c.drop_all.result
    (closes net c.args.set.now c.args.t c.requires.transition none c.outputs.result.now c.outputs.ensures c.args.guard c.drop_all.new.set c.args.fallen.now c.drop_all.new.fallen)
    (loses net c.args.set.now c.args.t c.requires.transition none c.outputs.result.now c.outputs.ensures c.args.guard c.requires.size) c.drop_all.ensures.dropped
