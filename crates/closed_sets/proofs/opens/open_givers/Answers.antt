use Rattle.std.proofs.Common.{◌≡◌, ◌<◌, ◌≤◌, ◌∙◌, ◌&&◌, ◌||◌, sym, ap, true, get_or, length, length-set, not, arith}
use Rattle.net_values.specs.FlatNets.{net_of}
use Rattle.net_values.specs.PlaceSets.{has}
use Rattle.closed_sets.specs.ClosedSets.{has_input_in}
use Rattle.closed_sets.proofs.OpenSets.{listed_all, opened_more, opened_skip}
use Rattle.closed_sets.proofs.Passes.{meets_is}
use Rattle.closed_sets.proofs.opens.open_givers.Goals as goal
use Rattle.closed_sets.proofs.opens.open_givers.Goals.{then-not-meets, else-not-meets}

pub loop-t-preserved : goal.loop-t-preserved
loop-t-preserved c =
    let net = net_of c.args.net.now in
    let takes = has_input_in net (has c.args.set.now) in
    let ts = c.givers-givers.result.now in
    let i = c.loop-t.t-index in
    let within : i < length ts = omega arith in
    let below : get_or ts i 0 < length c.loop-t.opens = omega (arith, c.givers-givers.ensures.within i 0 within, c.loop-t.invariant.0, c.requires.open) in
    let met : c.meets.result ≡ takes (get_or ts i 0) = c.meets.ensures ∙ meets_is _ _ _ (has c.args.set.now) c.inputs.ensures.lists in
    elim c.if-not-meets.branch [
      | then-not-meets w ↦
          rw (w.opens-is, w.insert.ensures)
          (length-set c.loop-t.opens (get_or ts i 0) true ∙ c.loop-t.invariant.0, opened_more ts i within c.args.opens.now c.loop-t.opens takes below (sym met ∙ w.if-not-meets.true) c.loop-t.invariant.1)
      | else-not-meets w ↦
          rw (w.opens-is)
          (c.loop-t.invariant.0, opened_skip ts i within c.args.opens.now c.loop-t.opens takes (sym met ∙ w.if-not-meets.false) c.loop-t.invariant.1)
    ]

pub returns-clause-opened : goal.returns-clause-opened
returns-clause-opened c =
    let net = net_of c.args.net.now in
    let ts = c.givers-givers.result.now in
    let past : length ts ≤ c.loop-t.t-index = omega arith in
    λ t.
    c.loop-t.invariant.1 t
    ∙ ap (λ b. has c.args.opens.now t || (b && not (has_input_in net (has c.args.set.now) t)))
    (listed_all (λ u. net.post c.args.p u) ts c.loop-t.t-index t c.givers-givers.ensures.lists past)
