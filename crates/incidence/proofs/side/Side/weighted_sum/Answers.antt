use Rattle.std.proofs.Common.{ap, sym, ◌∙◌, subst, ℕ, ◌+◌, ◌*◌, ◌^◌, ◌<◌, slice_index, sum_by}
use Rattle.std.proofs.lemmas.List.{take_all}
use Rattle.std.proofs.lemmas.List.Sums.{sum_by_more_le}
use Rattle.std.proofs.lemmas.Result.{err_from_is_err_and}
use Rattle.net_values.specs.declared.column.WeightedPlace.{WeightedPlace}
use Rattle.net_values.specs.FlatNets.{net_of}
use Rattle.incidence.specs.Excess.{arcs_of, back_of}
use Rattle.incidence.proofs.Below.{narrow_part}
use Rattle.incidence.proofs.Entries.{left_of, excess_total}
use Rattle.incidence.proofs.side.Side.weighted_sum.Goals as goal

-- a part of the sum that is wide makes the whole wide
pub returns-in_err-total : goal.returns-in_err-total
returns-in_err-total c =
    let net = net_of c.args.net.now in
    let y = slice_index c.args.factors.now in
    let back = λ (p : ℕ). back_of c.args.self net p c.args.t in
    let arcs = c.arcs-arcs.result.now in
    let whole = excess_total net.places (λ (p : ℕ). arcs_of c.args.self net p c.args.t) back y arcs c.arcs-arcs.ensures.lists in
    let part = sum_by_more_le (λ (e : WeightedPlace). y e.place * left_of back e) arcs c.loop-arc.arc-index record { place = 0; weight = 0 } c.loop-arc-test.true in
    let p = err_from_is_err_and c.from_residual.result c.from_residual.ensures.1 in
    rw (p.1) (λ narrow. c.in_err-total.ensures (subst (λ (x : ℕ). c.loop-arc.total + x * c.excess-excess.result < 2 ^ 127) (sym c.entry_at.ensures.value) (narrow_part _ _ _ _ _ _ _ c.excess-excess.ensures c.loop-arc.invariant.total part whole narrow)))

pub returns : goal.returns
returns c =
    let net = net_of c.args.net.now in
    let y = slice_index c.args.factors.now in
    let back = λ (p : ℕ). back_of c.args.self net p c.args.t in
    let arcs = c.arcs-arcs.result.now in
    let whole = excess_total net.places (λ (p : ℕ). arcs_of c.args.self net p c.args.t) back y arcs c.arcs-arcs.ensures.lists in
    let total = c.loop-arc.invariant.total ∙ ap (sum_by (λ (e : WeightedPlace). y e.place * left_of back e)) (take_all c.loop-arc.arc-index arcs c.loop-arc-test.false) ∙ whole in
    let P : ℕ → Type 0 = λ n. n < 2 ^ 127 in
    (subst P total c.loop-arc.invariant.narrow, total)
