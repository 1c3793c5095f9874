use Rattle.std.proofs.Common.{slice_index}
use Rattle.std.proofs.lemmas.Result.{err_from_is_err_and}
use Rattle.net_values.specs.FlatNets.{net_of}
use Rattle.incidence.specs.Matrix.{incidence_of}
use Rattle.incidence.proofs.SumLemmas.{narrow_gains, narrow_losses, sums_given}
use Rattle.incidence.proofs.TableLemmas.{apart}
use Rattle.incidence.proofs.flat_sums.net_sums.Goals as goal

pub returns : goal.returns
returns c =
    let net = net_of c.args.net.now in
    let m = incidence_of net in
    let j = c.args.column in
    sums_given m j (slice_index c.args.y.now) (λ i. apart (net.post i j) (net.pre i j)) _ _ c.in_ok-gain.ensures c.in_ok-loss.ensures

-- a sum that is wide isn't narrow
pub returns-in_err-gain : goal.returns-in_err-gain
returns-in_err-gain c =
    let net = net_of c.args.net.now in
    let j = c.args.column in
    let p = err_from_is_err_and c.from_residual.result c.from_residual.ensures.1 in
    rw (p.1) (λ narrow. c.in_err-gain.ensures (narrow_gains (incidence_of net) j (slice_index c.args.y.now) (λ i. apart (net.post i j) (net.pre i j)) narrow))

pub returns-in_err-loss : goal.returns-in_err-loss
returns-in_err-loss c =
    let net = net_of c.args.net.now in
    let j = c.args.column in
    let p = err_from_is_err_and c.from_residual-in_err-loss.result c.from_residual-in_err-loss.ensures.1 in
    rw (p.1) (λ narrow. c.in_err-loss.ensures (narrow_losses (incidence_of net) j (slice_index c.args.y.now) (λ i. apart (net.post i j) (net.pre i j)) narrow))
