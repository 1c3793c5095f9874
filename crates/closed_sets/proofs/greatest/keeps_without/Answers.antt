use Rattle.net_values.specs.FlatNets.{net_of}
use Rattle.closed_sets.proofs.Settling.{keeps_members, loses_member, match_both}
use Rattle.closed_sets.proofs.greatest.keeps_without.Goals as goal

pub returns-clause-left : goal.returns-clause-left
returns-clause-left c =
    let net = net_of c.args.net.now in
    match_both c.leave_out.result
    (keeps_members net _ c.args.kept.now c.args.p c.args.set.now c.leave_out.new.set (λ q there. there))
    (loses_member net _ c.args.kept.now c.args.p c.args.set.now (λ q there. there)) c.leave_out.ensures.left
