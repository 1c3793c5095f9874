use Rattle.std.proofs.Common.{◌∙◌}
use Rattle.net_values.specs.Nodes.{place_id}
use Rattle.report.proofs.BoundLines.{one_more}
use Rattle.report.proofs.bound_texts.push_bounds.Goals as goal

pub loop-p-preserved : goal.loop-p-preserved
loop-p-preserved c =
    one_more (place_id c.args.net.now) c.args.bounds.now c.loop-p.p _ _ _ _ _ c.loop-p.invariant (c.as_str.ensures ∙ c.place_id.ensures) c.bound_of.ensures c.in_ok-push_bound.ensures
