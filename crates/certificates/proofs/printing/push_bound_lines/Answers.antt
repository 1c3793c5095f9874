-- The text of the parts, one after the other.
use Rattle.certificates.proofs.Texts.{bounds_appended}
use Rattle.certificates.proofs.printing.push_bound_lines.Goals as goal

pub returns : goal.returns
returns c = bounds_appended _ _ _ _ _ _ _ c.args.lines.now c.in_ok-push.ensures.ok c.in_ok-push_flows.ensures c.in_ok-push_bounds.ensures c.in_ok-push-2.ensures.ok c.as_slice.ensures c.as_slice-2.ensures
