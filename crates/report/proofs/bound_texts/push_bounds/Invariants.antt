use Rattle.std.proofs.Common.{◌≡◌, ◌++◌}
use Rattle.net_values.specs.Nodes.{place_id}
use Rattle.report.specs.Texts.{bound_lines}
use Rattle.report.proofs.bound_texts.push_bounds.Given as goal

abbrev pub invariant-loop-p : goal.invariant-loop-p
invariant-loop-p l = l.text ≡ l.fn.text ++ bound_lines (place_id l.net) l.bounds l.p
