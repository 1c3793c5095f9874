use Rattle.std.proofs.Common.{◌≡◌, ◌++◌, take}
use Rattle.std.specs.List.{flat_map}
use Rattle.net_values.specs.Nodes.{node_id}
use Rattle.report.specs.Texts.{semiflow_line}
use Rattle.report.proofs.semiflow_texts.push_semiflows.Given as goal

abbrev pub invariant-loop-row : goal.invariant-loop-row
invariant-loop-row l = l.text ≡ l.fn.text ++ flat_map (semiflow_line (node_id l.kind l.net)) (take l.row-index l.rows)
