use Rattle.std.proofs.Common.{◌≡◌, ◌++◌, take}
use Rattle.std.specs.List.{flat_map}
use Rattle.net_values.specs.Nodes.{place_id}
use Rattle.report.specs.Texts.{set_line}
use Rattle.report.proofs.set_texts.push_sets.Given as goal

abbrev pub invariant-loop-set : goal.invariant-loop-set
invariant-loop-set l = l.text ≡ l.fn.text ++ flat_map (set_line (place_id l.net)) (take l.set-index l.sets)
