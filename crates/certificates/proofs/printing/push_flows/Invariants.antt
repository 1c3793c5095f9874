use Rattle.std.proofs.Common.{◌≡◌, ◌++◌, take}
use Rattle.std.specs.List.{flat_map}
use Rattle.certificates.specs.Spelling.{flow_line}
use Rattle.certificates.proofs.printing.push_flows.Given as goal

abbrev pub invariant-loop-flow : goal.invariant-loop-flow
invariant-loop-flow l = l.text ≡ l.fn.text ++ flat_map flow_line (take l.flow-index l.flows)
