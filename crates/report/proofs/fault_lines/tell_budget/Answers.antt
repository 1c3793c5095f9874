-- Two numbers in one line.
use Rattle.report.specs.FaultLines.{budget_line}
use Rattle.report.proofs.fault_lines.tell_budget.Goals as goal

pub returns : goal.returns
unfolding budget_line
returns g c =
    rw (← c.format.ensures.text, ← c.as_bytes.ensures.value, ← c.as_bytes-2.ensures.value, ← c.format-2.ensures.text, ← c.as_bytes-3.ensures.value) c.write_pieces.ensures
