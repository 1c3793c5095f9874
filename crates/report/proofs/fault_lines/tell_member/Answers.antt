-- A number and an id in one line.
use Rattle.report.specs.FaultLines.{member_line}
use Rattle.report.proofs.fault_lines.tell_member.Goals as goal

pub returns : goal.returns
unfolding member_line
returns g c =
    rw (← c.format.ensures.text, ← c.as_bytes-digits.ensures.value, ← c.as_bytes.ensures.value) c.write_pieces.ensures
