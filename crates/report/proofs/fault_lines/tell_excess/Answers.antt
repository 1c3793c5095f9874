-- The lines with a number and an id.
use Rattle.report.specs.FaultLines.{wide_check_line, wide_marking_line}
use Rattle.report.proofs.fault_lines.tell_excess.Goals as goal

pub returns-in-WideCheck : goal.returns-in-WideCheck
unfolding wide_check_line
returns-in-WideCheck g c = rw c.in-WideCheck.is c.tell_member.ensures

pub returns-in-WideMarking : goal.returns-in-WideMarking
unfolding wide_marking_line
returns-in-WideMarking g c = rw c.in-WideMarking.is c.tell_member-in-WideMarking.ensures
