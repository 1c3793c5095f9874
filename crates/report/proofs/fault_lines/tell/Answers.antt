-- The lines that are the same for every run, and those of a number.
use Rattle.report.specs.FaultLines.{firing_rejected_line}
use Rattle.report.proofs.fault_lines.tell.Goals as goal

pub returns-in-Usage : goal.returns-in-Usage
returns-in-Usage g c = rw c.in-Usage.is c.write_all.ensures

pub returns-in-TooLong : goal.returns-in-TooLong
returns-in-TooLong g c = rw c.in-TooLong.is c.write_all-in-TooLong.ensures

pub returns-in-ReadFault : goal.returns-in-ReadFault
returns-in-ReadFault g c = rw c.in-ReadFault.is c.write_all-in-ReadFault.ensures

pub returns-in-WriteFault : goal.returns-in-WriteFault
returns-in-WriteFault g c = rw c.in-WriteFault.is c.write_all-in-WriteFault.ensures

pub returns-in-NoMemory : goal.returns-in-NoMemory
returns-in-NoMemory g c = rw c.in-NoMemory.is c.write_all-in-NoMemory.ensures

pub returns-in-Malformed : goal.returns-in-Malformed
returns-in-Malformed g c = rw c.in-Malformed.is c.tell_line.ensures

pub returns-in-MalformedPending : goal.returns-in-MalformedPending
returns-in-MalformedPending g c = rw c.in-MalformedPending.is c.tell_line-in-MalformedPending.ensures

pub returns-in-RejectedPending : goal.returns-in-RejectedPending
returns-in-RejectedPending g c = rw c.in-RejectedPending.is c.tell_line-in-RejectedPending.ensures

pub returns-in-MalformedFiring : goal.returns-in-MalformedFiring
returns-in-MalformedFiring g c = rw c.in-MalformedFiring.is c.tell_line-in-MalformedFiring.ensures

pub returns-in-RejectedFiring : goal.returns-in-RejectedFiring
unfolding firing_rejected_line
returns-in-RejectedFiring g c = rw c.in-RejectedFiring.is c.tell_member.ensures
