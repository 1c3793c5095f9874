-- what is told of the whole is what is told of the bytes that are left, with those before counted
use Rattle.std.proofs.Common.{◌-◌, ◌≤◌, length}
use Rattle.pnml_token.proofs.ScanRuns.{GoesOn}
use Rattle.pnml_token.proofs.held.end_within.Given as goal

abbrev pub invariant-bytes : goal.invariant-bytes
invariant-bytes l = (l.index ≤ length l.piece) × GoesOn l.fn.scan l.fn.piece l.scan l.index

abbrev pub decreases-bytes : goal.decreases-bytes
decreases-bytes l = length l.piece - l.index
