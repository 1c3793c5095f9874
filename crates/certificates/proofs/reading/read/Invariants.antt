-- How far the bytes were read, and that neither the lines nor the trees that are due exceed the bytes.
use Rattle.std.proofs.Common.{◌+◌, ◌≤◌, length}
use Rattle.certificates.specs.Moves.{due_of}
use Rattle.certificates.proofs.ReadLines.{ReadTo}
use Rattle.certificates.proofs.reading.read.Given as goal

abbrev pub invariant-lines : goal.invariant-lines
invariant-lines l = ReadTo l.fn.bytes l.rest l.progress l.number × (due_of l.progress ≤ l.number) × (l.number + length l.rest ≤ length l.fn.bytes + 1)

abbrev pub decreases-lines : goal.decreases-lines
decreases-lines l = length l.rest
