-- The lines so far were read, and neither they nor the trees that are due are more than the bytes.
use Rattle.std.proofs.Common.{length}
use Rattle.certificates.specs.Moves.{ReadsOn}
use Rattle.certificates.specs.declared.progress.Progress.TheVariants.{InTree}
use Rattle.certificates.proofs.tree_lines.read_tree.Given as goal

abbrev pub invariant-lines : goal.invariant-lines
invariant-lines l = ReadsOn (InTree l.fn.tree l.fn.due) l.fn.bytes (InTree l.tree l.due) l.rest l.lines

abbrev pub decreases-lines : goal.decreases-lines
decreases-lines l = length l.rest
