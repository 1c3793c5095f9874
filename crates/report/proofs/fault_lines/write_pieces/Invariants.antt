-- The pieces so far were written, and no fault was counted.
use Rattle.std.proofs.Common.{map}
use Rattle.report.proofs.WrittenPieces.{HasWritten}
use Rattle.report.proofs.fault_lines.write_pieces.Given as goal

abbrev pub invariant-loop-piece : goal.invariant-loop-piece
invariant-loop-piece g l =
    HasWritten (map (λ piece. piece.now) l.pieces) (g.O.Sink.held l.initial.sink) (g.O.Sink.held l.sink) (g.O.Sink.faults l.initial.sink) (g.O.Sink.faults l.sink) l.piece-index
