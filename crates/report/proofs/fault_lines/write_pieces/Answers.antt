-- A piece more, or a prefix.
use Rattle.std.proofs.Common.{◌<◌, length, arith}
use Rattle.report.proofs.WrittenPieces.{piece_at, piece_fails, piece_written, stopped}
use Rattle.report.proofs.fault_lines.write_pieces.Goals as goal

pub returns-in_err-write_all : goal.returns-in_err-write_all
returns-in_err-write_all g c =
    let h : c.loop-piece.piece-index < length c.args.pieces.now = omega (arith, c.loop-piece-test.true, c.loop-piece.auto.piece-index-end) in
    stopped _ _ _ _ _ _ c.from_residual.result c.from_residual.ensures.0
    (piece_fails _ _ _ c.loop-piece.piece-index _ _ (piece_at c.args.pieces.now c.loop-piece.piece-index _ h) c.loop-piece.invariant.written c.in_err-write_all.ensures.cut)
    c.loop-piece.invariant.kept c.in_err-write_all.ensures.cause.later c.in_err-write_all.ensures.cause.failed

pub loop-piece-preserved : goal.loop-piece-preserved
loop-piece-preserved g c =
    let h : c.loop-piece.piece-index < length c.args.pieces.now = omega (arith, c.loop-piece-test.true, c.loop-piece.auto.piece-index-end) in
    piece_written _ _ _ _ _ _ _ c.loop-piece.piece-index _ (piece_at c.args.pieces.now c.loop-piece.piece-index _ h) c.loop-piece.invariant
    c.in_ok-write_all.ensures.whole c.in_ok-write_all.ensures.cause.kept
