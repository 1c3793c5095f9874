-- Each read is one more piece, or the last.
use Rattle.std.proofs.Common.{sym, arith, length-take, length-take-le}
use Rattle.page_flatten.proofs.FaultLaws.{err_goes}
use Rattle.struct_core.specs.Obtaining.{StopsBy}
use Rattle.struct_core.proofs.Intaking.{fed_within}
use Rattle.struct_core.proofs.InputReads.{nothing_read, piece_read, all_read, read_stops, no_room_to_read, no_room_for_piece}
use Rattle.struct_core.proofs.reading.read_input.Goals as goal

pub returns-in_err-intake-clause-refused : goal.returns-in_err-intake-clause-refused
returns-in_err-intake-clause-refused g c =
    err_goes (StopsBy c.args.task _ _) c.from_residual.result _ c.from_residual.ensures.1 (λ k budgets. no_room_to_read c.args.task k budgets _)

pub returns-in_err-room-clause-refused : goal.returns-in_err-room-clause-refused
returns-in_err-room-clause-refused g c =
    err_goes (StopsBy c.args.task _ _) c.from_residual-in_err-room.result _ c.from_residual-in_err-room.ensures.1 (λ k budgets. no_room_to_read c.args.task k budgets _)

pub pieces-init : goal.pieces-init
pieces-init g c = nothing_read c.args.task _ _ _ c.in_ok-intake.ensures (omega (arith, c.in_ok-room.ensures, c.as_mut_slice-buffer.ensures.len))

pub read_piece-requires-clause-within : goal.read_piece-requires-clause-within
read_piece-requires-clause-within g c = c.pieces.invariant.within

pub read_piece-requires-clause-room : goal.read_piece-requires-clause-room
read_piece-requires-clause-room g c = c.pieces.invariant.room

pub returns-in_err-count-clause-refused : goal.returns-in_err-count-clause-refused
returns-in_err-count-clause-refused g c =
    let told = c.in_err-count.ensures in
    err_goes (StopsBy c.args.task _ _) c.from_residual-in_err-count.result _ c.from_residual-in_err-count.ensures.1
    (λ k budgets. read_stops c.args.task k budgets _ _ _ c.pieces.intake c.pieces.taken _ c.in_err-count.field-0.0 c.pieces.invariant told.read_fault told.too_long told.too_long_kept)

pub returns-then-count-eq0-clause-taken : goal.returns-then-count-eq0-clause-taken
returns-then-count-eq0-clause-taken g c =
    let told = c.in_ok-count.ensures in
    all_read c.args.task _ _ _ c.pieces.intake c.pieces.taken c.in_ok-count.count _ c.read_piece.new.buffer c.pieces.invariant told.taken c.if-count-eq0.true (told.ended c.if-count-eq0.true) told.kept

pub take-requires : goal.take-requires
take-requires g c =
    let so = c.pieces.invariant in
    omega (arith, fed_within c.args.task c.pieces.intake so.input so.taken, so.count_is, so.within, c.in_ok-count.ensures.within, length-take c.in_ok-count.count c.read_piece.new.buffer)

pub returns-in_err-take-clause-refused : goal.returns-in_err-take-clause-refused
returns-in_err-take-clause-refused g c =
    let told = c.in_ok-count.ensures in
    err_goes (StopsBy c.args.task _ _) c.from_residual-in_err-take.result _ c.from_residual-in_err-take.ensures.1
    (λ k budgets. no_room_for_piece c.args.task k budgets _ _ _ c.pieces.intake c.pieces.taken c.in_ok-count.count _ _ c.pieces.invariant told.taken told.kept (sym (length-take-le c.in_ok-count.count c.read_piece.new.buffer told.fits)) told.within)

pub pieces-preserved : goal.pieces-preserved
pieces-preserved g c =
    let told = c.in_ok-count.ensures in
    let n = c.in_ok-count.count in
    piece_read c.args.task _ _ _ c.pieces.intake c.take.new.self c.pieces.taken n _ _ _ c.pieces.invariant told.taken told.kept (sym (length-take-le n c.read_piece.new.buffer told.fits)) told.within
    (λ bytes has. c.in_ok-take.ensures c.args.task bytes has) (omega (arith, c.if-count-eq0.false, told.fits))
