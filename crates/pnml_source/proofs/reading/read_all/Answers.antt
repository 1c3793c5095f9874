-- A refusal of the last read counts its bytes from those that were read before.
use Rattle.std.proofs.Common.{◌∙◌, sym, arith}
use Rattle.std.proofs.lemmas.Result.{err_from_is_err_and}
use Rattle.pnml_source.proofs.Chained.{exactly_follows, at_most_follows}
use Rattle.pnml_source.proofs.reading.read_all.Goals as goal

pub returns-in_err-append_piece-clause-too_long : goal.returns-in_err-append_piece-clause-too_long
returns-in_err-append_piece-clause-too_long g c =
    let fault = err_from_is_err_and c.from_residual-in_err-append_piece.result c.from_residual-in_err-append_piece.ensures.1 in
    rw fault.1 (λ e. exactly_follows _ _ _ _ _ _ c.pieces.bytes.ok.0 c.pieces.invariant.within c.pieces.invariant.read (c.in_err-append_piece.ensures.too_long (sym fault.2 ∙ e)))

pub returns-in_err-append_piece-clause-no_memory : goal.returns-in_err-append_piece-clause-no_memory
returns-in_err-append_piece-clause-no_memory g c =
    let fault = err_from_is_err_and c.from_residual-in_err-append_piece.result c.from_residual-in_err-append_piece.ensures.1 in
    rw fault.1 (λ e. at_most_follows _ _ _ _ _ _ c.pieces.bytes.ok.0 c.pieces.invariant.within c.pieces.invariant.read (c.in_err-append_piece.ensures.no_memory (sym fault.2 ∙ e)))

pub returns-in_err-append_piece-clause-taken : goal.returns-in_err-append_piece-clause-taken
returns-in_err-append_piece-clause-taken g c =
    let fault = err_from_is_err_and c.from_residual-in_err-append_piece.result c.from_residual-in_err-append_piece.ensures.1 in
    rw fault.1 (λ other. at_most_follows _ _ _ _ _ _ c.pieces.bytes.ok.0 (omega (arith, c.pieces.invariant.within)) c.pieces.invariant.read (c.in_err-append_piece.ensures.taken (λ e. other (fault.2 ∙ e))))
