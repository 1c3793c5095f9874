-- What the window says holds of all bytes.
use Rattle.std.proofs.Common.{take}
use Rattle.std.proofs.lemmas.Result.{err_from_is_err_and}
use Rattle.pnml_token.proofs.Windows.{token_shorter, window_found, window_missed}
use Rattle.pnml_token.proofs.token.token_within.Goals as goal

pub returns-in_err-token : goal.returns-in_err-token
returns-in_err-token c =
    let p = err_from_is_err_and c.from_residual.result c.from_residual.ensures.1 in
    rw (p.1, p.2) (window_missed c.args.bytes.now c.window_length.result c.in_err-token.field-0.0 c.window_length.ensures c.in_err-token.ensures)

pub overflow_sub-result : goal.overflow_sub-result
overflow_sub-result c = token_shorter (take c.window_length.result c.args.bytes.now) c.in_ok-token.token c.in_ok-token.rest.now c.in_ok-token.ensures

pub returns : goal.returns
returns c = window_found c.args.bytes.now c.window_length.result c.in_ok-token.token c.in_ok-token.rest.now c.window_length.ensures c.in_ok-token.ensures
