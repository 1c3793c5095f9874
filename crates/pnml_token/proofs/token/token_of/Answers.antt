use Rattle.pnml_token.proofs.Windows.{shape_shorter}
use Rattle.pnml_token.proofs.token.token_of.Goals as goal

pub slice_bounds-is_spelling-count : goal.slice_bounds-is_spelling-count
slice_bounds-is_spelling-count c = shape_shorter c.args.bytes.now c.in_ok-token.token c.in_ok-token.rest.now c.in_ok-token.ensures
