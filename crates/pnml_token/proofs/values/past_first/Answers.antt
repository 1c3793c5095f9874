-- Text may be cut after an ASCII byte.
use Rattle.pnml_token.proofs.Cuts.{cut_after_first}
use Rattle.pnml_token.proofs.values.past_first.Goals as goal

pub range_from-requires : goal.range_from-requires
range_from-requires c = λ lt. cut_after_first c.args.text.now c.utf8.text c.requires.some c.requires.ascii
