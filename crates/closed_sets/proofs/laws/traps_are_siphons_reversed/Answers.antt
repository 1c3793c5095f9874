use Rattle.closed_sets.proofs.Traps.{traps_reversed}
use Rattle.closed_sets.proofs.laws.traps_are_siphons_reversed.Goals as goal

pub returns : goal.returns
returns c = traps_reversed
