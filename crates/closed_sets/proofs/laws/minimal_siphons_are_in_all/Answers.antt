use Rattle.closed_sets.proofs.Covers.{covers}
use Rattle.closed_sets.proofs.laws.minimal_siphons_are_in_all.Goals as goal

pub returns : goal.returns
returns c = covers
