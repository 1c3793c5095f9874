use Rattle.closed_sets.proofs.Unions.{union_siphon}
use Rattle.closed_sets.proofs.laws.unions_of_siphons_are_siphons.Goals as goal

pub returns : goal.returns
returns c = union_siphon
