use Rattle.struct_core.proofs.SomeOutcome.{canon_stays}
use Rattle.struct_core.proofs.laws.canonical_text_stays.Goals as goal

pub returns : goal.returns
returns c = canon_stays
