use Rattle.struct_core.proofs.SampleValued.{samples_are}
use Rattle.struct_core.proofs.laws.samples_are_in_the_profile.Goals as goal

pub returns : goal.returns
returns c = samples_are
