use Rattle.siphon_branch.proofs.LiveClasses.{live_grown}
use Rattle.siphon_branch.proofs.laws.live_classes_have_a_grown_siphon.Goals as goal

pub returns : goal.returns
returns c = live_grown
