use Rattle.branch_resume.proofs.Whole.{cut_classes_are_parted}
use Rattle.branch_resume.proofs.laws.cut_classes_are_parted.Goals as goal

pub returns : goal.returns
returns c = cut_classes_are_parted
