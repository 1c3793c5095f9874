use Rattle.branch_resume.proofs.Whole.{trees_of_runs_are_one_search}
use Rattle.branch_resume.proofs.laws.trees_of_runs_are_one_search.Goals as goal

pub returns : goal.returns
returns c = trees_of_runs_are_one_search
