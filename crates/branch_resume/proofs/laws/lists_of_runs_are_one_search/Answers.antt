use Rattle.branch_resume.proofs.Whole.{lists_of_runs_are_one_search}
use Rattle.branch_resume.proofs.laws.lists_of_runs_are_one_search.Goals as goal

pub returns : goal.returns
returns c = lists_of_runs_are_one_search
