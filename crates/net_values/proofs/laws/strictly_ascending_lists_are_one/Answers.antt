use Rattle.net_values.proofs.OneList.{members_make_the_list_of_vectors, members_make_the_list_of_sets}
use Rattle.net_values.proofs.laws.strictly_ascending_lists_are_one.Goals as goal

pub returns-clause-vectors : goal.returns-clause-vectors
returns-clause-vectors c = members_make_the_list_of_vectors

pub returns-clause-sets : goal.returns-clause-sets
returns-clause-sets c = members_make_the_list_of_sets
