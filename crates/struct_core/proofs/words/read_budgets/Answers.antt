-- One option after the other.
use Rattle.page_flatten.proofs.Lists.{where_none}
use Rattle.struct_core.proofs.Options.{whole_means, no_sets, no_rest, nothing_left, something_left}
use Rattle.struct_core.proofs.words.read_budgets.Goals as goal

pub returns-in_err-sets-clause-none : goal.returns-in_err-sets-clause-none
returns-in_err-sets-clause-none c =
    where_none c.from_residual-in_err-sets.result _ (λ budgets means. no_sets _ _ _ budgets c.in_ok-rows.ensures.taken c.in_err-sets.ensures.none means)

pub returns-then-is_empty-clause-meant : goal.returns-then-is_empty-clause-meant
returns-then-is_empty-clause-meant c =
    whole_means _ _ _ _ _ c.in_ok-rows.ensures.taken c.in_ok-sets.ensures.taken (nothing_left _ c.if-is_empty.ensures)

pub returns-else-is_empty-clause-none : goal.returns-else-is_empty-clause-none
returns-else-is_empty-clause-none c = λ budgets means.
    something_left _ c.if-is_empty.ensures (no_rest _ _ _ _ _ budgets c.in_ok-rows.ensures.taken c.in_ok-sets.ensures.taken means)
