-- The option of the net comes before those of the budgets.
use Rattle.page_flatten.proofs.Lists.{where_none}
use Rattle.struct_core.proofs.Options.{options_mean, no_net, no_budgets}
use Rattle.struct_core.proofs.words.read_options.Goals as goal

pub returns-in_err-net-clause-none : goal.returns-in_err-net-clause-none
returns-in_err-net-clause-none c =
    where_none c.from_residual.result _ (λ k budgets means. no_net _ k budgets c.in_err-net.ensures.none means)

pub returns-in_err-budgets-clause-none : goal.returns-in_err-budgets-clause-none
returns-in_err-budgets-clause-none c =
    where_none c.from_residual-in_err-budgets.result _ (no_budgets _ _ _ c.in_ok-net.ensures.taken c.in_err-budgets.ensures.none)

pub returns-clause-meant : goal.returns-clause-meant
returns-clause-meant c = options_mean _ _ _ _ c.in_ok-net.ensures.taken c.in_ok-budgets.ensures.meant
