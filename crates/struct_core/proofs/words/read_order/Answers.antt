-- The words after a task's are its options, and no more rows are said than it may take.
use Rattle.std.proofs.Common.{sym, ◌∙◌, arith}
use Rattle.page_flatten.proofs.Lists.{where_none}
use Rattle.struct_core.proofs.Orders.{no_options, too_many_rows}
use Rattle.struct_core.proofs.words.read_order.Goals as goal

pub returns-in_err-net-in-Some-clause-none : goal.returns-in_err-net-in-Some-clause-none
returns-in_err-net-in-Some-clause-none c =
    where_none c.from_residual.result _ (no_options _ _ _ (sym c.named.ensures ∙ c.in-Some.is) c.in_err-net-in-Some.ensures.none)

pub returns-else-budgets-most_rows-clause-none : goal.returns-else-budgets-most_rows-clause-none
returns-else-budgets-most_rows-clause-none c =
    too_many_rows c.args.word.now c.args.rest.now c.in-Some.task _ _ (sym c.named.ensures ∙ c.in-Some.is) c.in_ok-net-in-Some.ensures.meant
    (λ few. omega (arith, few, c.if-budgets-most_rows.false, c.most_rows.ensures))
