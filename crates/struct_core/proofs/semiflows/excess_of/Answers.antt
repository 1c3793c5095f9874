-- Each failure is told with the id of its column.
use Rattle.std.proofs.Common.{◌∙◌}
use Rattle.struct_core.proofs.Listing.{wide_sum_told, wide_row_told, budget_told}
use Rattle.struct_core.proofs.semiflows.excess_of.Goals as goal

pub returns-in_ok-copy-in-WideSum : goal.returns-in_ok-copy-in-WideSum
returns-in_ok-copy-in-WideSum c =
    wide_sum_told _ _ _ c.in-WideSum.column _ c.args.fault c.in-WideSum.is c.requires.fault (c.in_ok-copy-in-WideSum.ensures ∙ c.node_id.ensures)

pub returns-in_ok-copy-in-RowBudget : goal.returns-in_ok-copy-in-RowBudget
returns-in_ok-copy-in-RowBudget c =
    budget_told _ _ _ c.in-RowBudget.column c.in-RowBudget.count _ c.args.fault c.in-RowBudget.is c.requires.fault (c.in_ok-copy-in-RowBudget.ensures ∙ c.node_id-in-RowBudget.ensures)

pub returns-in_ok-copy-in-WideRow : goal.returns-in_ok-copy-in-WideRow
returns-in_ok-copy-in-WideRow c =
    wide_row_told _ _ _ c.in-WideRow.column _ c.args.fault c.in-WideRow.is c.requires.fault (c.in_ok-copy-in-WideRow.ensures ∙ c.node_id-in-WideRow.ensures)
