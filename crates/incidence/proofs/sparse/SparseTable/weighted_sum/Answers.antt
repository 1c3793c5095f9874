use Rattle.std.proofs.Common.{ap, ◌∙◌, subst, sym, ℕ, ◌*◌, ◌^◌, ◌<◌, List, All, OkIff, slice_index}
use Rattle.incidence.specs.declared.sparse.Amount.{Amount}
use Rattle.incidence.specs.Sums.{sum_below}
use Rattle.incidence.specs.Tables.{amount_at}
use Rattle.incidence.proofs.TableLemmas.{amounts_total}
use Rattle.incidence.proofs.sparse.SparseTable.weighted_sum.Goals as goal

-- the sum over the entries is the sum over the rows
pub returns : goal.returns
returns c =
    let y = slice_index c.args.factors.now in
    let height = c.args.self.now.height in
    let P : ℕ → Type 0 = λ sum. OkIff {T = ℕ} c.weighted_total.result (sum < 2 ^ 127) sum in
    let total = amounts_total height y c.column.result.now (subst (λ (entries : List Amount). All (λ (entry : Amount). entry.row < height) entries) (sym c.column.ensures.value) (c.column.ensures.table.within c.args.column)) in
    subst P (total ∙ ap (λ (entries : List Amount). sum_below height (λ i. y i * amount_at entries i)) c.column.ensures.value) c.weighted_total.ensures
