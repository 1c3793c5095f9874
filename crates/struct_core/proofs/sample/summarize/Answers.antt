-- Each refusal is that of the first task that is refused, and the numbers are those of the lists.
use Rattle.std.proofs.Common.{rules, length, to_z, of_z}
use Rattle.std.proofs.lemmas.Int.{to_z-of_z}
use mir.Syntax.{w128}
use mir.Val.{SFits}
use Rattle.page_flatten.proofs.FaultLaws.{err_goes}
use Rattle.net_values.specs.declared.document.Document.{Document}
use Rattle.report.specs.declared.refusal.Refusal.{Refusal}
use Rattle.struct_core.specs.Answers.{FailsWith}
use Rattle.struct_core.specs.Summaries.{HasGreatest}
use Rattle.struct_core.specs.Outcome.{SampleOutcome, sample_tasks}
use Rattle.struct_core.proofs.Listing.{fails_so}
use Rattle.struct_core.proofs.Summing.{no_places, no_cycles, many_siphons, no_bounds, numbers_told}
use Rattle.struct_core.proofs.sample.summarize.Goals as goal

pub returns-in_err-rows-clause-refused : goal.returns-in_err-rows-clause-refused
returns-in_err-rows-clause-refused c =
    err_goes (λ (r : Refusal). (document : Document) → FailsWith (SampleOutcome document c.args.net.now sample_tasks) r) c.from_residual.result _ c.from_residual.ensures.1
    (λ document. fails_so _ _ _ (no_places document c.args.net.now) (rw c.default_budgets-budgets.ensures at c.in_err-rows.ensures.refused))

pub returns-in_err-cycles-clause-refused : goal.returns-in_err-cycles-clause-refused
returns-in_err-cycles-clause-refused c =
    err_goes (λ (r : Refusal). (document : Document) → FailsWith (SampleOutcome document c.args.net.now sample_tasks) r) c.from_residual-in_err-cycles.result _ c.from_residual-in_err-cycles.ensures.1
    (λ document. fails_so _ _ _ (no_cycles document c.args.net.now _ (rw c.default_budgets-budgets.ensures at c.in_ok-rows.ensures.listed)) (rw c.default_budgets-budgets.ensures at c.in_err-cycles.ensures.refused))

pub returns-in_err-siphons-clause-refused : goal.returns-in_err-siphons-clause-refused
returns-in_err-siphons-clause-refused c =
    err_goes (λ (r : Refusal). (document : Document) → FailsWith (SampleOutcome document c.args.net.now sample_tasks) r) c.from_residual-in_err-siphons.result _ c.from_residual-in_err-siphons.ensures.1
    (λ document. fails_so _ _ _ (many_siphons document c.args.net.now _ _ (rw c.default_budgets-budgets.ensures at c.in_ok-rows.ensures.listed) (rw c.default_budgets-budgets.ensures at c.in_ok-cycles.ensures.listed)) (rw c.default_budgets-budgets.ensures at c.in_err-siphons.ensures.refused))

pub returns-in_err-bounds-clause-refused : goal.returns-in_err-bounds-clause-refused
returns-in_err-bounds-clause-refused c =
    err_goes (λ (r : Refusal). (document : Document) → FailsWith (SampleOutcome document c.args.net.now sample_tasks) r) c.from_residual-in_err-bounds.result _ c.from_residual-in_err-bounds.ensures.1
    (λ document. fails_so _ _ _ (no_bounds document c.args.net.now _ _ _ (rw c.default_budgets-budgets.ensures at c.in_ok-rows.ensures.listed) (rw c.default_budgets-budgets.ensures at c.in_ok-cycles.ensures.listed) (rw c.default_budgets-budgets.ensures at c.in_ok-siphons.ensures.few) c.in_ok-siphons.ensures.list) c.in_err-bounds.ensures.refused)

pub returns-clause-told : goal.returns-clause-told
returns-clause-told c = λ document.
    let fits : SFits w128 c.greatest.result = search (rules, c.greatest.type_inv) in
    let has : HasGreatest c.in_ok-bounds.bounds (length c.in_ok-bounds.bounds) (to_z w128 (of_z w128 c.greatest.result)) =
    rw (to_z-of_z w128 c.greatest.result fits) c.greatest.ensures in
    numbers_told document c.args.net.now _ _ _ _ _ _ _ _ _ _ _ _ _ (rw c.default_budgets-budgets.ensures at c.in_ok-rows.ensures.listed) (rw c.default_budgets-budgets.ensures at c.in_ok-cycles.ensures.listed) (rw c.default_budgets-budgets.ensures at c.in_ok-siphons.ensures.few) c.in_ok-siphons.ensures.list
    c.in_ok-bounds.ensures.narrow c.in_ok-bounds.ensures.places c.in_ok-bounds.ensures.least c.in_ok-verdict.ensures.exact c.in_ok-verdict.ensures.first
    c.places.ensures.value c.transitions.ensures.value c.arcs.ensures.value c.len.ensures c.len-2.ensures c.len-3.ensures has c.is_yes.ensures
