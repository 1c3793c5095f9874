-- The text of the list, or the step that fails.
use Rattle.std.proofs.Common.{ap, sym, subst}
use Rattle.incidence.specs.Matrix.{Matrix}
use Rattle.net_values.specs.FlatNets.{net_of}
use Rattle.net_values.specs.Nodes.{place_id, transition_id}
use Rattle.semiflow_elim.specs.FirstFail.{IsExplained}
use Rattle.struct_core.specs.Answers.{FailsWith}
use Rattle.struct_core.specs.Enumerations.{FailedStep}
use Rattle.struct_core.proofs.SubOutcomes.{sub_told, sub_fails}
use Rattle.struct_core.proofs.subs.sub_report.Goals as goal

pub returns-in_ok-sub_text-in-Ok-clause-text : goal.returns-in_ok-sub_text-in-Ok-clause-text
returns-in_ok-sub_text-in-Ok-clause-text c =
    sub_told (net_of c.args.net.now) (place_id c.args.net.now) (transition_id c.args.net.now) c.args.budget c.in-Ok.ensures.cuts.0 _ _
    (record { passes = c.in-Ok.ensures.passes; is = c.in-Ok.ensures.cuts.1 }) c.in-Ok.ensures.list c.in_ok-sub_text-in-Ok.ensures

pub refusal_of-requires-clause-sized : goal.refusal_of-requires-clause-sized
refusal_of-requires-clause-sized c = ap (λ (m : Matrix). m.columns) c.in_ok-matrix-in-Err.ensures

pub refusal_of-requires-clause-fault : goal.refusal_of-requires-clause-fault
refusal_of-requires-clause-fault c = subst (λ (m : Matrix). IsExplained m c.args.budget c.in-Err.fault) (sym c.in_ok-matrix-in-Err.ensures) c.in-Err.ensures.fails

pub returns-in_ok-matrix-in-Err-clause-refused : goal.returns-in_ok-matrix-in-Err-clause-refused
returns-in_ok-matrix-in-Err-clause-refused c =
    sub_fails (net_of c.args.net.now) (place_id c.args.net.now) (transition_id c.args.net.now) c.args.budget c.refusal_of.result
    (subst (λ (m : Matrix). FailsWith (FailedStep m (transition_id c.args.net.now) c.args.budget) c.refusal_of.result) c.in_ok-matrix-in-Err.ensures c.refusal_of.ensures)
