-- An input whose document is in the profile has the outcome of its task: its bytes spell one document, which breaks no rule, and flat
-- nets of one document are one net.
use Rattle.std.proofs.Common.{◌≡◌, ℕ, List, [], ap, subst, ◌∙◌}
use Rattle.std.specs.Prelude.{codes}
use Rattle.net_values.specs.declared.document.Document.{Document}
use Rattle.net_values.specs.FlatNets.{NetLists, net_of}
use Rattle.net_values.specs.Net.{Net}
use Rattle.closed_sets.specs.MinimalSets.{IsMinimalSet, IsMinimalTrapSet}
use Rattle.siphon_branch.specs.Limits.{IsGrownSet, IsGrownTrapSet}
use Rattle.incidence.specs.Matrix.{incidence_of, transposed}
use Rattle.pnml_grammar.proofs.DocumentLaws.{spells_one}
use Rattle.pnml_grammar.proofs.OneFault.{one_answer}
use Rattle.page_flatten.specs.Rules.{BreaksNoRule}
use Rattle.page_flatten.specs.Flat.{Flat, IsNet}
use Rattle.page_flatten.specs.Laws.{IsSameNet}
use Rattle.page_flatten.proofs.OneAnswer.{breaks_where_faulty, one_flat}
use Rattle.net_values.specs.Nodes.{place_id, transition_id}
use Rattle.report.specs.Texts.{check_text}
use Rattle.struct_core.specs.declared.order.Task.{Task}
use Rattle.struct_core.specs.declared.order.Task.TheVariants as tasks
use Rattle.struct_core.specs.declared.order.Budgets.{Budgets}
use Rattle.struct_core.specs.declared.order.Order.TheVariants.{Run, Sample}
use Rattle.struct_core.specs.Enumerations.{SemiflowOutcome, SetOutcome}
use Rattle.struct_core.specs.Verdicts.{BoundOutcome, CommonerOutcome, LiveOutcome}
use Rattle.struct_core.specs.Certificates.{CertBoundOutcome, CertVerdictOutcome, VerifyOutcome}
use Rattle.struct_core.specs.Resuming.{ResumeOutcome}
use Rattle.struct_core.specs.FiringLists.{ReplayOutcome}
use Rattle.struct_core.specs.SubSemiflows.{SubOutcome}
use Rattle.struct_core.specs.Inputs.{front_of, rest_of}
use Rattle.pnml_grammar.specs.Canon.{canon}
use Rattle.struct_core.specs.Outcome.{HasClass, TaskOutcome, Profile, Outcome, no_document, broken, no_net, answer, sample, sample_tasks, SampleOutcome, refused, goes_on, summary}
use Rattle.struct_core.specs.Words.{default_budgets, IsInRange}
use Rattle.struct_core.specs.Sample.{sample_document}
use Rattle.struct_core.specs.Summaries.{IsSummary}
use Rattle.struct_core.proofs.SampleValued.{sample_profile}
use Rattle.struct_core.proofs.SameNets.{same_net, same_place_ids, same_transition_ids}

-- the same of the same net in other lists
check_as : (one other : NetLists) → IsSameNet one other
    → check_text (net_of one).places (net_of one).transitions one.arcs ≡ check_text (net_of other).places (net_of other).transitions other.arcs
check_as one other same =
    ap (λ (net : Net). check_text net.places net.transitions one.arcs) (same_net one other same)
    ∙ ap (λ (arcs : ℕ). check_text (net_of other).places (net_of other).transitions arcs) same.count

-- the net with the ids of its places and transitions
abbrev Named : Type 0
Named = Net × (ℕ → List ℕ) × (ℕ → List ℕ)

same_named : (one other : NetLists) → IsSameNet one other
    → ◌≡◌ {A = Named} (net_of one, place_id one, transition_id one) (net_of other, place_id other, transition_id other)
same_named one other same =
    ap {B = Named} (λ (net : Net). (net, place_id one, transition_id one)) (same_net one other same)
    ∙ ap {B = Named} (λ (ids : ℕ → List ℕ). (net_of other, ids, transition_id one)) (same_place_ids one other same)
    ∙ ap {B = Named} (λ (ids : ℕ → List ℕ). (net_of other, place_id other, ids)) (same_transition_ids one other same)

outcome_as : (task : Task) (budgets : Budgets) (document : Document) (one other : NetLists) (rest : List ℕ) (status : ℕ) (text : List ℕ) → IsSameNet one other
    → TaskOutcome task budgets document one rest status text → TaskOutcome task budgets document other rest status text
outcome_as tasks.Check budgets document one other rest status text same is = (is.0, is.1 ∙ check_as one other same)
outcome_as tasks.Canon budgets document one other rest status text same is = is
outcome_as tasks.Class budgets document one other rest status text same is =
    (is.0, is.1, subst (λ net. HasClass net is.1) (same_net one other same) is.2, is.3)
outcome_as tasks.Places budgets document one other rest status text same is =
    subst (λ (n : Named). SemiflowOutcome (incidence_of n.0) n.1 n.2 budgets.rows status text) (same_named one other same) is
outcome_as tasks.Transitions budgets document one other rest status text same is =
    subst (λ (n : Named). SemiflowOutcome (transposed (incidence_of n.0)) n.2 n.1 budgets.rows status text) (same_named one other same) is
outcome_as tasks.Siphons budgets document one other rest status text same is =
    subst (λ (n : Named). SetOutcome (IsMinimalSet n.0) (IsGrownSet n.0) (codes "siphons") n.1 budgets.sets status text) (same_named one other same) is
outcome_as tasks.Traps budgets document one other rest status text same is =
    subst (λ (n : Named). SetOutcome (IsMinimalTrapSet n.0) (IsGrownTrapSet n.0) (codes "traps") n.1 budgets.sets status text) (same_named one other same) is
outcome_as tasks.Bounds budgets document one other rest status text same is =
    subst (λ (n : Named). BoundOutcome n.0 n.1 n.2 budgets.rows status text) (same_named one other same) is
outcome_as tasks.Commoner budgets document one other rest status text same is =
    subst (λ (n : Named). CommonerOutcome n.0 n.1 budgets.sets status text) (same_named one other same) is
outcome_as tasks.CertBounds budgets document one other rest status text same is =
    subst (λ (n : Named). CertBoundOutcome n.0 (canon document) n.1 n.2 budgets.rows status text) (same_named one other same) is
outcome_as tasks.CertCommoner budgets document one other rest status text same is =
    subst (λ (net : Net). CertVerdictOutcome net (canon document) budgets.sets status text) (same_net one other same) is
outcome_as tasks.Verify budgets document one other rest status text same is =
    subst (λ (net : Net). VerifyOutcome net rest status text) (same_net one other same) is
outcome_as tasks.Live budgets document one other rest status text same is =
    subst (λ (n : Named). LiveOutcome n.0 n.1 budgets.sets status text) (same_named one other same) is
outcome_as tasks.Sub budgets document one other rest status text same is =
    subst (λ (n : Named). SubOutcome n.0 n.1 n.2 budgets.rows status text) (same_named one other same) is
outcome_as tasks.Resume budgets document one other rest status text same is =
    subst (λ (n : Named). ResumeOutcome document n.0 n.1 budgets.sets rest status text) (same_named one other same) is
outcome_as tasks.Replay budgets document one other rest status text same is =
    subst (λ (n : Named). ReplayOutcome n.0 n.1 n.2 rest status text) (same_named one other same) is

-- ---- an order

-- of a document in the profile the outcome is that of the task
pub task_answers : (task : Task) (k : ℕ) (budgets : Budgets) (bytes : List ℕ) (document : Document) (net : NetLists) (status : ℕ) (text : List ℕ)
    → Profile (front_of task bytes) document → Flat document k net → Outcome (Run task k budgets) bytes status text
    → TaskOutcome task budgets document net (rest_of task bytes) status text
task_answers _ _ _ _ document net _ _ profile flat (no_document task k budgets bytes fault first) =
    absurd ((one_answer (front_of task bytes) fault first).1 document profile.spelled)
task_answers _ _ _ _ document net _ _ profile flat (broken task k budgets bytes other fault spelled first) =
    absurd (breaks_where_faulty other fault first (subst BreaksNoRule (spells_one (front_of task bytes) document other profile.spelled spelled) profile.rules))
task_answers _ _ _ _ document net _ _ profile flat (no_net task k budgets bytes other kept lacks) =
    absurd (lacks flat.tree (subst (λ (d : Document). IsNet d k flat.tree) (spells_one (front_of task bytes) document other profile.spelled kept.spelled) flat.chosen))
task_answers _ _ _ _ document net _ _ profile flat (answer task k budgets bytes other lists status text kept is outcome) =
    let same : other ≡ document = spells_one (front_of task bytes) other document kept.spelled profile.spelled in
    outcome_as task budgets document lists net (rest_of task bytes) status text (one_flat document k lists net profile.rules (subst (λ d. Flat d k lists) same is) flat)
    (subst (λ d. TaskOutcome task budgets d lists (rest_of task bytes) status text) same outcome)

-- ---- a sample

sample_as : (document : Document) (one other : NetLists) (later : List Task) (status : ℕ) (text : List ℕ) → IsSameNet one other
    → SampleOutcome document one later status text → SampleOutcome document other later status text
sample_as document one other _ _ _ same (refused task later status line fails outcome) =
    refused task later status line fails (outcome_as task default_budgets document one other [] status line same outcome)
sample_as document one other _ _ _ same (goes_on task later report status text outcome rest) =
    goes_on task later report status text (outcome_as task default_budgets document one other [] 0 report same outcome) (sample_as document one other later status text same rest)
sample_as document one other _ _ _ same (summary numbers is) =
    summary numbers (subst (λ (n : ℕ). IsSummary (net_of other) n numbers) same.count (subst (λ (net : Net). IsSummary net one.arcs numbers) (same_net one other same) is))

-- of each flat net of the sample the outcome is the same
pub sample_answers : (n : ℕ) (bytes : List ℕ) (net : NetLists) (status : ℕ) (text : List ℕ) → IsInRange (Sample n) → Flat (sample_document n) 1 net
    → Outcome (Sample n) bytes status text → SampleOutcome (sample_document n) net sample_tasks status text
sample_answers _ _ net _ _ range flat (sample n bytes lists status text also is outcome) =
    sample_as (sample_document n) lists net sample_tasks status text
    (one_flat (sample_document n) 1 lists net (sample_profile n range.1).rules is flat) outcome
