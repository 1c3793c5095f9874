-- For an order and an input there is at most one outcome: bytes spell one document or have one fault, the
-- document breaks one rule first or has one flat net, and what is said of each list determines it.
use Rattle.std.proofs.Common.{◌≡◌, ◌≢◌, ◌⊎◌, ℕ, List, [], refl, sym, ap, subst, ◌∙◌, inl, inr}
use Rattle.std.specs.Prelude.{Bool}
use Rattle.std.specs.List.{AllByRecursion}
use Rattle.net_values.specs.declared.document.Document.{Document}
use Rattle.net_values.specs.FlatNets.{NetLists, net_of}
use Rattle.net_values.specs.Net.{Net}
use Rattle.net_class.specs.declared.membership.Class.{Class}
use Rattle.pnml_grammar.specs.Documents.{DocBytes}
use Rattle.pnml_grammar.specs.FirstFault.{Fault, FirstFault}
use Rattle.pnml_grammar.proofs.DocumentLaws.{spells_one}
use Rattle.pnml_grammar.proofs.OneFault.{one_answer}
use Rattle.page_flatten.specs.declared.fault.FlatFault.{FlatFault}
use Rattle.page_flatten.specs.Rules.{BreaksNoRule, FirstBroken}
use Rattle.page_flatten.proofs.OneAnswer.{breaks_where_faulty, one_fault}
use Rattle.report.specs.Texts.{class_text}
use Rattle.report.specs.declared.summary.Summary.{Summary}
use Rattle.report.specs.SummaryText.{summary_text}
use Rattle.struct_core.specs.declared.order.Task.{Task}
use Rattle.struct_core.specs.declared.order.Task.TheVariants as tasks
use Rattle.struct_core.specs.declared.order.Budgets.{Budgets}
use Rattle.struct_core.specs.declared.order.Order.{Order}
use Rattle.struct_core.specs.declared.order.Order.TheVariants.{Run, Sample}
use Rattle.report.specs.FaultLines.{document_line, rule_line, no_net_line}
use Rattle.struct_core.specs.Outcome.{HasClass, Profile, TaskOutcome, Outcome, no_document, broken, no_net, answer, sample, sample_tasks, SampleOutcome, refused, goes_on, summary}
use Rattle.struct_core.specs.Determined.{DifferInRun, DifferInTree, IsSameText, HasOneOutcome}
use Rattle.struct_core.specs.Inputs.{front_of, rest_of}
use Rattle.page_flatten.specs.Flat.{Flat, IsNet, LacksNet}
use Rattle.struct_core.specs.Words.{default_budgets, IsInRange}
use Rattle.struct_core.specs.Sample.{sample_document}
use Rattle.struct_core.proofs.OneSummary.{one_summary}
use Rattle.struct_core.proofs.Truths.{same_answer}
use Rattle.struct_core.proofs.TaskAnswers.{task_answers, sample_answers}
use Rattle.struct_core.proofs.OneListing.{one_semiflow_outcome, one_set_outcome}
use Rattle.struct_core.proofs.OneVerdict.{one_bound_outcome, one_commoner_outcome}
use Rattle.struct_core.proofs.OneLiveness.{one_live_outcome}
use Rattle.struct_core.proofs.FiringOutcomes.{one_replay_outcome}
use Rattle.struct_core.proofs.Resumptions.{one_resume_outcome}
use Rattle.struct_core.proofs.SubOutcomes.{one_sub_outcome}
use Rattle.struct_core.proofs.OneCertificate.{one_cert_bound_outcome, one_cert_verdict_outcome, one_verify_outcome}
use Rattle.siphon_branch.proofs.Limits.{few_not_many}

-- ---- a class

abbrev class_by : Bool → Bool → Bool → Bool → Class
class_by ordinary state_machine marked_graph free_choice = record {
  ordinary = ordinary;
  state_machine = state_machine;
  marked_graph = marked_graph;
  free_choice = free_choice;
}

pub one_class : (net : Net) (one other : Class) → HasClass net one → HasClass net other → one ≡ other
one_class net one other is also =
    ap (λ (b : Bool). class_by b one.state_machine one.marked_graph one.free_choice) (same_answer one.ordinary other.ordinary _ is.ordinary also.ordinary)
    ∙ ap (λ (b : Bool). class_by other.ordinary b one.marked_graph one.free_choice) (same_answer one.state_machine other.state_machine _ is.state_machine also.state_machine)
    ∙ ap (λ (b : Bool). class_by other.ordinary other.state_machine b one.free_choice) (same_answer one.marked_graph other.marked_graph _ is.marked_graph also.marked_graph)
    ∙ ap (λ (b : Bool). class_by other.ordinary other.state_machine other.marked_graph b) (same_answer one.free_choice other.free_choice _ is.free_choice also.free_choice)

-- ---- a task

-- the same text, whatever the order
exactly : {order : Order} {status other : ℕ} {text line : List ℕ} → (status ≡ other) × (text ≡ line) → (status ≡ other) × IsSameText order text line
exactly same = (same.0, inl same.1)

-- or another tree
but_for_a_tree : {k : ℕ} {budgets : Budgets} {status other : ℕ} {text line : List ℕ} → (status ≡ other) × ((text ≡ line) ⊎ DifferInTree text line)
    → (status ≡ other) × IsSameText (Run tasks.CertCommoner k budgets) text line
but_for_a_tree {k} {budgets} (same, inl text) = (same, inl text)
but_for_a_tree {k} {budgets} (same, inr tree) = (same, inr (inl ((k, budgets, refl), tree)))

-- or another run
but_for_a_run : {k : ℕ} {budgets : Budgets} {status other : ℕ} {text line : List ℕ} → (status ≡ other) × ((text ≡ line) ⊎ DifferInRun text line)
    → (status ≡ other) × IsSameText (Run tasks.Resume k budgets) text line
but_for_a_run {k} {budgets} (same, inl text) = (same, inl text)
but_for_a_run {k} {budgets} (same, inr run) = (same, inr (inr ((k, budgets, refl), run)))

one_task_outcome : (task : Task) (k : ℕ) (budgets : Budgets) (document : Document) (net : NetLists) (rest : List ℕ) (status other : ℕ) (text line : List ℕ)
    → TaskOutcome task budgets document net rest status text → TaskOutcome task budgets document net rest other line
    → (status ≡ other) × IsSameText (Run task k budgets) text line
one_task_outcome tasks.Check k budgets document net rest status other text line one another = exactly (one.0 ∙ sym another.0, one.1 ∙ sym another.1)
one_task_outcome tasks.Canon k budgets document net rest status other text line one another = exactly (one.0 ∙ sym another.0, one.1 ∙ sym another.1)
one_task_outcome tasks.Class k budgets document net rest status other text line one another = exactly (
  one.0 ∙ sym another.0,
  one.3 ∙ ap class_text (one_class (net_of net) one.1 another.1 one.2 another.2) ∙ sym another.3,
)
one_task_outcome tasks.Places k budgets document net rest status other text line one another = exactly (one_semiflow_outcome _ _ _ _ status other text line one another)
one_task_outcome tasks.Transitions k budgets document net rest status other text line one another = exactly (one_semiflow_outcome _ _ _ _ status other text line one another)
one_task_outcome tasks.Siphons k budgets document net rest status other text line one another =
    exactly (one_set_outcome _ _ _ _ budgets.sets status other text line (λ carried. (few_not_many (net_of net) budgets.sets carried).siphons) one another)
one_task_outcome tasks.Traps k budgets document net rest status other text line one another =
    exactly (one_set_outcome _ _ _ _ budgets.sets status other text line (λ carried. (few_not_many (net_of net) budgets.sets carried).traps) one another)
one_task_outcome tasks.Bounds k budgets document net rest status other text line one another = exactly (one_bound_outcome _ _ _ _ status other text line one another)
one_task_outcome tasks.Commoner k budgets document net rest status other text line one another = exactly (one_commoner_outcome _ _ _ status other text line one another)
one_task_outcome tasks.CertBounds k budgets document net rest status other text line one another =
    exactly (one_cert_bound_outcome _ _ _ _ _ status other text line one another)
one_task_outcome tasks.CertCommoner k budgets document net rest status other text line one another =
    but_for_a_tree (one_cert_verdict_outcome _ document _ status other text line one another)
one_task_outcome tasks.Verify k budgets document net rest status other text line one another =
    exactly (one_verify_outcome _ rest status other text line one another)
one_task_outcome tasks.Live k budgets document net rest status other text line one another = exactly (one_live_outcome _ _ _ status other text line one another)
one_task_outcome tasks.Sub k budgets document net rest status other text line one another = exactly (one_sub_outcome _ _ _ _ status other text line one another)
one_task_outcome tasks.Resume k budgets document net rest status other text line one another =
    but_for_a_run (one_resume_outcome document _ _ _ rest status other text line one another)
one_task_outcome tasks.Replay k budgets document net rest status other text line one another =
    exactly (one_replay_outcome _ _ _ rest status other text line one another)

-- ---- a sample

-- a task that makes no tree and no run has one text
not_a_tree : (task : Task) → (task ≢ tasks.CertCommoner) × (task ≢ tasks.Resume) → {text line : List ℕ} → IsSameText (Run task 1 default_budgets) text line → text ≡ line
not_a_tree task plain (inl same) = same
not_a_tree task plain (inr (inl tree)) = (let is = tree.0.2 in absurd (plain.0 (cc)))
not_a_tree task plain (inr (inr run)) = (let is = run.0.2 in absurd (plain.1 (cc)))

abbrev MakeNoTree : List Task → Type 0
MakeNoTree later = AllByRecursion (λ task. (task ≢ tasks.CertCommoner) × (task ≢ tasks.Resume)) later

one_sample : (document : Document) (net : NetLists) (later : List Task) (status other : ℕ) (text line : List ℕ) → MakeNoTree later
    → SampleOutcome document net later status text → SampleOutcome document net later other line → (status ≡ other) × (text ≡ line)
one_sample document net _ _ _ _ _ plain (refused task later status line fails outcome) (refused _ _ other text fail another) =
    let same = one_task_outcome task 1 default_budgets document net [] status other line text outcome another in
    (same.0, not_a_tree task plain.0 same.1)
one_sample document net _ _ _ _ _ plain (refused task later status line fails outcome) (goes_on _ _ report other text another rest) =
    absurd (fails (one_task_outcome task 1 default_budgets document net [] status 0 line report outcome another).0)
one_sample document net _ _ _ _ _ plain (goes_on task later report status text outcome rest) (refused _ _ other line fails another) =
    absurd (fails (one_task_outcome task 1 default_budgets document net [] other 0 line report another outcome).0)
one_sample document net _ _ _ _ _ plain (goes_on task later report status text outcome rest) (goes_on _ _ another other line also more) =
    one_sample document net later status other text line plain.1 rest more
one_sample document net _ _ _ _ _ plain (summary numbers is) (summary others also) =
    (refl, ap (λ (n : Summary). summary_text n) (one_summary (net_of net) net.arcs numbers others is also))

sample_makes_none : MakeNoTree sample_tasks
sample_makes_none = (
  (λ is. cc, λ is. cc),
  ((λ is. cc, λ is. cc), ((λ is. cc, λ is. cc), ((λ is. cc, λ is. cc), ((λ is. cc, λ is. cc), tt)))),
)

-- ---- an order

no_other : (task : Task) (k : ℕ) (budgets : Budgets) (bytes : List ℕ) (fault : Fault) (status : ℕ) (text : List ℕ) → FirstFault (front_of task bytes) fault
    → Outcome (Run task k budgets) bytes status text → (status ≡ 3) × (text ≡ document_line fault)
no_other _ _ _ _ fault _ _ is (no_document task k budgets bytes other first) =
    (refl, sym (ap document_line ((one_answer (front_of task bytes) fault is).0 other first)))
no_other _ _ _ _ fault _ _ is (broken task k budgets bytes document other spelled first) = absurd ((one_answer (front_of task bytes) fault is).1 document spelled)
no_other _ _ _ _ fault _ _ is (no_net task k budgets bytes document profile lacks) = absurd ((one_answer (front_of task bytes) fault is).1 document profile.spelled)
no_other _ _ _ _ fault _ _ is (answer task k budgets bytes document net status text profile flat outcome) =
    absurd ((one_answer (front_of task bytes) fault is).1 document profile.spelled)

broken_only : (task : Task) (k : ℕ) (budgets : Budgets) (bytes : List ℕ) (document : Document) (fault : FlatFault) (status : ℕ) (text : List ℕ)
    → DocBytes document (front_of task bytes) → FirstBroken document fault → Outcome (Run task k budgets) bytes status text → (status ≡ 3) × (text ≡ rule_line k fault)
broken_only _ _ _ _ document fault _ _ spelled is (no_document task k budgets bytes other first) = absurd ((one_answer (front_of task bytes) other first).1 document spelled)
broken_only _ _ _ _ document fault _ _ spelled is (broken task k budgets bytes another other also first) =
    (refl, ap (rule_line k) (one_fault document other fault (subst (λ d. FirstBroken d other) (spells_one (front_of task bytes) another document also spelled) first) is))
broken_only _ _ _ _ document fault _ _ spelled is (no_net task k budgets bytes another profile lacks) =
    absurd (breaks_where_faulty document fault is (subst BreaksNoRule (spells_one (front_of task bytes) another document profile.spelled spelled) profile.rules))
broken_only _ _ _ _ document fault _ _ spelled is (answer task k budgets bytes another net status text profile flat outcome) =
    absurd (breaks_where_faulty document fault is (subst BreaksNoRule (spells_one (front_of task bytes) another document profile.spelled spelled) profile.rules))

absent_only : (task : Task) (k : ℕ) (budgets : Budgets) (bytes : List ℕ) (document : Document) (status : ℕ) (text : List ℕ)
    → Profile (front_of task bytes) document → LacksNet document k → Outcome (Run task k budgets) bytes status text → (status ≡ 3) × (text ≡ no_net_line k)
absent_only _ _ _ _ document _ _ profile lacks (no_document task k budgets bytes other first) = absurd ((one_answer (front_of task bytes) other first).1 document profile.spelled)
absent_only _ _ _ _ document _ _ profile lacks (broken task k budgets bytes another other also first) =
    absurd (breaks_where_faulty another other first (subst BreaksNoRule (spells_one (front_of task bytes) document another profile.spelled also) profile.rules))
absent_only _ _ _ _ document _ _ profile lacks (no_net task k budgets bytes another kept also) = (refl, refl)
absent_only _ _ _ _ document _ _ profile lacks (answer task k budgets bytes another net status text kept flat outcome) =
    absurd (lacks flat.tree (subst (λ (d : Document). IsNet d k flat.tree) (spells_one (front_of task bytes) another document kept.spelled profile.spelled) flat.chosen))

one_sample_outcome : (n : ℕ) (bytes : List ℕ) (net : NetLists) (status other : ℕ) (text line : List ℕ) → IsInRange (Sample n) → Flat (sample_document n) 1 net
    → SampleOutcome (sample_document n) net sample_tasks status text → Outcome (Sample n) bytes other line → (status ≡ other) × (text ≡ line)
one_sample_outcome n bytes net status other text line range flat outcome another =
    one_sample (sample_document n) net sample_tasks status other text line sample_makes_none outcome (sample_answers n bytes net other line range flat another)

pub one_outcome : HasOneOutcome
one_outcome _ _ _ other _ line (no_document task k budgets bytes fault first) another =
    let same : (other ≡ 3) × (line ≡ document_line fault) = no_other task k budgets bytes fault other line first another in
    exactly (sym same.0, sym same.1)
one_outcome _ _ _ other _ line (broken task k budgets bytes document fault spelled first) another =
    let same : (other ≡ 3) × (line ≡ rule_line k fault) = broken_only task k budgets bytes document fault other line spelled first another in
    exactly (sym same.0, sym same.1)
one_outcome _ _ _ other _ line (no_net task k budgets bytes document profile lacks) another =
    let same : (other ≡ 3) × (line ≡ no_net_line k) = absent_only task k budgets bytes document other line profile lacks another in
    exactly (sym same.0, sym same.1)
one_outcome _ _ _ other _ line (answer task k budgets bytes document net status text profile flat outcome) another =
    one_task_outcome task k budgets document net (rest_of task bytes) status other text line outcome
    (task_answers task k budgets bytes document net other line profile flat another)
one_outcome _ _ _ other _ line (sample n bytes net status text range flat outcome) another =
    exactly (one_sample_outcome n bytes net status other text line range flat outcome another)
