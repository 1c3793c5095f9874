-- Every input has an outcome: it has a first fault or spells a document, which breaks a rule first or has a
-- flat net, and of that net the task has an outcome.
use Rattle.std.proofs.Common.{◌≡◌, ◌≤◌, ◌++◌, ◌⊎◌, ℕ, List, length, refl, inl, inr}
use Rattle.std.specs.Prelude.{Bool}
use Rattle.net_values.specs.declared.document.Document.{Document}
use Rattle.net_values.specs.declared.document.NetTree.{NetTree}
use Rattle.net_values.specs.Net.{Net}
use Rattle.net_values.specs.FlatNets.{NetLists, net_of}
use Rattle.incidence.specs.Matrix.{Matrix, incidence_of}
use Rattle.pnml_grammar.specs.Canon.{canon}
use Rattle.pnml_grammar.specs.Documents.{DocBytes}
use Rattle.pnml_grammar.specs.FirstFault.{Fault, FirstFault}
use Rattle.pnml_grammar.proofs.CanonLaws.{canon_is}
use Rattle.pnml_grammar.proofs.SomeAnswer.{some_answer}
use Rattle.page_flatten.specs.declared.fault.FlatFault.{FlatFault}
use Rattle.page_flatten.specs.Rules.{FirstBroken, BreaksNoRule}
use Rattle.page_flatten.specs.Flat.{Flat, IsNet, LacksNet}
use Rattle.page_flatten.specs.Laws.{HasFlatNet}
use Rattle.page_flatten.proofs.OneAnswer.{breaks_where_faulty}
use Rattle.page_flatten.proofs.SomeAnswer.{net_or_fault}
use Rattle.report.specs.Texts.{check_text, class_text, semiflows_text, sets_text, bounds_text}
use Rattle.struct_core.specs.declared.order.Task.{Task}
use Rattle.struct_core.specs.declared.order.Task.TheVariants as tasks
use Rattle.struct_core.specs.declared.order.Budgets.{Budgets}
use Rattle.struct_core.specs.declared.order.Order.TheVariants.{Run}
use Rattle.report.specs.FaultLines.{document_line, rule_line, no_net_line, limit_line, wide_bound_line}
use Rattle.struct_core.specs.Enumerations.{AreListed, SemiflowOutcome, all_semiflows, step_fails, SetOutcome, all_sets, passes_limit, set_limit}
use Rattle.struct_core.specs.Outcome.{TaskOutcome, Profile, Outcome, no_document, broken, no_net, answer}
use Rattle.struct_core.specs.Determined.{IsEliminationDecided, IsDecided, HasSomeTaskOutcome}
use Rattle.struct_core.specs.Laws.{CanonStays}
use Rattle.std.specs.Cmp.Lexicographic.{slice_cmp}
use Rattle.std.specs.Ordering.{bool_cmp}
use Rattle.net_values.specs.TheList.{IsTheList}
use Rattle.siphon_branch.specs.Limits.{AtMostOrMore}
use Rattle.siphon_branch.proofs.Limits.{few_or_many, lists_there}
use Rattle.bounds.specs.Listed.{AreNarrowRows, IsFirstWideRow}
use Rattle.bounds.proofs.Sums.{Generate}
use Rattle.struct_core.proofs.SomeBounds.{narrow_or_first_wide, all_kept, all_sized, all_least}
use Rattle.struct_core.proofs.SomeVerdict.{verdict_of}
use Rattle.struct_core.proofs.SomeLiveness.{some_liveness}
use Rattle.struct_core.proofs.FiringOutcomes.{some_replay_outcome}
use Rattle.struct_core.proofs.Resumptions.{some_resume_outcome}
use Rattle.struct_core.proofs.SubOutcomes.{some_sub_outcome}
use Rattle.struct_core.proofs.SomeFailure.{some_failure}
use Rattle.struct_core.proofs.SomeCertificate.{some_cert_bounds, some_cert_verdict, some_verify, few_places}
use Rattle.struct_core.specs.Determined.{IsSameText}
use Rattle.struct_core.specs.Inputs.{front_of, rest_of}
use Rattle.net_values.specs.declared.limits.TheConstants.{MAX_PLACES}
use Rattle.struct_core.proofs.OneOutcome.{one_outcome}
use Rattle.struct_core.proofs.SomeClass.{both, positive, ordinary_or_not, truth_of, tells_truth, some_class}
use Rattle.page_flatten.proofs.Decisions.{Decided}
use Rattle.net_class.specs.declared.verdict.Verdict.{Verdict}
use Rattle.net_class.specs.declared.verdict.Verdict.TheVariants.{Yes, No}
use Rattle.siphon_branch.specs.Limits.{HasAtMostGrown, IsGrownSet}
use Rattle.report.specs.VerdictTexts.{ProvesDeadlockFree, verdict_lines, deadlock_line}
use Rattle.struct_core.specs.Verdicts.{BoundOutcome, all_bounds, wide_bound, no_semiflows, IsVerdict, CommonerOutcome, verdict, no_siphons}

-- ---- of a net

some_semiflows : (m : Matrix) (ids columns : ℕ → List ℕ) (budget : ℕ) → IsEliminationDecided m budget
    → (status : ℕ) × (text : List ℕ) × SemiflowOutcome m ids columns budget status text
some_semiflows m ids columns budget (inl lists) = (0, semiflows_text ids lists.0, all_semiflows lists.0 lists.1)
some_semiflows m ids columns budget (inr fails) =
    let failure = some_failure m columns budget fails.0 fails.1 in (failure.0, failure.1, step_fails failure.0 failure.1 failure.2)

some_sets : (IsMinimal IsGrown : List Bool → Type 0) (word : List ℕ) (ids : ℕ → List ℕ) (limit : ℕ) → AtMostOrMore IsGrown limit
    → (list : List (List Bool)) × IsTheList (slice_cmp bool_cmp) IsMinimal list
    → (status : ℕ) × (text : List ℕ) × SetOutcome IsMinimal IsGrown word ids limit status text
some_sets IsMinimal IsGrown word ids limit (inl few) list = (0, sets_text word ids list.0, all_sets list.0 few list.1)
some_sets IsMinimal IsGrown word ids limit (inr many) list = (6, limit_line limit, passes_limit 6 (limit_line limit) (set_limit many.0 many.1))

some_bounds_of : (net : Net) (ids columns : ℕ → List ℕ) (budget : ℕ) (list : List (List ℕ)) → AreListed (incidence_of net) budget list → Generate net list
    → AreNarrowRows net list (length list) ⊎ ((row : ℕ) × IsFirstWideRow net list row)
    → (status : ℕ) × (text : List ℕ) × BoundOutcome net ids columns budget status text
some_bounds_of net ids columns budget list listed generates (inl narrow) =
    let bounds = all_kept net list in
    (0, bounds_text ids bounds, all_bounds list bounds listed narrow (all_sized net list) (all_least net list listed.is generates))
some_bounds_of net ids columns budget list listed generates (inr wide) = (4, wide_bound_line wide.0, wide_bound list wide.0 listed wide.1)

some_bounds : (net : Net) (ids columns : ℕ → List ℕ) (budget : ℕ) → IsEliminationDecided (incidence_of net) budget
    → (status : ℕ) × (text : List ℕ) × BoundOutcome net ids columns budget status text
some_bounds net ids columns budget (inl lists) = some_bounds_of net ids columns budget lists.0 lists.1 lists.2 (narrow_or_first_wide net lists.0)
some_bounds net ids columns budget (inr fails) =
    let failure = some_failure (incidence_of net) columns budget fails.0 fails.1 in (failure.0, failure.1, no_semiflows failure.0 failure.1 failure.2)

proves : (net : Net) (one : Verdict) → Decided (ProvesDeadlockFree net one)
proves net Yes = elim (both _ _ (ordinary_or_not net) (positive net.transitions)) [
  | inl h ↦ inl record { yes = refl; ordinary = h.0; some_transition = h.1 }
  | inr lacks ↦ inr (λ h. lacks (h.ordinary, h.some_transition))
]
proves net (No siphon) = inr (λ h. (let is = h.yes in cc))

-- a verdict has a text
pub verdict_text : (net : Net) (ids : ℕ → List ℕ) (limit : ℕ) → HasAtMostGrown net limit → (one : Verdict) → IsVerdict net one
    → (text : List ℕ) × CommonerOutcome net ids limit 0 text
verdict_text net ids limit few one is =
    let text : List ℕ = verdict_lines ids one ++ deadlock_line (truth_of (proves net one)) in
    (text, verdict one text few is record { is_proved = truth_of (proves net one); exact = tells_truth (proves net one); spelled = refl })

some_verdict : (net : Net) (ids : ℕ → List ℕ) (limit : ℕ) → AtMostOrMore (IsGrownSet net) limit → (one : Verdict) → IsVerdict net one
    → (status : ℕ) × (text : List ℕ) × CommonerOutcome net ids limit status text
some_verdict net ids limit (inl few) one is = let told = verdict_text net ids limit few one is in (0, told.0, told.1)
some_verdict net ids limit (inr many) one is = (6, limit_line limit, no_siphons 6 (limit_line limit) (set_limit many.0 many.1))

pub some_task_outcome : (task : Task) (budgets : Budgets) (document : Document) (net : NetLists) (rest : List ℕ) → (net_of net).places ≤ MAX_PLACES
    → IsDecided task budgets net → (status : ℕ) × (text : List ℕ) × TaskOutcome task budgets document net rest status text
some_task_outcome tasks.Check budgets document net rest limit decided = (0, check_text (net_of net).places (net_of net).transitions net.arcs, (refl, refl))
some_task_outcome tasks.Canon budgets document net rest limit decided = (0, canon document, (refl, refl))
some_task_outcome tasks.Class budgets document net rest limit decided =
    let class = some_class (net_of net) in (0, class_text class.0, (refl, class.0, class.1, refl))
some_task_outcome tasks.Places budgets document net rest limit decided = some_semiflows _ _ _ _ decided
some_task_outcome tasks.Transitions budgets document net rest limit decided = some_semiflows _ _ _ _ decided
some_task_outcome tasks.Siphons budgets document net rest limit decided =
    some_sets _ _ _ _ _ (few_or_many (net_of net) budgets.sets).siphons (lists_there (net_of net)).siphons
some_task_outcome tasks.Traps budgets document net rest limit decided =
    some_sets _ _ _ _ _ (few_or_many (net_of net) budgets.sets).traps (lists_there (net_of net)).traps
some_task_outcome tasks.Bounds budgets document net rest limit decided = some_bounds _ _ _ _ decided
some_task_outcome tasks.Commoner budgets document net rest limit decided =
    let is = verdict_of (net_of net) in some_verdict _ _ _ (few_or_many (net_of net) budgets.sets).siphons is.0 is.1
some_task_outcome tasks.CertBounds budgets document net rest limit decided = some_cert_bounds _ _ _ _ _ decided
some_task_outcome tasks.CertCommoner budgets document net rest limit decided =
    some_cert_verdict _ _ _ limit (few_or_many (net_of net) budgets.sets).siphons (verdict_of (net_of net))
some_task_outcome tasks.Verify budgets document net rest limit decided = some_verify (net_of net) rest
some_task_outcome tasks.Live budgets document net rest limit decided = some_liveness _ _ _ (few_or_many (net_of net) budgets.sets).siphons (verdict_of (net_of net))
some_task_outcome tasks.Sub budgets document net rest limit decided = some_sub_outcome _ _ _ _ decided
some_task_outcome tasks.Resume budgets document net rest limit decided = some_resume_outcome document _ _ _ rest limit
some_task_outcome tasks.Replay budgets document net rest limit decided = some_replay_outcome _ _ _ rest

-- ---- of an input

module _ (task : Task) (k : ℕ) (budgets : Budgets) (input : List ℕ)
    (decide : (document : Document) (net : NetLists) → Profile (front_of task input) document → Flat document k net → IsDecided task budgets net) where
  abbrev Answered : Type 0
  Answered = (status : ℕ) × (text : List ℕ) × Outcome (Run task k budgets) input status text

  of_net : (document : Document) → DocBytes document (front_of task input) → BreaksNoRule document → ((net : NetLists) × Flat document k net) ⊎ LacksNet document k → Answered
  of_net document spelled rules (inl flat) =
      let profile : Profile (front_of task input) document = record { spelled = spelled; rules = rules } in
      let outcome = some_task_outcome task budgets document flat.0 (rest_of task input) (few_places document k flat.0 spelled flat.1)
      (decide document flat.0 profile flat.1) in
      (outcome.0, outcome.1, answer task k budgets input document flat.0 outcome.0 outcome.1 profile flat.1 outcome.2)
  of_net document spelled rules (inr lacks) =
      (3, no_net_line k, no_net task k budgets input document (record { spelled = spelled; rules = rules }) lacks)

  of_document : (document : Document) → DocBytes document (front_of task input) → HasFlatNet document k ⊎ ((fault : FlatFault) × FirstBroken document fault) → Answered
  of_document document spelled (inl has) = of_net document spelled has.0 has.1
  of_document document spelled (inr broken_first) =
      (3, rule_line k broken_first.0, broken task k budgets input document broken_first.0 spelled broken_first.1)

  of_input : ((document : Document) × DocBytes document (front_of task input)) ⊎ ((fault : Fault) × FirstFault (front_of task input) fault) → Answered
  of_input (inl spelled) = of_document spelled.0 spelled.1 (net_or_fault spelled.0 k)
  of_input (inr fault) = (3, document_line fault.0, no_document task k budgets input fault.0 fault.1)

pub some_of_task : HasSomeTaskOutcome
some_of_task task k budgets input decide = of_input task k budgets input decide (some_answer (front_of task input))

-- ---- canonical texts

canon_of_net : (k : ℕ) (budgets : Budgets) (document : Document) (tree : NetTree) → DocBytes document (canon document) → BreaksNoRule document → IsNet document k tree
    → ((net : NetLists) × Flat document k net) ⊎ LacksNet document k → Outcome (Run tasks.Canon k budgets) (canon document) 0 (canon document)
canon_of_net k budgets document tree spelled rules chosen (inl flat) =
    answer tasks.Canon k budgets (canon document) document flat.0 0 (canon document) (record { spelled = spelled; rules = rules }) flat.1 (refl, refl)
canon_of_net k budgets document tree spelled rules chosen (inr lacks) = absurd (lacks tree chosen)

canon_answered : (k : ℕ) (budgets : Budgets) (document : Document) (tree : NetTree) → DocBytes document (canon document) → BreaksNoRule document → IsNet document k tree
    → HasFlatNet document k ⊎ ((fault : FlatFault) × FirstBroken document fault) → Outcome (Run tasks.Canon k budgets) (canon document) 0 (canon document)
canon_answered k budgets document tree spelled rules chosen (inl has) = canon_of_net k budgets document tree spelled rules chosen has.1
canon_answered k budgets document tree spelled rules chosen (inr fault) = absurd (breaks_where_faulty document fault.0 fault.1 rules)

-- for `canon` no text has a tree
no_tree : {k : ℕ} {budgets : Budgets} {status other : ℕ} {text line : List ℕ} → (status ≡ other) × IsSameText (Run tasks.Canon k budgets) text line
    → (status ≡ other) × (text ≡ line)
no_tree (same, inl text) = (same, text)
no_tree (same, inr (inl tree)) = (let is = tree.0.2 in absurd (cc))
no_tree (same, inr (inr run)) = (let is = run.0.2 in absurd (cc))

pub canon_stays : CanonStays
canon_stays k budgets document tree valued rules chosen =
    let is = canon_answered k budgets document tree (canon_is document valued) rules chosen (net_or_fault document k) in
    (is, λ status text other. no_tree (one_outcome (Run tasks.Canon k budgets) (canon document) status 0 text (canon document) other is))
