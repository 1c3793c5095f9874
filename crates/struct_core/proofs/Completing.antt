-- A run without faults, on a document whose tasks stay within their limits, can only end with its text or
-- out of memory: each other status has a cause that is excluded.
use Rattle.std.proofs.Common.{◌≡◌, ◌≢◌, ◌⊎◌, ℕ, ◌+◌, ◌≤◌, List, [], ◌++◌, Option, Some, None, length, refl, sym, ap, subst, ◌∙◌, arith, inl, inr, length-append}
use Rattle.std.proofs.lemmas.List.{append-nil}
use Rattle.std.proofs.lemmas.Bool.{cases_eq}
use Rattle.std.specs.Io.KnownBytes.{Consumes, IsAtEnd}
use Rattle.net_values.specs.declared.document.Document.{Document}
use Rattle.net_values.specs.declared.limits.TheConstants.{MAX_INPUT_BYTES}
use Rattle.net_values.specs.Net.{Net}
use Rattle.net_values.specs.FlatNets.{NetLists, net_of}
use Rattle.incidence.specs.Matrix.{Matrix}
use Rattle.pnml_source.specs.Causes.{Rose}
use Rattle.pnml_source.specs.Streams.{TakesExactly}
use Rattle.page_flatten.specs.Flat.{Flat}
use Rattle.semiflow_elim.specs.declared.fault.ElimFault.TheVariants as faults
use Rattle.siphon_branch.specs.Limits.{CarriesMore, HasAtMostGrown, IsGrownSet}
use Rattle.incidence.specs.Matrix.{incidence_of}
use Rattle.struct_core.specs.Verdicts.{BoundOutcome, all_bounds, wide_bound, no_semiflows, CommonerOutcome, verdict, no_siphons, LiveOutcome, liveness, too_many_siphons}
use Rattle.free_choice_live.specs.Answers.{IsAsked}
use Rattle.std.specs.Prelude.{Bool}
use Rattle.struct_core.specs.declared.order.Task.{Task}
use Rattle.struct_core.specs.declared.order.Task.TheVariants as tasks
use Rattle.struct_core.specs.declared.order.Budgets.{Budgets}
use Rattle.struct_core.specs.declared.order.Order.{Order}
use Rattle.struct_core.specs.declared.order.Order.TheVariants.{Run, Sample}
use Rattle.std.specs.List.{AllByRecursion}
use Rattle.struct_core.specs.Words.{Means, default_budgets}
use Rattle.struct_core.specs.Sample.{sample_document}
use Rattle.struct_core.specs.Enumerations.{FailedStep, wide_sum, wide_row, row_budget, SemiflowOutcome, all_semiflows, step_fails, PassedLimit, set_limit, SetOutcome, all_sets, passes_limit}
use Rattle.struct_core.specs.Outcome.{TaskOutcome, Outcome, sample, sample_tasks, SampleOutcome, refused, goes_on, summary}
use Rattle.struct_core.specs.Run.{Device, Answered, Ran, IsReadWhole, ReadsFor}
use Rattle.struct_core.specs.Completeness.{IsQuiet, IsShort, NoStepFails, NoBoundIsWide, NoCheckIsWide, IsNarrow, IsFew, IsFollowed, WritesText, QuietRunsComplete, QuietTasksComplete, QuietSamplesComplete}
use Rattle.struct_core.specs.Inputs.{rest_of}
use Rattle.struct_core.specs.Certificates.{CertBoundOutcome, certified, wide_check, no_bounds, CertVerdictOutcome, certified_verdict, no_verdict, VerifyOutcome, malformed, rejected, accepted}
use Rattle.certificates.specs.declared.certificate.Certificate.{Certificate}
use Rattle.certificates.specs.BadLines.{Spells}
use Rattle.certificates.specs.Conditions.{IsAccepted, LineHolds}
use Rattle.certificates.proofs.OneReading.{one_reading}
use Rattle.struct_core.proofs.Orders.{one_order, in_range}
use Rattle.struct_core.proofs.FiringOutcomes.{replay_completes}
use Rattle.struct_core.proofs.Resumptions.{resume_completes}
use Rattle.struct_core.specs.SubSemiflows.{SubOutcome, all_sub_semiflows, no_sub_semiflows}
use Rattle.incidence.specs.Matrix.{extended_of}
use Rattle.struct_core.proofs.TaskAnswers.{task_answers, sample_answers}
use Rattle.siphon_branch.proofs.Limits.{few_not_many}

-- a quiet device tells no fault
no_fault : (old new : Device) → IsQuiet old new → Rose old.faults new.faults → ⊥
no_fault old new quiet rose = omega (arith, rose, quiet.steady, quiet.below)

-- the bytes of a short input are too few
not_too_long : (source' : Option (List ℕ)) (input : List ℕ) → length input ≤ MAX_INPUT_BYTES
    → TakesExactly (Some input) source' (MAX_INPUT_BYTES + 1) → ⊥
not_too_long None input short taken = taken.1
not_too_long (Some rest) input short taken =
    omega (arith, short, taken.2, ap (λ (t : List ℕ). length t) taken.1 ∙ length-append taken.0 rest)

-- the whole of what was told as left was read
whole_is : (source' : Option (List ℕ)) (input bytes : List ℕ) → Consumes (Some input) source' bytes → IsAtEnd source' → bytes ≡ input
whole_is None input bytes taken ended = absurd taken
whole_is (Some rest) input bytes taken ended = sym (taken ∙ ap (λ (t : List ℕ). bytes ++ t) ended ∙ append-nil bytes)

-- ---- the outcome of a task within its limits

no_step_fails : (m : Matrix) (columns : ℕ → List ℕ) (budget status : ℕ) (line : List ℕ) → NoStepFails m budget → FailedStep m columns budget status line → ⊥
no_step_fails m columns budget _ _ narrow (wide_sum j fails) = narrow (faults.WideSum j) fails
no_step_fails m columns budget _ _ narrow (wide_row j fails) = narrow (faults.WideRow j) fails
no_step_fails m columns budget _ _ narrow (row_budget j count fails) = narrow (faults.RowBudget j count) fails

semiflows_complete : (m : Matrix) (ids columns : ℕ → List ℕ) (budget status : ℕ) (text : List ℕ) → NoStepFails m budget
    → SemiflowOutcome m ids columns budget status text → status ≡ 0
semiflows_complete m ids columns budget _ _ narrow (all_semiflows list listed) = refl
semiflows_complete m ids columns budget _ _ narrow (step_fails status line fails) = absurd (no_step_fails m columns budget status line narrow fails)

sub_completes : (net : Net) (ids columns : ℕ → List ℕ) (budget status : ℕ) (text : List ℕ) → NoStepFails (extended_of net) budget
    → SubOutcome net ids columns budget status text → status ≡ 0
sub_completes net ids columns budget _ _ narrow (all_sub_semiflows rows list listed is) = refl
sub_completes net ids columns budget _ _ narrow (no_sub_semiflows status line fails) =
    absurd (no_step_fails (extended_of net) columns budget status line narrow fails)

not_passed : (IsGrown : List Bool → Type 0) (limit status : ℕ) (line : List ℕ) → ((carried : List (List Bool)) → CarriesMore IsGrown limit carried → ⊥)
    → PassedLimit IsGrown limit status line → ⊥
not_passed IsGrown limit _ _ none (set_limit carried many) = none carried many

sets_complete : (IsMinimal IsGrown : List Bool → Type 0) (word : List ℕ) (ids : ℕ → List ℕ) (limit status : ℕ) (text : List ℕ)
    → ((carried : List (List Bool)) → CarriesMore IsGrown limit carried → ⊥) → SetOutcome IsMinimal IsGrown word ids limit status text → status ≡ 0
sets_complete IsMinimal IsGrown word ids limit _ _ none (all_sets list few is) = refl
sets_complete IsMinimal IsGrown word ids limit _ _ none (passes_limit status line passed) = absurd (not_passed IsGrown limit status line none passed)

bounds_complete : (net : Net) (ids columns : ℕ → List ℕ) (budget status : ℕ) (text : List ℕ) → NoStepFails (incidence_of net) budget → NoBoundIsWide net
    → BoundOutcome net ids columns budget status text → status ≡ 0
bounds_complete net ids columns budget _ _ narrow none (all_bounds list bounds listed rows size least) = refl
bounds_complete net ids columns budget _ _ narrow none (wide_bound list row listed wide) = absurd (none list row listed.is wide)
bounds_complete net ids columns budget _ _ narrow none (no_semiflows status line fails) =
    absurd (no_step_fails (incidence_of net) columns budget status line narrow fails)

verdict_completes : (net : Net) (ids : ℕ → List ℕ) (limit status : ℕ) (text : List ℕ) → HasAtMostGrown net limit → CommonerOutcome net ids limit status text → status ≡ 0
verdict_completes net ids limit _ _ few (verdict one text also is spelled) = refl
verdict_completes net ids limit _ _ few (no_siphons status line passed) =
    absurd (not_passed (IsGrownSet net) limit status line (λ carried. (few_not_many net limit carried).siphons few) passed)

live_completes : (net : Net) (ids : ℕ → List ℕ) (limit status : ℕ) (text : List ℕ) → (IsAsked net → HasAtMostGrown net limit) → LiveOutcome net ids limit status text → status ≡ 0
live_completes net ids limit _ _ few (liveness one is) = refl
live_completes net ids limit _ _ few (too_many_siphons carried asked many) = absurd ((few_not_many net limit carried).siphons (few asked) many)

cert_bounds_complete : (net : Net) (front : List ℕ) (ids columns : ℕ → List ℕ) (budget status : ℕ) (text : List ℕ) → NoStepFails (incidence_of net) budget
    → NoBoundIsWide net → NoCheckIsWide net → CertBoundOutcome net front ids columns budget status text → status ≡ 0
cert_bounds_complete net front ids columns budget _ _ narrow none fine (certified list bounds are flows) = refl
cert_bounds_complete net front ids columns budget _ _ narrow none fine (wide_check list bounds row column are wide) =
    absurd (fine list bounds row column are.listed.is are.first wide)
cert_bounds_complete net front ids columns budget _ _ narrow none fine (no_bounds status line other outcome) =
    absurd (other (bounds_complete net ids columns budget status line narrow none outcome))

cert_verdict_completes : (net : Net) (front : List ℕ) (limit status : ℕ) (text : List ℕ) → HasAtMostGrown net limit
    → CertVerdictOutcome net front limit status text → status ≡ 0
cert_verdict_completes net front limit _ _ few (certified_verdict one certificate also is certifies) = refl
cert_verdict_completes net front limit _ _ few (no_verdict status line passed) =
    absurd (not_passed (IsGrownSet net) limit status line (λ carried. (few_not_many net limit carried).siphons few) passed)

verify_completes : (net : Net) (bytes : List ℕ) (status : ℕ) (text : List ℕ) (certificate : Certificate) → Spells certificate bytes
    → IsAccepted net certificate → VerifyOutcome net bytes status text → status ≡ 0
verify_completes net bytes _ _ certificate spelled fine (malformed number bad) = absurd ((one_reading bytes).apart certificate number spelled bad)
verify_completes net bytes _ _ certificate spelled fine (rejected other number also false_line) =
    let same : other ≡ certificate = (one_reading bytes).certificate other certificate also spelled in
    absurd (false_line.fails (subst (λ (c : Certificate). LineHolds net c number) (sym same) (fine number)))
verify_completes net bytes _ _ certificate spelled fine (accepted other text also holds told) = refl

task_completes : (task : Task) (budgets : Budgets) (document : Document) (net : NetLists) (rest : List ℕ) (status : ℕ) (text : List ℕ)
    → IsNarrow task budgets net → IsFew task budgets net → IsFollowed task net rest → TaskOutcome task budgets document net rest status text → status ≡ 0
task_completes tasks.Check budgets document net rest status text narrow few fine outcome = outcome.0
task_completes tasks.Canon budgets document net rest status text narrow few fine outcome = outcome.0
task_completes tasks.Class budgets document net rest status text narrow few fine outcome = outcome.0
task_completes tasks.Places budgets document net rest status text narrow few fine outcome = semiflows_complete _ _ _ _ status text narrow outcome
task_completes tasks.Transitions budgets document net rest status text narrow few fine outcome = semiflows_complete _ _ _ _ status text narrow outcome
task_completes tasks.Siphons budgets document net rest status text narrow few fine outcome =
    sets_complete _ _ _ _ budgets.sets status text (λ carried. (few_not_many (net_of net) budgets.sets carried).siphons few) outcome
task_completes tasks.Traps budgets document net rest status text narrow few fine outcome =
    sets_complete _ _ _ _ budgets.sets status text (λ carried. (few_not_many (net_of net) budgets.sets carried).traps few) outcome
task_completes tasks.Bounds budgets document net rest status text narrow few fine outcome = bounds_complete _ _ _ _ status text narrow.0 narrow.1 outcome
task_completes tasks.Commoner budgets document net rest status text narrow few fine outcome = verdict_completes _ _ _ status text few outcome
task_completes tasks.CertBounds budgets document net rest status text narrow few fine outcome =
    cert_bounds_complete _ _ _ _ _ status text narrow.0 narrow.1 narrow.2 outcome
task_completes tasks.CertCommoner budgets document net rest status text narrow few fine outcome = cert_verdict_completes _ _ _ status text few outcome
task_completes tasks.Verify budgets document net rest status text narrow few fine outcome =
    verify_completes (net_of net) rest status text fine.0 fine.1 fine.2 outcome
task_completes tasks.Live budgets document net rest status text narrow few fine outcome = live_completes _ _ _ status text few outcome
task_completes tasks.Sub budgets document net rest status text narrow few fine outcome = sub_completes _ _ _ _ status text narrow outcome
task_completes tasks.Resume budgets document net rest status text narrow few fine outcome =
    resume_completes document _ _ budgets.sets rest status text fine.0 fine.1 outcome
task_completes tasks.Replay budgets document net rest status text narrow few fine outcome =
    replay_completes _ _ _ rest status text fine.0 fine.1 fine.2 outcome

-- ---- the run

module _ (words : List (List ℕ)) (task : Task) (k : ℕ) (budgets : Budgets) (source source' out out' : Device) (status : ℕ) (line : List ℕ)
    (input : List ℕ) (document : Document) (net : NetLists) (ran : Ran words source source' out out' status line)
    (means : Means words (Run task k budgets)) (reads : IsQuiet source source') (writes : IsQuiet out out') (tells : source.bytes ≡ Some input)
    (short : IsShort task input document) (flat : Flat document k net) (narrow : IsNarrow task budgets net) (few : IsFew task budgets net)
    (fine : IsFollowed task net (rest_of task input)) where
  not_usage : status ≢ 2
  not_usage is = ran.usage is (Run task k budgets) means

  not_read_fault : status ≢ 8
  not_read_fault is = no_fault source source' reads (ran.reads.cause is)

  not_long : status ≢ 7
  not_long is =
      not_too_long source'.bytes input short.length_is
      (subst (λ (left : Option (List ℕ)). TakesExactly left source'.bytes (MAX_INPUT_BYTES + 1)) tells (ran.reads.too_long is))

  -- the whole input was read
  read_of : (a : Answered words source source' out out' status line) → a.input ≡ input
  read_of a =
      let whole : IsReadWhole source source' a.input =
      subst (λ (order : Order). ReadsFor order source source' a.input) (one_order words a.order (Run task k budgets) a.means means) a.reads in
      whole_is source'.bytes input a.input (subst (λ (left : Option (List ℕ)). Consumes left source'.bytes a.input) tells whole.read) whole.whole

  -- the outcome of the run is that of the order for the input
  outcome_is : (a : Answered words source source' out out' status line) → Outcome (Run task k budgets) input a.outcome a.text
  outcome_is a =
      let read = read_of a in
      subst (λ (order : Order). Outcome order input a.outcome a.text) (one_order words a.order (Run task k budgets) a.means means)
      (subst (λ (bytes : List ℕ). Outcome a.order bytes a.outcome a.text) read a.comes)

  answered_zero : (a : Answered words source source' out out' status line) → a.outcome ≡ 0
  answered_zero a =
      task_completes task budgets document net (rest_of task input) a.outcome a.text narrow few fine
      (task_answers task k budgets input document net a.outcome a.text short.profile flat (outcome_is a))

  ends : (a : Answered words source source' out out' status line) → (status ≡ 0) ⊎ (status ≡ 9) → WritesText (Run task k budgets) input out out' status
  ends a (inl done) = record {
    text = a.text;
    comes = subst (λ (n : ℕ). Outcome (Run task k budgets) input n a.text) (answered_zero a) (outcome_is a);
    done = done;
    written = a.done done;
  }
  ends a (inr cut) = absurd (no_fault out out' writes (a.cut cut).0)

  completes : (status ≡ 10) ⊎ (status ≢ 10) → WritesText (Run task k budgets) input out out' status ⊎ (status ≡ 10)
  completes (inl memory) = inr memory
  completes (inr answers) =
      let a : Answered words source source' out out' status line = ran.answered (not_usage, not_long, not_read_fault, answers) in
      inl (ends a (a.follows (answered_zero a)))

quiet_tasks : QuietTasksComplete
quiet_tasks words task k budgets source source' out out' err err' status input document net run means reads writes tells short flat narrow few fine =
    completes words task k budgets source source' out out' status run.line input document net run.ran means reads writes tells short flat narrow few fine
    (cases_eq status 10)

-- ---- a sample

sample_completes : (document : Document) (net : NetLists) (later : List Task) (status : ℕ) (text : List ℕ)
    → AllByRecursion (λ task. IsNarrow task default_budgets net × IsFew task default_budgets net × IsFollowed task net []) later → SampleOutcome document net later status text → status ≡ 0
sample_completes document net _ _ _ within (refused task later status line fails outcome) =
    absurd (fails (task_completes task default_budgets document net [] status line within.0.0 within.0.1 within.0.2 outcome))
sample_completes document net _ _ _ within (goes_on task later report status text outcome rest) = sample_completes document net later status text within.1 rest
sample_completes document net _ _ _ within (summary numbers is) = refl

-- the tasks of a sample ask for nothing after the document
without_rest : (net : NetLists) → AllByRecursion (λ task. IsNarrow task default_budgets net × IsFew task default_budgets net) sample_tasks
    → AllByRecursion (λ task. IsNarrow task default_budgets net × IsFew task default_budgets net × IsFollowed task net []) sample_tasks
without_rest net within =
    let one = within.0 in
    let two = within.1.0 in
    let three = within.1.1.0 in
    let four = within.1.1.1.0 in
    let five = within.1.1.1.1.0 in
    ((one.0, one.1, tt), ((two.0, two.1, tt), ((three.0, three.1, tt), ((four.0, four.1, tt), ((five.0, five.1, tt), tt)))))

for_any_input : (n : ℕ) (bytes input : List ℕ) (status : ℕ) (text : List ℕ) → Outcome (Sample n) bytes status text → Outcome (Sample n) input status text
for_any_input _ _ input _ _ (sample n bytes net status text range flat outcome) = sample n input net status text range flat outcome

module _ (words : List (List ℕ)) (n : ℕ) (source source' out out' : Device) (status : ℕ) (line : List ℕ) (input : List ℕ) (net : NetLists)
    (ran : Ran words source source' out out' status line) (means : Means words (Sample n)) (writes : IsQuiet out out') (flat : Flat (sample_document n) 1 net)
    (within : AllByRecursion (λ task. IsNarrow task default_budgets net × IsFew task default_budgets net) sample_tasks) where
  sample_is : (a : Answered words source source' out out' status line) → Outcome (Sample n) a.input a.outcome a.text
  sample_is a = subst (λ (order : Order). Outcome order a.input a.outcome a.text) (one_order words a.order (Sample n) a.means means) a.comes

  sample_zero : (a : Answered words source source' out out' status line) → a.outcome ≡ 0
  sample_zero a =
      sample_completes (sample_document n) net sample_tasks a.outcome a.text (without_rest net within)
      (sample_answers n a.input net a.outcome a.text (in_range words (Sample n) means) flat (sample_is a))

  sample_ends : (a : Answered words source source' out out' status line) → (status ≡ 0) ⊎ (status ≡ 9) → WritesText (Sample n) input out out' status
  sample_ends a (inl done) = record {
    text = a.text;
    comes = for_any_input n a.input input 0 a.text (subst (λ (m : ℕ). Outcome (Sample n) a.input m a.text) (sample_zero a) (sample_is a));
    done = done;
    written = a.done done;
  }
  sample_ends a (inr cut) = absurd (no_fault out out' writes (a.cut cut).0)

  sample_quiet : (status ≡ 10) ⊎ (status ≢ 10) → WritesText (Sample n) input out out' status ⊎ (status ≡ 10)
  sample_quiet (inl memory) = inr memory
  sample_quiet (inr answers) =
      let nothing = ran.sample n means in
      let a : Answered words source source' out out' status line =
      ran.answered ((λ is. ran.usage is (Sample n) means), nothing.not_too_long, nothing.no_read_fault, answers) in
      inl (sample_ends a (a.follows (sample_zero a)))

quiet_samples : QuietSamplesComplete
quiet_samples words n source source' out out' err err' status input net run means writes flat within =
    sample_quiet words n source source' out out' status run.line input net run.ran means writes flat within (cases_eq status 10)

pub quiet_runs : QuietRunsComplete
quiet_runs = (quiet_tasks, quiet_samples)
