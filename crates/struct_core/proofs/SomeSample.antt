-- Each sample has an outcome: its net is there, and each of its tasks has an outcome, which is refused or has
-- the list from which the numbers are read.
use Rattle.std.proofs.Common.{◌≡◌, ◌≢◌, ◌⊎◌, ◌≤◌, ℕ, List, [], ◌∷◌, Option, length, refl, subst, inl, inr}
use Rattle.std.specs.Prelude.{Bool}
use Rattle.std.specs.Cmp.Lexicographic.{slice_cmp}
use Rattle.std.specs.Ordering.{bool_cmp}
use Rattle.std.specs.List.{AllByRecursion}
use Rattle.std.proofs.lemmas.Bool.{cases_eq}
use Rattle.net_values.specs.declared.document.Document.{Document}
use Rattle.net_values.specs.FlatNets.{NetLists, net_of}
use Rattle.net_values.specs.Net.{Net}
use Rattle.net_values.specs.TheList.{IsTheList}
use Rattle.bounds.specs.declared.place_bound.PlaceBound.{PlaceBound}
use Rattle.bounds.specs.Listed.{AreLeastBounds}
use Rattle.closed_sets.specs.MinimalSets.{IsMinimalSet}
use Rattle.incidence.specs.Matrix.{Matrix, incidence_of, transposed}
use Rattle.page_flatten.specs.declared.fault.FlatFault.{FlatFault}
use Rattle.page_flatten.specs.Rules.{FirstBroken}
use Rattle.page_flatten.specs.Flat.{Flat, LacksNet}
use Rattle.page_flatten.specs.Laws.{HasFlatNet}
use Rattle.page_flatten.proofs.OneAnswer.{breaks_where_faulty}
use Rattle.page_flatten.proofs.SomeAnswer.{net_or_fault}
use Rattle.report.specs.declared.summary.Summary.{Summary}
use Rattle.report.specs.SummaryText.{summary_text}
use Rattle.struct_core.specs.declared.order.Task.{Task}
use Rattle.struct_core.specs.declared.order.Task.TheVariants as tasks
use Rattle.struct_core.specs.declared.order.Order.TheVariants.{Sample}
use Rattle.struct_core.specs.Words.{default_budgets, IsInRange}
use Rattle.struct_core.specs.Sample.{sample_document, sample_tree}
use Rattle.struct_core.specs.Enumerations.{AreListed, SemiflowOutcome, all_semiflows, step_fails, SetOutcome, all_sets, passes_limit}
use Rattle.struct_core.specs.Verdicts.{BoundOutcome, all_bounds, wide_bound, no_semiflows}
use Rattle.struct_core.specs.Summaries.{is_yes, IsSummary}
use Rattle.struct_core.specs.Outcome.{TaskOutcome, Outcome, sample, SampleOutcome, refused, goes_on, summary, sample_tasks}
use Rattle.struct_core.specs.Determined.{IsDecided, HasSomeOutcome, HasSomeSampleOutcome}
use Rattle.struct_core.proofs.Outcomes.{step_goes_on, limit_goes_on}
use Rattle.struct_core.proofs.Greatest.{greatest_bound, greatest_of}
use Rattle.struct_core.proofs.SampleValued.{sample_profile}
use Rattle.net_values.specs.declared.limits.TheConstants.{MAX_PLACES}
use Rattle.struct_core.proofs.SomeCertificate.{few_places}
use Rattle.struct_core.proofs.SomeOutcome.{some_task_outcome, some_of_task}
use Rattle.struct_core.proofs.SomeVerdict.{verdict_of}
use Rattle.struct_core.proofs.Summing.{yes_is}

-- ---- what the outcomes list

listed_of : (m : Matrix) (ids columns : ℕ → List ℕ) (budget status : ℕ) (text : List ℕ) → SemiflowOutcome m ids columns budget status text → status ≡ 0
    → (list : List (List ℕ)) × AreListed m budget list
listed_of m ids columns budget _ _ (all_semiflows list listed) zero_is = (list, listed)
listed_of m ids columns budget _ _ (step_fails status line fails) zero_is = absurd (step_goes_on m columns budget status line fails zero_is)

sets_of : (IsMinimal IsGrown : List Bool → Type 0) (word : List ℕ) (ids : ℕ → List ℕ) (limit status : ℕ) (text : List ℕ) → SetOutcome IsMinimal IsGrown word ids limit status text
    → status ≡ 0 → (list : List (List Bool)) × IsTheList (slice_cmp bool_cmp) IsMinimal list
sets_of IsMinimal IsGrown word ids limit _ _ (all_sets list few is) zero_is = (list, is)
sets_of IsMinimal IsGrown word ids limit _ _ (passes_limit status line passed) zero_is = absurd (limit_goes_on IsGrown limit status line passed zero_is)

bounds_of : (net : Net) (ids columns : ℕ → List ℕ) (budget status : ℕ) (text : List ℕ) → BoundOutcome net ids columns budget status text → status ≡ 0
    → (bounds : List (Option PlaceBound)) × (length bounds ≡ net.places) × AreLeastBounds net bounds
bounds_of net ids columns budget _ _ (all_bounds list bounds listed narrow size least) zero_is = (bounds, size, least)
bounds_of net ids columns budget _ _ (wide_bound list row listed wide) zero_is = absurd (cc)
bounds_of net ids columns budget _ _ (no_semiflows status line fails) zero_is = absurd (step_goes_on _ columns budget status line fails zero_is)

-- ---- the numbers of a net

abbrev numbers_of : Net → ℕ → List (List ℕ) → List (List ℕ) → List (List Bool) → List (Option PlaceBound) → Summary
numbers_of net arcs rows cycles siphons bounds = record {
  places = net.places;
  transitions = net.transitions;
  arcs = arcs;
  place_semiflows = length rows;
  transition_semiflows = length cycles;
  siphons = length siphons;
  greatest_bound = (greatest_of bounds (length bounds)).0;
  commoner = is_yes (verdict_of net).0;
}

some_summary : (net : Net) (arcs : ℕ) (rows cycles : List (List ℕ)) (siphons : List (List Bool)) (bounds : List (Option PlaceBound)) → AreListed (incidence_of net) default_budgets.rows rows
    → AreListed (transposed (incidence_of net)) default_budgets.rows cycles → IsTheList (slice_cmp bool_cmp) (IsMinimalSet net) siphons
    → length bounds ≡ net.places → AreLeastBounds net bounds → IsSummary net arcs (numbers_of net arcs rows cycles siphons bounds)
some_summary net arcs rows cycles siphons bounds listed also all size least =
    let exact = (verdict_of net).1.exact in
    record {
      places = refl;
      transitions = refl;
      arcs_are = refl;
      of_places = (rows, listed, refl);
      of_transitions = (cycles, also, refl);
      siphons = (siphons, all, refl);
      greatest = greatest_bound net bounds _ size least (greatest_of bounds (length bounds)).1;
      commoner = (λ h. exact.0 ((yes_is (verdict_of net).0).0 h), λ h. (yes_is (verdict_of net).0).1 (exact.1 h));
    }

-- ---- the tasks, one after the other

module _ (document : Document) (net : NetLists) (limit : (net_of net).places ≤ MAX_PLACES) where
  abbrev Told : List Task → Type 0
  Told later = (status : ℕ) × (text : List ℕ) × SampleOutcome document net later status text

  next : (task : Task) (later : List Task) (status : ℕ) (text : List ℕ) → TaskOutcome task default_budgets document net [] status text → (status ≡ 0) ⊎ (status ≢ 0)
      → ((report : List ℕ) → TaskOutcome task default_budgets document net [] 0 report → Told later) → Told (task ∷ later)
  next task later status text outcome (inl done) rest =
      let after = rest text (subst (λ (n : ℕ). TaskOutcome task default_budgets document net [] n text) done outcome) in
      (after.0, after.1, goes_on task later text after.0 after.1 (subst (λ (n : ℕ). TaskOutcome task default_budgets document net [] n text) done outcome) after.2)
  next task later status text outcome (inr fails) rest = (status, text, refused task later status text fails outcome)

  step : (task : Task) (later : List Task) → IsDecided task default_budgets net
      → ((report : List ℕ) → TaskOutcome task default_budgets document net [] 0 report → Told later) → Told (task ∷ later)
  step task later decided rest =
      let outcome = some_task_outcome task default_budgets document net [] limit decided in
      next task later outcome.0 outcome.1 outcome.2 (cases_eq outcome.0 0) rest

  some_sample : AllByRecursion (λ task. IsDecided task default_budgets net) sample_tasks → Told sample_tasks
  some_sample decided =
      step tasks.Places _ decided.0 (λ one places.
      step tasks.Transitions _ decided.1.0 (λ two cycles.
      step tasks.Siphons _ tt (λ three siphons.
      step tasks.Bounds _ decided.1.1.1.0 (λ four bounds.
      step tasks.Commoner [] tt (λ five verdict.
      let rows = listed_of _ _ _ _ 0 one places refl in
      let others = listed_of _ _ _ _ 0 two cycles refl in
      let sets = sets_of _ _ _ _ _ 0 three siphons refl in
      let least = bounds_of _ _ _ _ 0 four bounds refl in
      let numbers = numbers_of (net_of net) net.arcs rows.0 others.0 sets.0 least.0 in
      (0, summary_text numbers, summary numbers (some_summary (net_of net) net.arcs rows.0 others.0 sets.0 least.0 rows.1 others.1 sets.1 least.1 least.2)))))))

some_of_flat : (n : ℕ) (input : List ℕ) → IsInRange (Sample n)
    → ((net : NetLists) → Flat (sample_document n) 1 net → AllByRecursion (λ task. IsDecided task default_budgets net) sample_tasks)
    → ((net : NetLists) × Flat (sample_document n) 1 net) ⊎ LacksNet (sample_document n) 1 → (status : ℕ) × (text : List ℕ) × Outcome (Sample n) input status text
some_of_flat n input range decide (inl flat) =
    let outcome = some_sample (sample_document n) flat.0 (few_places (sample_document n) 1 flat.0 (sample_profile n range.1).spelled flat.1) (decide flat.0 flat.1) in
    (outcome.0, outcome.1, sample n input flat.0 outcome.0 outcome.1 range flat.1 outcome.2)
some_of_flat n input range decide (inr lacks) = absurd (lacks (sample_tree n) refl)

some_of_net : (n : ℕ) (input : List ℕ) → IsInRange (Sample n)
    → ((net : NetLists) → Flat (sample_document n) 1 net → AllByRecursion (λ task. IsDecided task default_budgets net) sample_tasks)
    → HasFlatNet (sample_document n) 1 ⊎ ((fault : FlatFault) × FirstBroken (sample_document n) fault) → (status : ℕ) × (text : List ℕ) × Outcome (Sample n) input status text
some_of_net n input range decide (inl has) = some_of_flat n input range decide has.1
some_of_net n input range decide (inr fault) = absurd (breaks_where_faulty (sample_document n) fault.0 fault.1 (sample_profile n range.1).rules)

some_of_sample : HasSomeSampleOutcome
some_of_sample n input range decide = some_of_net n input range decide (net_or_fault (sample_document n) 1)

pub some_outcome : HasSomeOutcome
some_outcome = (some_of_task, some_of_sample)
