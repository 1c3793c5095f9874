-- The outcome of a sample: the first task that is refused tells it, and where none is, their lists give the
-- numbers of the summary.
use Rattle.std.proofs.Common.{◌≡◌, ℕ, List, [], ◌∷◌, Option, length, refl, sym, subst, ℤ}
use Rattle.std.specs.Prelude.{Bool, ◌↔◌, IsTrue, codes}
use Rattle.std.specs.Cmp.Lexicographic.{slice_cmp}
use Rattle.std.specs.Ordering.{bool_cmp}
use Rattle.net_values.specs.declared.document.Document.{Document}
use Rattle.net_values.specs.FlatNets.{NetLists, net_of}
use Rattle.net_values.specs.Nodes.{place_id, transition_id}
use Rattle.net_values.specs.TheList.{IsTheList}
use Rattle.bounds.specs.declared.place_bound.PlaceBound.{PlaceBound}
use Rattle.bounds.specs.Listed.{AreLeastBounds, AreNarrowRows}
use Rattle.closed_sets.specs.Commoner.{MeetsCommoner}
use Rattle.closed_sets.specs.MinimalSets.{IsMinimalSet}
use Rattle.incidence.specs.Matrix.{incidence_of, transposed}
use Rattle.net_class.specs.declared.verdict.Verdict.{Verdict}
use Rattle.net_class.specs.declared.verdict.Verdict.TheVariants.{Yes, No}
use Rattle.net_class.specs.Verdicts.{NamesFirst}
use Rattle.siphon_branch.specs.Limits.{HasAtMostGrown, IsGrownSet}
use Rattle.report.specs.declared.summary.Summary.{Summary}
use Rattle.report.specs.SummaryText.{summary_text}
use Rattle.report.specs.Texts.{semiflows_text, sets_text, bounds_text}
use Rattle.struct_core.specs.declared.order.Task.TheVariants as tasks
use Rattle.struct_core.specs.Words.{default_budgets}
use Rattle.struct_core.specs.Enumerations.{AreListed, FailedStep, all_semiflows, step_fails, PassedLimit, all_sets, passes_limit}
use Rattle.struct_core.specs.Verdicts.{FirstWide, first_wide, BoundOutcome, all_bounds, wide_bound, IsVerdict}
use Rattle.struct_core.specs.Summaries.{is_yes, HasGreatest, IsSummary}
use Rattle.struct_core.specs.Outcome.{SampleOutcome, refused, goes_on, summary, sample_tasks}
use Rattle.struct_core.proofs.Outcomes.{step_goes_on, limit_goes_on}
use Rattle.struct_core.proofs.SomeOutcome.{verdict_text}
use Rattle.struct_core.proofs.Greatest.{greatest_bound}

pub yes_is : (one : Verdict) → IsTrue (is_yes one) ↔ (one ≡ Yes)
yes_is Yes = (λ h. refl, λ e. refl)
yes_is (No siphon) = (λ h. absurd (cc), λ e. absurd (cc))

module _ (document : Document) (net : NetLists) where
  -- ---- the task that is refused

  pub no_places : (status : ℕ) (line : List ℕ) → FailedStep (incidence_of (net_of net)) (transition_id net) default_budgets.rows status line
      → SampleOutcome document net sample_tasks status line
  no_places status line fails = refused tasks.Places _ status line (step_goes_on _ _ _ status line fails) (step_fails status line fails)

  past_places : (rows : List (List ℕ)) (status : ℕ) (text : List ℕ) → AreListed (incidence_of (net_of net)) default_budgets.rows rows
      → SampleOutcome document net (tasks.Transitions ∷ tasks.Siphons ∷ tasks.Bounds ∷ tasks.Commoner ∷ []) status text
      → SampleOutcome document net sample_tasks status text
  past_places rows status text listed rest = goes_on tasks.Places _ (semiflows_text (place_id net) rows) status text (all_semiflows rows listed) rest

  pub no_cycles : (rows : List (List ℕ)) → AreListed (incidence_of (net_of net)) default_budgets.rows rows → (status : ℕ) (line : List ℕ)
      → FailedStep (transposed (incidence_of (net_of net))) (place_id net) default_budgets.rows status line → SampleOutcome document net sample_tasks status line
  no_cycles rows listed status line fails =
      past_places rows status line listed (refused tasks.Transitions _ status line (step_goes_on _ _ _ status line fails) (step_fails status line fails))

  past_cycles : (rows cycles : List (List ℕ)) (status : ℕ) (text : List ℕ) → AreListed (incidence_of (net_of net)) default_budgets.rows rows
      → AreListed (transposed (incidence_of (net_of net))) default_budgets.rows cycles
      → SampleOutcome document net (tasks.Siphons ∷ tasks.Bounds ∷ tasks.Commoner ∷ []) status text → SampleOutcome document net sample_tasks status text
  past_cycles rows cycles status text listed also rest =
      past_places rows status text listed
      (goes_on tasks.Transitions _ (semiflows_text (transition_id net) cycles) status text (all_semiflows cycles also) rest)

  pub many_siphons : (rows cycles : List (List ℕ)) → AreListed (incidence_of (net_of net)) default_budgets.rows rows
      → AreListed (transposed (incidence_of (net_of net))) default_budgets.rows cycles → (status : ℕ) (line : List ℕ)
      → PassedLimit (IsGrownSet (net_of net)) default_budgets.sets status line → SampleOutcome document net sample_tasks status line
  many_siphons rows cycles listed also status line passed =
      past_cycles rows cycles status line listed also (refused tasks.Siphons _ status line (limit_goes_on _ _ status line passed) (passes_limit status line passed))

  past_siphons : (rows cycles : List (List ℕ)) (siphons : List (List Bool)) (status : ℕ) (text : List ℕ) → AreListed (incidence_of (net_of net)) default_budgets.rows rows
      → AreListed (transposed (incidence_of (net_of net))) default_budgets.rows cycles → HasAtMostGrown (net_of net) default_budgets.sets
      → IsTheList (slice_cmp bool_cmp) (IsMinimalSet (net_of net)) siphons → SampleOutcome document net (tasks.Bounds ∷ tasks.Commoner ∷ []) status text
      → SampleOutcome document net sample_tasks status text
  past_siphons rows cycles siphons status text listed also few all rest =
      past_cycles rows cycles status text listed also
      (goes_on tasks.Siphons _ (sets_text (codes "siphons") (place_id net) siphons) status text (all_sets siphons few all) rest)

  wide_goes_on : (list : List (List ℕ)) (status : ℕ) (line : List ℕ) → FirstWide (net_of net) list status line → status ≡ 0 → ⊥
  wide_goes_on list _ _ (first_wide row is) zero_is = cc

  wide_there : (rows : List (List ℕ)) (status : ℕ) (line : List ℕ) → AreListed (incidence_of (net_of net)) default_budgets.rows rows → FirstWide (net_of net) rows status line
      → BoundOutcome (net_of net) (place_id net) (transition_id net) default_budgets.rows status line
  wide_there rows _ _ listed (first_wide row is) = wide_bound rows row listed is

  pub no_bounds : (rows cycles : List (List ℕ)) (siphons : List (List Bool)) → AreListed (incidence_of (net_of net)) default_budgets.rows rows
      → AreListed (transposed (incidence_of (net_of net))) default_budgets.rows cycles → HasAtMostGrown (net_of net) default_budgets.sets
      → IsTheList (slice_cmp bool_cmp) (IsMinimalSet (net_of net)) siphons → (status : ℕ) (line : List ℕ) → FirstWide (net_of net) rows status line
      → SampleOutcome document net sample_tasks status line
  no_bounds rows cycles siphons listed also few all status line wide =
      past_siphons rows cycles siphons status line listed also few all
      (refused tasks.Bounds _ status line (wide_goes_on rows status line wide) (wide_there rows status line listed wide))

  -- ---- no task is refused

  all_told : (rows cycles : List (List ℕ)) (siphons : List (List Bool)) (bounds : List (Option PlaceBound)) (one : Verdict) (numbers : Summary)
      → AreListed (incidence_of (net_of net)) default_budgets.rows rows → AreListed (transposed (incidence_of (net_of net))) default_budgets.rows cycles
      → HasAtMostGrown (net_of net) default_budgets.sets → IsTheList (slice_cmp bool_cmp) (IsMinimalSet (net_of net)) siphons
      → AreNarrowRows (net_of net) rows (length rows) → length bounds ≡ (net_of net).places → AreLeastBounds (net_of net) bounds
      → IsVerdict (net_of net) one → IsSummary (net_of net) net.arcs numbers → SampleOutcome document net sample_tasks 0 (summary_text numbers)
  all_told rows cycles siphons bounds one numbers listed also few all narrow size least is sums =
      let told = verdict_text (net_of net) (place_id net) default_budgets.sets few one is in
      past_siphons rows cycles siphons 0 (summary_text numbers) listed also few all
      (goes_on tasks.Bounds _ (bounds_text (place_id net) bounds) 0 (summary_text numbers) (all_bounds rows bounds listed narrow size least)
      (goes_on tasks.Commoner [] told.0 0 (summary_text numbers) told.1 (summary numbers sums)))

  pub numbers_told : (rows cycles : List (List ℕ)) (siphons : List (List Bool)) (bounds : List (Option PlaceBound)) (one : Verdict)
      (places transitions arcs row_count cycle_count siphon_count : ℕ) (greatest : ℤ) (commoner : Bool)
      → AreListed (incidence_of (net_of net)) default_budgets.rows rows → AreListed (transposed (incidence_of (net_of net))) default_budgets.rows cycles
      → HasAtMostGrown (net_of net) default_budgets.sets → IsTheList (slice_cmp bool_cmp) (IsMinimalSet (net_of net)) siphons
      → AreNarrowRows (net_of net) rows (length rows) → length bounds ≡ (net_of net).places → AreLeastBounds (net_of net) bounds
      → (one ≡ Yes) ↔ MeetsCommoner (net_of net) → NamesFirst (net_of net) siphons one
      → places ≡ (net_of net).places → transitions ≡ (net_of net).transitions → arcs ≡ net.arcs → row_count ≡ length rows → cycle_count ≡ length cycles
      → siphon_count ≡ length siphons → HasGreatest bounds (length bounds) greatest → commoner ≡ is_yes one
      → SampleOutcome document net sample_tasks 0 (summary_text record {
        places = places;
        transitions = transitions;
        arcs = arcs;
        place_semiflows = row_count;
        transition_semiflows = cycle_count;
        siphons = siphon_count;
        greatest_bound = greatest;
        commoner = commoner;
      })
  numbers_told rows cycles siphons bounds one places transitions arcs row_count cycle_count siphon_count greatest commoner listed also few all narrow size least exact first places_are transitions_are arcs_are rows_are cycles_are siphons_are has said =
      all_told rows cycles siphons bounds one _ listed also few all narrow size least (record { exact = exact; siphons = siphons; all = all; first = first }) record {
        places = places_are;
        transitions = transitions_are;
        arcs_are = arcs_are;
        of_places = (rows, listed, sym rows_are);
        of_transitions = (cycles, also, sym cycles_are);
        siphons = (siphons, all, sym siphons_are);
        greatest = greatest_bound (net_of net) bounds greatest size least has;
        commoner = (λ h. exact.0 ((yes_is one).0 (subst IsTrue said h)), λ h. subst IsTrue (sym said) ((yes_is one).1 (exact.1 h)));
      }
