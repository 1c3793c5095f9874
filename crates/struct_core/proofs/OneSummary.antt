-- A net has one summary: each of its numbers is one.
use Rattle.std.proofs.Common.{◌≡◌, ℕ, ◌≤◌, List, length, sym, ap, ◌∙◌, arith, inl, inr, ℤ, pos}
use Rattle.std.specs.Prelude.{Bool}
use Rattle.net_values.specs.Net.{Net}
use Rattle.net_values.proofs.OneList.{one_list_of_sets}
use Rattle.closed_sets.specs.Commoner.{MeetsCommoner}
use Rattle.closed_sets.specs.MinimalSets.{IsMinimalSet}
use Rattle.incidence.specs.Matrix.{Matrix}
use Rattle.report.specs.declared.summary.Summary.{Summary}
use Rattle.struct_core.specs.Words.{default_budgets}
use Rattle.struct_core.specs.Summaries.{HasSemiflows, HasSiphons, IsGreatestBound, IsSummary}
use Rattle.struct_core.proofs.OneListing.{one_semiflow_list}
use Rattle.struct_core.proofs.Truths.{same_answer}

one_count : (m : Matrix) (one other : ℕ) → HasSemiflows m one → HasSemiflows m other → one ≡ other
one_count m one other is also =
    sym is.2 ∙ ap (λ (list : List (List ℕ)). length list) (one_semiflow_list m default_budgets.rows is.0 also.0 is.1 also.1) ∙ also.2

one_siphon_count : (net : Net) (one other : ℕ) → HasSiphons net one → HasSiphons net other → one ≡ other
one_siphon_count net one other is also =
    sym is.2 ∙ ap (λ (list : List (List Bool)). length list) (one_list_of_sets (IsMinimalSet net) is.0 also.0 is.1 also.1) ∙ also.2

at_most : (net : Net) (one other : ℕ) → IsGreatestBound net one → IsGreatestBound net other → one ≤ other
at_most net one other is also = elim is.attained [
  | inl none ↦ omega (arith, none)
  | inr at ↦ also.above at.0 one at.1 at.2
]

one_greatest : (net : Net) (one other : ℕ) → IsGreatestBound net one → IsGreatestBound net other → one ≡ other
one_greatest net one other is also =
    let below = at_most net one other is also in let above = at_most net other one also is in omega (arith, below, above)

-- a summary by its numbers
abbrev made : ℕ → ℕ → ℕ → ℕ → ℕ → ℕ → ℤ → Bool → Summary
made places transitions arcs rows cycles siphons greatest commoner = record {
  places = places;
  transitions = transitions;
  arcs = arcs;
  place_semiflows = rows;
  transition_semiflows = cycles;
  siphons = siphons;
  greatest_bound = greatest;
  commoner = commoner;
}

pub one_summary : (net : Net) (arcs : ℕ) (one other : Summary) → IsSummary net arcs one → IsSummary net arcs other → one ≡ other
one_summary net arcs one other is also =
    let rows = one_count _ one.place_semiflows other.place_semiflows is.of_places also.of_places in
    let cycles = one_count _ one.transition_semiflows other.transition_semiflows is.of_transitions also.of_transitions in
    let siphons = one_siphon_count net one.siphons other.siphons is.siphons also.siphons in
    let greatest : one.greatest_bound ≡ other.greatest_bound =
    is.greatest.2 ∙ ap pos (one_greatest net is.greatest.0 also.greatest.0 is.greatest.1 also.greatest.1) ∙ sym also.greatest.2 in
    let commoner = same_answer one.commoner other.commoner (MeetsCommoner net) is.commoner also.commoner in
    ap (λ (n : ℕ). made n one.transitions one.arcs one.place_semiflows one.transition_semiflows one.siphons one.greatest_bound one.commoner) (is.places ∙ sym also.places)
    ∙ ap (λ (n : ℕ). made other.places n one.arcs one.place_semiflows one.transition_semiflows one.siphons one.greatest_bound one.commoner) (is.transitions ∙ sym also.transitions)
    ∙ ap (λ (n : ℕ). made other.places other.transitions n one.place_semiflows one.transition_semiflows one.siphons one.greatest_bound one.commoner) (is.arcs_are ∙ sym also.arcs_are)
    ∙ ap (λ (n : ℕ). made other.places other.transitions other.arcs n one.transition_semiflows one.siphons one.greatest_bound one.commoner) rows
    ∙ ap (λ (n : ℕ). made other.places other.transitions other.arcs other.place_semiflows n one.siphons one.greatest_bound one.commoner) cycles
    ∙ ap (λ (n : ℕ). made other.places other.transitions other.arcs other.place_semiflows other.transition_semiflows n one.greatest_bound one.commoner) siphons
    ∙ ap (λ (z : ℤ). made other.places other.transitions other.arcs other.place_semiflows other.transition_semiflows other.siphons z one.commoner) greatest
    ∙ ap (λ (b : Bool). made other.places other.transitions other.arcs other.place_semiflows other.transition_semiflows other.siphons other.greatest_bound b) commoner
