-- Each net of a valued document fits the limits, and the flat net of the chosen number is kept from its net on.
use Rattle.std.proofs.Common.{◌≡◌, subst, slice_get, ℕ, suc, ◌+◌, ◌≤◌, Bool, List, [], ◌∷◌, Option, Some, None, count_by, cond, arith}
use Rattle.std.proofs.lemmas.List.Sums.{sum_by-append}
use Rattle.std.specs.List.{AllByRecursion}
use Rattle.net_values.specs.declared.document.Document.{Document}
use Rattle.net_values.specs.declared.document.NetTree.{NetTree}
use Rattle.net_values.specs.declared.document.Item.{Item}
use Rattle.net_values.specs.declared.limits.TheConstants.{MAX_PLACES, MAX_TRANSITIONS, MAX_ARCS}
use Rattle.net_values.specs.FlatNets.{NetLists}
use Rattle.net_values.specs.Items.{all_items, is_place, is_transition, is_arc}
use Rattle.pnml_grammar.specs.Valued.{Valued, IsValuedNet}
use Rattle.page_flatten.specs.Flat.{Flat, FlatOf}
use Rattle.page_flatten.specs.Passes.{FitsLimits, IsFlatAt}

-- ---- the limits

counted_apart : (is : Item → Bool) (net : NetTree) (nets : List NetTree) → count_by is (all_items (net ∷ nets)) ≡ count_by is net.items + count_by is (all_items nets)
counted_apart is net nets = sum_by-append (λ item. cond (is item) 1 0) net.items (all_items nets)

fits_each : (nets : List NetTree) → AllByRecursion IsValuedNet nets → count_by is_place (all_items nets) ≤ MAX_PLACES → count_by is_transition (all_items nets) ≤ MAX_TRANSITIONS → count_by is_arc (all_items nets) ≤ MAX_ARCS → AllByRecursion FitsLimits nets
fits_each [] valued places transitions arcs = tt
fits_each (net ∷ nets) valued places transitions arcs =
    let p = counted_apart is_place net nets in
    let t = counted_apart is_transition net nets in
    let a = counted_apart is_arc net nets in (
      record {
        places = omega (arith, p, places);
        transitions = omega (arith, t, transitions);
        arcs = omega (arith, a, arcs);
        values = valued.0.items;
      },
      fits_each nets valued.1 (omega (arith, p, places)) (omega (arith, t, transitions)) (omega (arith, a, arcs)),
    )

pub fits_limits : (document : Document) → Valued document → AllByRecursion FitsLimits document.nets
fits_limits document valued = fits_each document.nets valued.nets valued.limits.places valued.limits.transitions valued.limits.arcs

-- ---- the chosen net

-- after k nets
abbrev pub IsChosenUpTo : List NetTree → ℕ → ℕ → Option NetLists → Type 0
IsChosenUpTo nets number k None = k ≤ number
IsChosenUpTo nets number k (Some net) = IsFlatAt nets number net

pub flat_of_document : (document : Document) (number k : ℕ) (net : NetLists) → k ≡ suc number → IsFlatAt document.nets number net → Flat document k net
flat_of_document document number k net same is = rw same record { tree = is.tree; chosen = is.occurs; flat = is.flat }

pub chosen_here : (nets : List NetTree) (number k : ℕ) (tree : NetTree) (net : NetLists) (chosen : Option NetLists) → k ≡ number → slice_get nets k ≡ Some tree → FlatOf tree net → chosen ≡ Some net → IsChosenUpTo nets number (k + 1) chosen
chosen_here nets number k tree net chosen here at flat is =
    rw is record { tree = tree; occurs = subst (λ n. slice_get nets n ≡ Some tree) here at; flat = flat }

pub chosen_elsewhere : (nets : List NetTree) (number k : ℕ) (chosen now : Option NetLists) → (k ≡ number → ⊥) → IsChosenUpTo nets number k chosen → now ≡ chosen → IsChosenUpTo nets number (k + 1) now
chosen_elsewhere nets number k None now other before is = rw is (omega (arith, before, other))
chosen_elsewhere nets number k (Some net) now other before is = rw is before
