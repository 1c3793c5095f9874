-- A net whose arcs join places and transitions has a flat net: each arc is an entry of the inputs or of the
-- outputs of its transition, and the weight of a place there is the sum of its entries.
use Rattle.std.proofs.Common.{◌≡◌, refl, sym, ap, ◌∙◌, subst, ℕ, zero, suc, ◌+◌, ◌≤◌, ◌==◌, ◌&&◌, if◌then◌else◌, Bool, true, false, List, [], ◌∷◌, ◌++◌, Some, length, map, slice_get, slice_index_or, count_by, sum_by, inl, inr, arith}
use Rattle.std.specs.List.{flat_map, AllByRecursion, AllZip}
use Rattle.std.proofs.lemmas.Bool.{ne_eqb, cases_eq}
use Rattle.std.proofs.lemmas.List.Sums.{sum_by-append, sum_by-cons}
use Rattle.net_values.specs.declared.column.WeightedPlace.{WeightedPlace}
use Rattle.net_values.specs.declared.document.NetTree.{NetTree}
use Rattle.net_values.specs.declared.document.ArcNode.{ArcNode}
use Rattle.net_values.specs.declared.flat_net.FlatTransition.{FlatTransition}
use Rattle.net_values.specs.Columns.{part_at, weight_at}
use Rattle.net_values.specs.FlatNets.{NetLists}
use Rattle.net_values.specs.Items.{is_arc}
use Rattle.page_flatten.specs.declared.links.End.{End}
use Rattle.page_flatten.specs.declared.links.End.TheVariants.{AtPlace, AtTransition}
use Rattle.page_flatten.specs.Elements.{Element, Real, elements, arcs}
use Rattle.page_flatten.specs.Chains.{Resolves, to_itself, to_what_it_names}
use Rattle.page_flatten.specs.Rules.{JoinsArcs, JoinsPlaceAndTransition}
use Rattle.page_flatten.specs.Flat.{FlatOf, FlatArc, IsResolved, flat_places, flat_transitions, same_end, weight_between}
use Rattle.page_flatten.specs.Tables.{IsEndWithin}
use Rattle.page_flatten.proofs.ArcLaws.{either_order}
use Rattle.page_flatten.proofs.WholeLaws.{counted_in, within_more}

-- a weight as an entry of a column, where it belongs there
abbrev entry_if : Bool → ℕ → ℕ → List WeightedPlace
entry_if true p weight = record { place = p; weight = weight } ∷ []
entry_if false p weight = []

-- a weight between two ends as an entry of the column of transition t
abbrev entry_of : End → End → ℕ → ℕ → List WeightedPlace
entry_of (AtPlace p) (AtTransition u) weight t = entry_if (t == u) p weight
entry_of (AtPlace p) (AtPlace q) weight t = []
entry_of (AtTransition u) end weight t = []

no_weight : (b : Bool) (weight : ℕ) → 0 ≡ (if b && false then weight else 0)
no_weight true weight = refl
no_weight false weight = refl

and_true : (b : Bool) (weight : ℕ) → (if b then weight else 0) ≡ (if b && true then weight else 0)
and_true true weight = refl
and_true false weight = refl

same_turned : (a b : ℕ) → (a == b) ≡ (b == a)
same_turned a b = elim (cases_eq a b) [
  | inl same ↦ subst (λ c. (a == c) ≡ (c == a)) same refl
  | inr other ↦ ne_eqb a b other ∙ sym (ne_eqb b a (λ e. other (sym e)))
]

first_term : (n : ℕ) → 0 + n ≡ n
first_term n = omega arith

entry_if_weight : (b : Bool) (q weight p : ℕ) → weight_at (entry_if b q weight) p ≡ (if (p == q) && b then weight else 0)
entry_if_weight true q weight p = first_term _ ∙ ap (λ b. if b then weight else 0) (same_turned q p) ∙ and_true (p == q) weight
entry_if_weight false q weight p = no_weight (p == q) weight

entry_weight : (a b : End) (weight t p : ℕ) → weight_at (entry_of a b weight t) p ≡ (if same_end (AtPlace p) a && same_end (AtTransition t) b then weight else 0)
entry_weight (AtPlace q) (AtTransition u) weight t p = entry_if_weight (t == u) q weight p
entry_weight (AtPlace q) (AtPlace r) weight t p = entry_if_weight false q weight p
entry_weight (AtTransition u) end weight t p = refl

-- a transition beyond the net has no entries
entry_beyond : (places transitions : ℕ) (a b : End) (weight t : ℕ) → IsEndWithin places transitions b → transitions ≤ t → entry_of a b weight t ≡ []
entry_beyond places transitions (AtPlace p) (AtTransition u) weight t within beyond =
    ap (λ here. entry_if here p weight) (ne_eqb t u (λ e. omega arith))
entry_beyond places transitions (AtPlace p) (AtPlace q) weight t within beyond = refl
entry_beyond places transitions (AtTransition u) end weight t within beyond = refl

-- the weight in a column that is given arc by arc
column_weight : (f : FlatArc → List WeightedPlace) (g : FlatArc → ℕ) (p : ℕ) → ((arc : FlatArc) → weight_at (f arc) p ≡ g arc) → (list : List FlatArc) → weight_at (flat_map f list) p ≡ sum_by g list
column_weight f g p each [] = refl
column_weight f g p each (arc ∷ list) =
    omega (arith, each arc, column_weight f g p each list, sum_by-append (part_at p) (f arc) (flat_map f list), sum_by-cons g arc list)

column_empty : (f : FlatArc → List WeightedPlace) (list : List FlatArc) → AllByRecursion (λ arc. f arc ≡ []) list → flat_map f list ≡ []
column_empty f [] all = refl
column_empty f (arc ∷ list) all = (λ i. all.0 i ++ flat_map f list) ∙ column_empty f list all.1

abbrev none_at_all : FlatTransition
none_at_all = record { id = []; inputs = []; outputs = [] }

module _ (list : List FlatArc) where
  abbrev inputs_of : ℕ → List WeightedPlace
  inputs_of t = flat_map (λ arc. entry_of arc.source arc.target arc.weight t) list

  abbrev outputs_of : ℕ → List WeightedPlace
  outputs_of t = flat_map (λ arc. entry_of arc.target arc.source arc.weight t) list

  abbrev transitions_from : List (List ℕ) → ℕ → List FlatTransition
  transitions_from [] t = []
  transitions_from (id ∷ ids) t = record { id = id; inputs = inputs_of t; outputs = outputs_of t } ∷ transitions_from ids (t + 1)

  ids_kept : (ids : List (List ℕ)) (t : ℕ) → map (λ (transition : FlatTransition). transition.id) (transitions_from ids t) ≡ ids
  ids_kept [] t = refl
  ids_kept (id ∷ ids) t = ap (λ l. id ∷ l) (ids_kept ids (t + 1))

  -- the columns of the transition at a number, where those beyond have none
  columns_at : (ids : List (List ℕ)) (from t : ℕ) → ((u : ℕ) → from + length ids ≤ u → (inputs_of u ≡ []) × (outputs_of u ≡ []))
      → ((slice_index_or (transitions_from ids from) t none_at_all).inputs ≡ inputs_of (from + t)) × ((slice_index_or (transitions_from ids from) t none_at_all).outputs ≡ outputs_of (from + t))
  columns_at [] from t beyond = let none = beyond (from + t) (omega arith) in (sym none.0, sym none.1)
  columns_at (id ∷ ids) from zero beyond = let here : from ≡ from + 0 = omega arith in (ap inputs_of here, ap outputs_of here)
  columns_at (id ∷ ids) from (suc t) beyond =
      let rest = columns_at ids (from + 1) t (λ u h. beyond u (omega arith)) in
      let there : from + 1 + t ≡ from + suc t = omega arith in
      (rest.0 ∙ ap inputs_of there, rest.1 ∙ ap outputs_of there)

-- what an id resolves to is an element of the net
real_of : (list : List Element) (id : List ℕ) (end : End) → Resolves list id end → (n : ℕ) × (other : List ℕ) × (slice_get list n ≡ Some record { id = other; role = Real end })
real_of list id end (to_itself n _ _ at) = (n, id, at)
real_of list id end (to_what_it_names n _ kind target _ at rest) = real_of list target end rest

module _ (net : NetTree) where
  abbrev IsEndOf : End → Type 0
  IsEndOf end = IsEndWithin (length (flat_map flat_places net.items)) (length (flat_map flat_transitions net.items)) end

  end_of_net : (id : List ℕ) (end : End) → Resolves (elements net) id end → IsEndOf end
  end_of_net id end resolves = let real = real_of (elements net) id end resolves in within_more _ _ _ _ end (omega arith) (omega arith) (counted_in net real.0 real.1 end real.2)

  -- the arcs with their ends resolved
  flat_arcs_of : (list : List ArcNode) → AllByRecursion (JoinsPlaceAndTransition net) list → (flat : List FlatArc) × AllZip (IsResolved (elements net)) list flat × AllByRecursion (λ (arc : FlatArc). IsEndOf arc.source × IsEndOf arc.target) flat
  flat_arcs_of [] all = ([], tt, tt)
  flat_arcs_of (arc ∷ list) all =
      let rest = flat_arcs_of list all.1 in (
        record { source = all.0.source; target = all.0.target; weight = arc.weight } ∷ rest.0,
        (record { source = all.0.source_resolves; target = all.0.target_resolves; weight = refl }, rest.1),
        ((end_of_net arc.source all.0.source all.0.source_resolves, end_of_net arc.target all.0.target all.0.target_resolves), rest.2),
      )

  module _ (list : List FlatArc) (within : AllByRecursion (λ (arc : FlatArc). IsEndOf arc.source × IsEndOf arc.target) list) where
    none_beyond : (t : ℕ) → length (flat_map flat_transitions net.items) ≤ t → (inputs_of list t ≡ []) × (outputs_of list t ≡ [])
    none_beyond t beyond = (column_empty _ list (go_inputs list within), column_empty _ list (go_outputs list within))
      where
        go_inputs : (l : List FlatArc) → AllByRecursion (λ (arc : FlatArc). IsEndOf arc.source × IsEndOf arc.target) l → AllByRecursion (λ (arc : FlatArc). entry_of arc.source arc.target arc.weight t ≡ []) l
        go_inputs [] all = tt
        go_inputs (arc ∷ l) all = (entry_beyond _ _ arc.source arc.target arc.weight t all.0.1 beyond, go_inputs l all.1)

        go_outputs : (l : List FlatArc) → AllByRecursion (λ (arc : FlatArc). IsEndOf arc.source × IsEndOf arc.target) l → AllByRecursion (λ (arc : FlatArc). entry_of arc.target arc.source arc.weight t ≡ []) l
        go_outputs [] all = tt
        go_outputs (arc ∷ l) all = (entry_beyond _ _ arc.target arc.source arc.weight t all.0.0 beyond, go_outputs l all.1)

  -- the columns of the transition at each number
  columns_of : (list : List FlatArc) → AllByRecursion (λ (arc : FlatArc). IsEndOf arc.source × IsEndOf arc.target) list → (t : ℕ)
      → ((slice_index_or (transitions_from list (flat_map flat_transitions net.items) 0) t none_at_all).inputs ≡ inputs_of list t)
      × ((slice_index_or (transitions_from list (flat_map flat_transitions net.items) 0) t none_at_all).outputs ≡ outputs_of list t)
  columns_of list within t =
      let columns = columns_at list (flat_map flat_transitions net.items) 0 t (λ u beyond. none_beyond list within u (omega arith)) in
      (columns.0 ∙ ap (inputs_of list) (first_term t), columns.1 ∙ ap (outputs_of list) (first_term t))

pub some_net : (net : NetTree) → JoinsArcs net → (flat : NetLists) × FlatOf net flat
some_net net joins =
    let found = flat_arcs_of net (flat_map arcs net.items) joins in
    let ids : List (List ℕ) = flat_map flat_transitions net.items in
    let lists : NetLists = record { places = flat_map flat_places net.items; transitions = transitions_from found.0 ids 0; arcs = count_by is_arc net.items } in (
      lists,
      record {
        places = refl;
        transitions = ids_kept found.0 ids 0;
        flat_arcs = found.0;
        resolved = found.1;
        pre = λ p t. ap (λ column. weight_at column p) (columns_of net found.0 found.2 t).0 ∙ column_weight _ (weight_between (AtPlace p) (AtTransition t)) p (λ arc. entry_weight arc.source arc.target arc.weight t p) found.0;
        post = λ p t. ap (λ column. weight_at column p) (columns_of net found.0 found.2 t).1
            ∙ column_weight _ (weight_between (AtTransition t) (AtPlace p)) p
            (λ arc. entry_weight arc.target arc.source arc.weight t p ∙ either_order (same_end (AtPlace p) arc.target) (same_end (AtTransition t) arc.source) arc.weight) found.0;
        count = refl;
      },
    )
