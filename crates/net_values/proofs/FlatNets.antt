-- What a change of the lists does to the net. A transition without arcs has weight 0 everywhere, as has
-- one that isn't there; an arc more changes one column.
use Rattle.std.proofs.Common.{◌≡◌, refl, sym, ap, ◌∙◌, subst, ℕ, zero, suc, ◌+◌, ◌^◌, ◌<◌, ◌≤◌, ◌==◌, ◌&&◌, if◌then◌else◌, List, [], ◌∷◌, ◌++◌, length, map, take, All, get_or, set, slice_index, inl, inr, arith}
use Rattle.std.proofs.lemmas.Bool.{cases_eq, cases_lt}
use Rattle.std.proofs.lemmas.Bool.Decides.{nat_tests}
use Rattle.std.proofs.lemmas.List.{get_or-set_same, get_or-set_other, map-set, set-get_or, get_or-map, get_or_read, get_or_append_left, get_or_past, get_or_push, length-map, length_push, take_more}
use Rattle.net_values.specs.declared.limits.TheConstants.{MAX_ARCS}
use Rattle.net_values.specs.declared.column.WeightedPlace.{WeightedPlace}
use Rattle.net_values.specs.declared.flat_net.FlatPlace.{FlatPlace}
use Rattle.net_values.specs.declared.flat_net.FlatTransition.{FlatTransition}
use Rattle.net_values.specs.Columns.{weight_at, AddsAt, IsColumn, Lists}
use Rattle.net_values.proofs.Columns.{weight_here, lists_itself}
use Rattle.net_values.specs.Net.{reversed}
use Rattle.net_values.specs.FlatNets.{turned, with_place, with_transition, initial_marking, net_of, NetLists, AreWeights, IsFlatNet, Adds, Keeps, KeepsNodes, AddsInput, AddsOutput}

pub few_tokens : {places arcs : ℕ} {weights : ℕ → ℕ → ℕ} → AreWeights places arcs weights → arcs ≤ MAX_ARCS → (p t : ℕ) → weights p t < 2 ^ 80
few_tokens h few p t = omega (arith, h.narrow p t)

abbrev bare : List ℕ → FlatTransition
bare id = record { id = id; inputs = []; outputs = [] }

-- weights that stay are within the bounds as before
still_weights : {places arcs : ℕ} {old new : ℕ → ℕ → ℕ} → AreWeights places arcs old → Keeps old new → AreWeights places arcs new
still_weights h keeps = record {
  within = λ p t some. h.within p t (omega (arith, keeps p t));
  narrow = λ p t. omega (arith, h.narrow p t, keeps p t);
}

abbrev pub inputs_of : FlatTransition → List WeightedPlace
inputs_of transition = transition.inputs

abbrev pub outputs_of : FlatTransition → List WeightedPlace
outputs_of transition = transition.outputs

module _ (side : FlatTransition → List WeightedPlace) where
  abbrev weights : List FlatTransition → ℕ → ℕ → ℕ
  weights transitions p t = weight_at (side (get_or transitions t (bare []))) p

  -- the weights of a transition that was read
  pub read_narrow : (places arcs : ℕ) (transitions : List FlatTransition) (t p : ℕ) (transition : FlatTransition) → AreWeights places arcs (weights transitions) → arcs ≤ MAX_ARCS → t < length transitions → transition ≡ get_or transitions t transition → weight_at (side transition) p < 2 ^ 80
  read_narrow places arcs transitions t p transition h few within read =
      let same : transition ≡ get_or transitions t (bare []) = get_or_read transitions t transition within read (bare []) in
      rw same (few_tokens h few p t)

  -- a transition that was read has room for the weight of an arc more
  pub room_for_arc : (places arcs : ℕ) (transitions : List FlatTransition) (t p : ℕ) (transition : FlatTransition) (weight : ℕ) → AreWeights places arcs (weights transitions) → arcs ≤ MAX_ARCS → t < length transitions → transition ≡ get_or transitions t transition → weight < 2 ^ 64 → weight_at (side transition) p + weight < 2 ^ 128
  room_for_arc places arcs transitions t p transition weight h few within read fits =
      omega (arith, read_narrow places arcs transitions t p transition h few within read)

  adds_here : (transitions : List FlatTransition) (t p weight : ℕ) (old new : FlatTransition) → t < length transitions → old ≡ get_or transitions t old → AddsAt (side old) (side new) p weight → (q : ℕ) → weights (set transitions t new) q t ≡ weights transitions q t + (if q == p && t == t then weight else 0)
  adds_here transitions t p weight old new within read adds q =
      let before : old ≡ get_or transitions t (bare []) = get_or_read transitions t old within read (bare []) in
      let after : get_or (set transitions t new) t (bare []) ≡ new = get_or-set_same transitions t new (bare []) within in
      rw (after, ← before) (adds q ∙ grind (arith, nat_tests))

  pub adds_one : (transitions : List FlatTransition) (t p weight : ℕ) (old new : FlatTransition) → t < length transitions → old ≡ get_or transitions t old → AddsAt (side old) (side new) p weight → Adds (weights transitions) (weights (set transitions t new)) p t weight
  adds_one transitions t p weight old new within read adds q u =
      elim (cases_eq u t) [
        | inl same ↦ subst (λ v. weights (set transitions t new) q v ≡ weights transitions q v + (if q == p && v == t then weight else 0)) (sym same) (adds_here transitions t p weight old new within read adds q)
        | inr other ↦ rw (get_or-set_other transitions t u new (bare []) other) (grind (arith, nat_tests))
      ]

  pub keeps_all : (transitions : List FlatTransition) (t : ℕ) (old new : FlatTransition) → t < length transitions → old ≡ get_or transitions t old → side new ≡ side old → Keeps (weights transitions) (weights (set transitions t new))
  keeps_all transitions t old new within read same q u =
      elim (cases_eq u t) [
        | inl here ↦
            let before : old ≡ get_or transitions t (bare []) = get_or_read transitions t old within read (bare []) in
            let after : get_or (set transitions t new) t (bare []) ≡ new = get_or-set_same transitions t new (bare []) within in
            rw (here, after, ← before) (ap (λ column. weight_at column q) same)
        | inr other ↦ ap (λ transition. weight_at (side transition) q) (get_or-set_other transitions t u new (bare []) other)
      ]

  -- a transition without arcs has the weights that it had before it was there
  pub keeps_bare : (transitions : List FlatTransition) (new : FlatTransition) → side new ≡ side (bare []) → Keeps (weights transitions) (weights (transitions ++ new ∷ []))
  keeps_bare transitions new without q u =
      elim (cases_lt u (length transitions)) [
        | inl before ↦ ap (λ (transition : FlatTransition). weight_at (side transition) q) (get_or_append_left transitions (new ∷ []) (bare []) u before)
        | inr from ↦
            let past : get_or transitions u (bare []) ≡ bare [] = get_or_past transitions u (bare []) from in
            rw past
            (elim (cases_eq (length transitions) u) [
              | inl here ↦ ap (λ (transition : FlatTransition). weight_at (side transition) q) (get_or_push transitions new (bare []) u here) ∙ ap (λ (column : List WeightedPlace). weight_at column q) without
              | inr after ↦ ap (λ (transition : FlatTransition). weight_at (side transition) q) (get_or_past (transitions ++ new ∷ []) u (bare []) (omega (arith, length_push transitions new)))
            ])
      ]

  -- the entries of a column that was read are the weights of its transition
  pub read_entries : (places arcs : ℕ) (transitions : List FlatTransition) (t : ℕ) (transition : FlatTransition) (column : List WeightedPlace) → AreWeights places arcs (weights transitions) → arcs ≤ MAX_ARCS → t < length transitions → transition ≡ get_or transitions t transition → column ≡ side transition → IsColumn column → Lists places (λ p. weights transitions p t) column × All (λ entry. entry.weight < 2 ^ 80) column
  read_entries places arcs transitions t transition column h few within read is kept =
      let same : column ≡ side (get_or transitions t (bare [])) = is ∙ ap side (get_or_read transitions t transition within read (bare [])) in
      let weighs : (p : ℕ) → weight_at column p ≡ weights transitions p t = λ p. ap (λ (entries : List WeightedPlace). weight_at entries p) same in (
        subst (λ (entries : List WeightedPlace). Lists places (λ p. weight_at entries p) column) same (lists_itself places column kept (λ p some. h.within p t (omega (arith, weighs p)))),
        λ k d here.
            let place : ℕ = (get_or column k d).place in
            omega (arith, weight_here column k d kept here, weighs place, few_tokens h few place t),
      )

-- a transition that isn't there has no arcs
pub weighs_within : (side : FlatTransition → List WeightedPlace) (transitions : List FlatTransition) (p t : ℕ) → side (bare []) ≡ [] → 0 < weight_at (side (get_or transitions t (bare []))) p → t < length transitions
weighs_within side transitions p t without some =
    elim (cases_lt t (length transitions)) [
      | inl within ↦ within
      | inr past ↦
          let nothing : weight_at (side (get_or transitions t (bare []))) p ≡ 0 =
          ap (λ (transition : FlatTransition). weight_at (side transition) p) (get_or_past transitions t (bare []) past) ∙ ap (λ (column : List WeightedPlace). weight_at column p) without in
          absurd (omega arith)
    ]

ids_kept : (transitions : List FlatTransition) (t : ℕ) (old new : FlatTransition) → t < length transitions → old ≡ get_or transitions t old → new.id ≡ old.id → map (λ (transition : FlatTransition). transition.id) (set transitions t new) ≡ map (λ (transition : FlatTransition). transition.id) transitions
ids_kept transitions t old new within read same =
    let ids : List (List ℕ) = map (λ (transition : FlatTransition). transition.id) transitions in
    let id_at : get_or ids t [] ≡ new.id =
    get_or-map (λ (transition : FlatTransition). transition.id) transitions t old [] within ∙ ap (λ (transition : FlatTransition). transition.id) (sym read) ∙ sym same in
    map-set (λ (transition : FlatTransition). transition.id) transitions t new ∙ rw (← id_at) (set-get_or ids t [])

pub input_added : (lists : NetLists) (p t weight : ℕ) (old : FlatTransition) (column : List WeightedPlace) → t < length lists.transitions → old ≡ get_or lists.transitions t old → AddsAt old.inputs column p weight → AddsInput lists record { places = lists.places; transitions = set lists.transitions t record { id = old.id; inputs = column; outputs = old.outputs }; arcs = lists.arcs + 1 } p t weight
input_added lists p t weight old column within read adds =
    let new : FlatTransition = record { id = old.id; inputs = column; outputs = old.outputs } in
    record {
      pre = adds_one inputs_of lists.transitions t p weight old new within read adds;
      post = keeps_all outputs_of lists.transitions t old new within read refl;
      nodes = record { places = refl; transitions = ids_kept lists.transitions t old new within read refl };
      arcs = refl;
    }

pub output_added : (lists : NetLists) (t p weight : ℕ) (old : FlatTransition) (column : List WeightedPlace) → t < length lists.transitions → old ≡ get_or lists.transitions t old → AddsAt old.outputs column p weight → AddsOutput lists record { places = lists.places; transitions = set lists.transitions t record { id = old.id; inputs = old.inputs; outputs = column }; arcs = lists.arcs + 1 } t p weight
output_added lists t p weight old column within read adds =
    let new : FlatTransition = record { id = old.id; inputs = old.inputs; outputs = column } in
    record {
      pre = keeps_all inputs_of lists.transitions t old new within read refl;
      post = adds_one outputs_of lists.transitions t p weight old new within read adds;
      nodes = record { places = refl; transitions = ids_kept lists.transitions t old new within read refl };
      arcs = refl;
    }

turned_at : (transitions : List FlatTransition) (u : ℕ) → get_or (map turned transitions) u (bare []) ≡ turned (get_or transitions u (bare []))
turned_at [] u = refl
turned_at (transition ∷ transitions) zero = refl
turned_at (transition ∷ transitions) (suc u) = turned_at transitions u

turned_ids : (transitions : List FlatTransition) → map (λ (transition : FlatTransition). transition.id) (map turned transitions) ≡ map (λ (transition : FlatTransition). transition.id) transitions
turned_ids [] = refl
turned_ids (transition ∷ transitions) = ap (λ ids. transition.id ∷ ids) (turned_ids transitions)

abbrev pub turned_lists : NetLists → NetLists
turned_lists lists = record { places = lists.places; transitions = map turned lists.transitions; arcs = lists.arcs }

pub turned_weights : (lists : NetLists) → Keeps (net_of lists).post (net_of (turned_lists lists)).pre × Keeps (net_of lists).pre (net_of (turned_lists lists)).post
turned_weights lists = (
  λ q u. ap (λ (transition : FlatTransition). weight_at transition.inputs q) (turned_at lists.transitions u),
  λ q u. ap (λ (transition : FlatTransition). weight_at transition.outputs q) (turned_at lists.transitions u),
)

pub turned_is_reversed : (lists : NetLists) → net_of (turned_lists lists) ≡ reversed (net_of lists)
turned_is_reversed lists = λ i. record {
  places = length lists.places;
  transitions = length-map lists.transitions turned i;
  pre = λ q u. (turned_weights lists).0 q u i;
  post = λ q u. (turned_weights lists).1 q u i;
  initial = (net_of lists).initial;
}

pub turned_net : (lists : NetLists) → IsFlatNet lists → IsFlatNet (turned_lists lists)
turned_net lists h = record {
  places = h.places;
  transitions = omega (arith, h.transitions, length-map lists.transitions turned);
  arcs = h.arcs;
  pre = still_weights h.post (turned_weights lists).0;
  post = still_weights h.pre (turned_weights lists).1;
}

pub turned_nodes : (lists : NetLists) → KeepsNodes lists (turned_lists lists)
turned_nodes lists = record { places = refl; transitions = turned_ids lists.transitions }

marked_at : (places : List FlatPlace) (p : ℕ) → get_or (map (λ (place : FlatPlace). place.initial) places) p 0 ≡ (get_or places p record { id = []; initial = 0 }).initial
marked_at [] p = refl
marked_at (place ∷ places) zero = refl
marked_at (place ∷ places) (suc p) = marked_at places p

-- the initial marking as a list is that of the net
pub initial_at : (lists : NetLists) (p : ℕ) → slice_index (initial_marking lists) p ≡ (net_of lists).initial p
initial_at lists p = marked_at lists.places p

-- the initial marking of one place more
pub initial_more : (lists : NetLists) (p : ℕ) (counts more : List ℕ) (tokens : ℕ) → p < length lists.places → counts ≡ take p (initial_marking lists) → tokens ≡ (net_of lists).initial p → more ≡ counts ++ tokens ∷ [] → more ≡ take (p + 1) (initial_marking lists)
initial_more lists p counts more tokens within so_far read pushed =
    let marked = initial_at lists p in
    let next : take (p + 1) (initial_marking lists) ≡ take p (initial_marking lists) ++ get_or (initial_marking lists) p 0 ∷ [] =
    take_more (initial_marking lists) p 0 (omega (arith, length-map lists.places (λ (place : FlatPlace). place.initial))) in
    cc

-- what a place or a transition more leaves of the weights
pub place_keeps : (lists : NetLists) (id : List ℕ) (initial : ℕ) → Keeps (net_of lists).pre (net_of (with_place lists id initial)).pre × Keeps (net_of lists).post (net_of (with_place lists id initial)).post
place_keeps lists id initial = (λ q u. refl, λ q u. refl)

pub transition_keeps : (lists : NetLists) (id : List ℕ) → Keeps (net_of lists).pre (net_of (with_transition lists id)).pre × Keeps (net_of lists).post (net_of (with_transition lists id)).post
transition_keeps lists id = (
  keeps_bare inputs_of lists.transitions (bare id) refl,
  keeps_bare outputs_of lists.transitions (bare id) refl,
)
