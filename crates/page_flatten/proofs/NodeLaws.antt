-- The places and transitions that were added so far are those of the items so far.
use Rattle.std.proofs.Common.{◌≡◌, refl, sym, ap, ◌∙◌, ℕ, ◌+◌, ◌<◌, ◌≤◌, List, ◌∷◌, ◌++◌, length, drop, get_or, count_by, sum_by, cond, append_assoc, length-append, arith}
use Rattle.std.specs.List.{flat_map}
use Rattle.std.proofs.lemmas.List.{append-nil, drop_all, length-map}
use Rattle.net_values.specs.declared.document.Item.{Item}
use Rattle.net_values.specs.declared.document.Item.TheVariants.{Place, Transition, Arc}
use Rattle.net_values.specs.declared.limits.TheConstants.{MAX_PLACES, MAX_TRANSITIONS}
use Rattle.net_values.specs.FlatNets.{NetLists, transition_ids}
use Rattle.net_values.specs.Items.{is_place, is_transition, is_arc}
use Rattle.std.proofs.lemmas.List.Concat.{length-flat_map}
use Rattle.page_flatten.specs.Elements.{arcs}
use Rattle.page_flatten.specs.Flat.{flat_places, flat_transitions}
use Rattle.page_flatten.specs.Tables.{HasNoArcs, AddsNodes, HasRoomFor}
use Rattle.page_flatten.proofs.Passes.{item_and_rest}

pub record HasNodesOf (items : List Item) (k : ℕ) (net : NetLists) : Type 0 where
  pub places : flat_map flat_places items ≡ net.places ++ flat_map flat_places (drop k items)
  pub transitions : flat_map flat_transitions items ≡ transition_ids net ++ flat_map flat_transitions (drop k items)
  pub bare : HasNoArcs net

-- one more piece of a list that is given piece by piece
piece_more : {X Y : Type 0} (f : X → List Y) (items : List X) (k : ℕ) (item : X) (old new : List Y) → drop k items ≡ item ∷ drop (k + 1) items → flat_map f items ≡ old ++ flat_map f (drop k items) → new ≡ old ++ f item → flat_map f items ≡ new ++ flat_map f (drop (k + 1) items)
piece_more f items k item old new rest split grown =
    split ∙ ap (λ l. old ++ flat_map f l) rest ∙ sym (append_assoc old (f item) (flat_map f (drop (k + 1) items))) ∙ ap (λ l. l ++ flat_map f (drop (k + 1) items)) (sym grown)

pub nodes_more : (items : List Item) (k : ℕ) (item : Item) (old new : NetLists) → k < length items → item ≡ get_or items k item → HasNodesOf items k old → AddsNodes old new item → HasNodesOf items (k + 1) new
nodes_more items k item old new within is before adds =
    let rest = item_and_rest items k item within is in
    record {
      places = piece_more flat_places items k item old.places new.places rest before.places adds.places;
      transitions = piece_more flat_transitions items k item (transition_ids old) (transition_ids new) rest before.transitions adds.transitions;
      bare = adds.arcs before.bare;
    }

pub nodes_all : (items : List Item) (k : ℕ) (net : NetLists) → length items ≤ k → HasNodesOf items k net → (net.places ≡ flat_map flat_places items) × (transition_ids net ≡ flat_map flat_transitions items)
nodes_all items k net all before =
    let none = drop_all k items all in (
      sym (before.places ∙ ap (λ l. net.places ++ flat_map flat_places l) none ∙ append-nil net.places),
      sym (before.transitions ∙ ap (λ l. transition_ids net ++ flat_map flat_transitions l) none ∙ append-nil (transition_ids net)),
    )

-- the items give as many as are counted
place_count : (item : Item) → length (flat_places item) ≡ cond (is_place item) 1 0
place_count (Place node) = refl
place_count _ = refl

transition_count : (item : Item) → length (flat_transitions item) ≡ cond (is_transition item) 1 0
transition_count (Transition node) = refl
transition_count _ = refl

arc_count : (item : Item) → length (arcs item) ≡ cond (is_arc item) 1 0
arc_count (Arc node) = refl
arc_count _ = refl

pub places_counted : (items : List Item) → length (flat_map flat_places items) ≡ count_by is_place items
places_counted items = length-flat_map flat_places items ∙ (λ i. sum_by (λ item. place_count item i) items)

pub transitions_counted : (items : List Item) → length (flat_map flat_transitions items) ≡ count_by is_transition items
transitions_counted items = length-flat_map flat_transitions items ∙ (λ i. sum_by (λ item. transition_count item i) items)

pub arcs_counted : (items : List Item) → length (flat_map arcs items) ≡ count_by is_arc items
arcs_counted items = length-flat_map arcs items ∙ (λ i. sum_by (λ item. arc_count item i) items)

-- what was added so far and the next piece are not more than the whole
piece_fits : {X Y : Type 0} (f : X → List Y) (items : List X) (k : ℕ) (item : X) (old : List Y) → drop k items ≡ item ∷ drop (k + 1) items → flat_map f items ≡ old ++ flat_map f (drop k items) → length old + length (f item) ≤ length (flat_map f items)
piece_fits f items k item old rest split =
    let whole : length (flat_map f items) ≡ length old + (length (f item) + length (flat_map f (drop (k + 1) items))) =
    ap length (split ∙ ap (λ l. old ++ flat_map f l) rest) ∙ length-append old (f item ++ flat_map f (drop (k + 1) items)) ∙ ap (λ n. length old + n) (length-append (f item) (flat_map f (drop (k + 1) items))) in
    omega arith

pub room_for : (items : List Item) (k : ℕ) (item : Item) (net : NetLists) → k < length items → item ≡ get_or items k item → HasNodesOf items k net → count_by is_place items ≤ MAX_PLACES → count_by is_transition items ≤ MAX_TRANSITIONS → HasRoomFor net item
room_for items k item net within is has few_places few_transitions =
    let rest = item_and_rest items k item within is in
    let ids : length (transition_ids net) ≡ length net.transitions = length-map net.transitions (λ transition. transition.id) in
    record {
      places = omega (arith, piece_fits flat_places items k item net.places rest has.places, places_counted items);
      transitions = omega (arith, ids, piece_fits flat_transitions items k item (transition_ids net) rest has.transitions, transitions_counted items);
    }
