-- A net with its ids, as lists: the places and the transitions in order, and the number of arcs that
-- were added. The net itself is read off by `net_of`.
use Rattle.std.specs.Prelude.{◌≡◌, ◌↔◌, ℕ, ◌+◌, ◌-◌, ◌*◌, ◌^◌, ◌<◌, ◌≤◌, ◌==◌, ◌&&◌, if◌then◌else◌, List, [], ◌∷◌, ◌++◌, length, map, Contains, slice_index_or}
use Rattle.net_values.specs.declared.limits.TheConstants.{MAX_PLACES, MAX_TRANSITIONS, MAX_ARCS}
use Rattle.net_values.specs.declared.flat_net.FlatPlace.{FlatPlace}
use Rattle.net_values.specs.declared.flat_net.FlatTransition.{FlatTransition}
use Rattle.net_values.specs.Columns.{weight_at}
use Rattle.net_values.specs.Net.{Net}
use Rattle.net_values.specs.PlaceArcs.{ArcLists, arcs_at}

pub record NetLists : Type 0 where
  pub places : List FlatPlace
  pub transitions : List FlatTransition
  pub arcs : ℕ

abbrev pub place_at : NetLists → ℕ → FlatPlace
place_at lists p = slice_index_or lists.places p record { id = []; initial = 0 }

abbrev pub transition_at : NetLists → ℕ → FlatTransition
transition_at lists t = slice_index_or lists.transitions t record { id = []; inputs = []; outputs = [] }

abbrev pub place_ids : NetLists → List (List ℕ)
place_ids lists = map (λ place. place.id) lists.places

abbrev pub transition_ids : NetLists → List (List ℕ)
transition_ids lists = map (λ transition. transition.id) lists.transitions

-- the net: the weight between a place and a transition is the sum of the arcs that join them
abbrev pub net_of : NetLists → Net
net_of lists = record {
  places = length lists.places;
  transitions = length lists.transitions;
  pre = λ p t. weight_at (transition_at lists t).inputs p;
  post = λ p t. weight_at (transition_at lists t).outputs p;
  initial = λ p. (place_at lists p).initial;
}

-- the initial marking as a list
abbrev pub initial_marking : NetLists → List ℕ
initial_marking lists = map (λ place. place.initial) lists.places

-- the lists with a place more, and with a transition without arcs more
abbrev pub with_place : NetLists → List ℕ → ℕ → NetLists
with_place lists id initial = record lists { places = lists.places ++ record { id = id; initial = initial } ∷ [] }

abbrev pub with_transition : NetLists → List ℕ → NetLists
with_transition lists id =
    record lists { transitions = lists.transitions ++ record { id = id; inputs = []; outputs = [] } ∷ [] }

-- positive at places only, and at most the sum of this many arcs of weight 2^64 - 1
pub record AreWeights (places arcs : ℕ) (weights : ℕ → ℕ → ℕ) : Type 0 where
  pub within : (p t : ℕ) → 0 < weights p t → p < places
  pub narrow : (p t : ℕ) → weights p t ≤ arcs * (2 ^ 64 - 1)

-- at most MAX_PLACES places, MAX_TRANSITIONS transitions and MAX_ARCS arcs, so that no weight exceeds 2^80
pub record IsFlatNet (lists : NetLists) : Type 0 where
  pub places : length lists.places ≤ MAX_PLACES
  pub transitions : length lists.transitions ≤ MAX_TRANSITIONS
  pub arcs : lists.arcs ≤ MAX_ARCS
  pub pre : AreWeights (length lists.places) lists.arcs (net_of lists).pre
  pub post : AreWeights (length lists.places) lists.arcs (net_of lists).post

-- each place has its list of the transitions that take from it, and of those that give to it
pub record ListArcs (lists : NetLists) (by_place : List ArcLists) : Type 0 where
  pub count : length by_place ≡ length lists.places
  pub takers : (p t : ℕ) → (Contains (arcs_at by_place p).takers t) ↔ (0 < (net_of lists).pre p t)
  pub givers : (p t : ℕ) → (Contains (arcs_at by_place p).givers t) ↔ (0 < (net_of lists).post p t)

-- the arcs are kept by transition, and by place too
pub record IsKeptTwice (lists : NetLists) (by_place : List ArcLists) : Type 0 where
  pub net : IsFlatNet lists
  pub arcs : ListArcs lists by_place

-- one weight is raised, and the others stay
abbrev pub Adds : (ℕ → ℕ → ℕ) → (ℕ → ℕ → ℕ) → ℕ → ℕ → ℕ → Type 0
Adds old new p t weight = (q u : ℕ) → new q u ≡ old q u + (if q == p && u == t then weight else 0)

-- all weights stay
abbrev pub Keeps : (ℕ → ℕ → ℕ) → (ℕ → ℕ → ℕ) → Type 0
Keeps old new = (q u : ℕ) → new q u ≡ old q u

-- the places with their ids and markings stay, and so do the transitions with their ids
pub record KeepsNodes (old new : NetLists) : Type 0 where
  pub places : new.places ≡ old.places
  pub transitions : transition_ids new ≡ transition_ids old

-- an arc from place p to transition t was added
pub record AddsInput (old new : NetLists) (p t weight : ℕ) : Type 0 where
  pub pre : Adds (net_of old).pre (net_of new).pre p t weight
  pub post : Keeps (net_of old).post (net_of new).post
  pub nodes : KeepsNodes old new
  pub arcs : new.arcs ≡ old.arcs + 1

-- an arc from transition t to place p was added
pub record AddsOutput (old new : NetLists) (t p weight : ℕ) : Type 0 where
  pub pre : Keeps (net_of old).pre (net_of new).pre
  pub post : Adds (net_of old).post (net_of new).post p t weight
  pub nodes : KeepsNodes old new
  pub arcs : new.arcs ≡ old.arcs + 1

-- the transition with its inputs and its outputs exchanged
abbrev pub turned : FlatTransition → FlatTransition
turned transition = record { id = transition.id; inputs = transition.outputs; outputs = transition.inputs }
