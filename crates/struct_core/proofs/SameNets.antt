-- Flat nets of one document have the same places, transitions and weights. So they are one net, and their
-- nodes have the same ids.
use Rattle.std.proofs.Common.{◌≡◌, ℕ, List, [], sym, ap, ◌∙◌, length, map}
use Rattle.std.specs.Prelude.{slice_index_or}
use Rattle.std.proofs.Math.ListN.{get_or-map}
use Rattle.std.proofs.lemmas.List.{length-map}
use mathlib.Core.Path.{fun_ext}
use Rattle.net_values.specs.declared.flat_net.FlatPlace.{FlatPlace}
use Rattle.net_values.specs.declared.flat_net.FlatTransition.{FlatTransition}
use Rattle.net_values.specs.FlatNets.{NetLists, net_of}
use Rattle.net_values.specs.Net.{Net}
use Rattle.page_flatten.specs.Laws.{IsSameNet}
use Rattle.net_values.specs.Nodes.{place_id, transition_id}

-- a net by its parts
abbrev made : List FlatPlace → ℕ → (ℕ → ℕ → ℕ) → (ℕ → ℕ → ℕ) → Net
made places transitions pre post = record {
  places = length places;
  transitions = transitions;
  pre = pre;
  post = post;
  initial = λ p. (slice_index_or places p record { id = []; initial = 0 }).initial;
}

same_weights : (one other : ℕ → ℕ → ℕ) → ((p t : ℕ) → one p t ≡ other p t) → one ≡ other
same_weights one other each = fun_ext (λ p. fun_ext (λ t. each p t))

same_count : (one other : NetLists) → IsSameNet one other → length one.transitions ≡ length other.transitions
same_count one other same =
    sym (length-map one.transitions (λ (t : FlatTransition). t.id))
    ∙ ap (λ (ids : List (List ℕ)). length ids) same.transitions
    ∙ length-map other.transitions (λ (t : FlatTransition). t.id)

pub same_net : (one other : NetLists) → IsSameNet one other → net_of one ≡ net_of other
same_net one other same =
    ap (λ (ps : List FlatPlace). made ps (length one.transitions) (net_of one).pre (net_of one).post) same.places
    ∙ ap (λ (n : ℕ). made other.places n (net_of one).pre (net_of one).post) (same_count one other same)
    ∙ ap (λ (f : ℕ → ℕ → ℕ). made other.places (length other.transitions) f (net_of one).post) (same_weights _ _ same.pre)
    ∙ ap (λ (f : ℕ → ℕ → ℕ). made other.places (length other.transitions) (net_of other).pre f) (same_weights _ _ same.post)

pub same_place_ids : (one other : NetLists) → IsSameNet one other → place_id one ≡ place_id other
same_place_ids one other same =
    ap (λ (ps : List FlatPlace). λ (p : ℕ). (slice_index_or ps p record { id = []; initial = 0 }).id) same.places

id_at : (ts : List FlatTransition) (t : ℕ)
    → slice_index_or (map (λ (u : FlatTransition). u.id) ts) t [] ≡ (slice_index_or ts t record { id = []; inputs = []; outputs = [] }).id
id_at ts t = get_or-map (λ (u : FlatTransition). u.id) ts t record { id = []; inputs = []; outputs = [] }

pub same_transition_ids : (one other : NetLists) → IsSameNet one other → transition_id one ≡ transition_id other
same_transition_ids one other same =
    fun_ext (λ t. sym (id_at one.transitions t)
    ∙ ap (λ (ids : List (List ℕ)). slice_index_or ids t []) same.transitions
    ∙ id_at other.transitions t)
