-- A set is a siphon exactly where each of its places is fed: each transition that gives to the place has an
-- input place in the set.
use Rattle.std.proofs.Common.{◌≡◌, ◌∙◌, subst, ℕ, ◌<◌, List, Bool, false, IsTrue, length, get_or, All}
use Rattle.std.proofs.lemmas.Bool.{both_ways}
use Rattle.std.proofs.lemmas.List.{get_or_default}
use Rattle.std.proofs.lemmas.List.Elements.{Contains-get_or}
use Rattle.net_values.specs.Net.{Net}
use Rattle.net_values.specs.PlaceArcs.{ListsPositive}
use Rattle.closed_sets.specs.ClosedSets.{has_input_in, IsFed, IsSiphon}
use Rattle.closed_sets.proofs.Below.{pair_at, pair_from}

pub fed_not : (net : Net) (S : ℕ → Bool) (p i : ℕ) (ts : List ℕ) → ListsPositive (λ t. net.post p t) ts → All (λ t. t < net.transitions) ts → i < length ts → has_input_in net S (get_or ts i 0) ≡ false → IsFed net S p → ⊥
fed_not net S p i ts listed below within none fed =
    both_ways _ none (fed (get_or ts i 0) (below i 0 within) ((listed.members (get_or ts i 0)).0 (Contains-get_or ts i 0 within)))

pub fed_all : (net : Net) (S : ℕ → Bool) (p : ℕ) (ts : List ℕ) → ListsPositive (λ t. net.post p t) ts → ((k : ℕ) → k < length ts → IsTrue (has_input_in net S (get_or ts k 0))) → IsFed net S p
fed_all net S p ts listed takes t below gives =
    let there = (listed.members t).1 gives in
    subst (λ (u : ℕ). IsTrue (has_input_in net S u)) (get_or_default ts there.0 0 t there.1 ∙ there.2) (takes there.0 there.1)

pub siphon_from_fed : (net : Net) (S : ℕ → Bool) → ((p : ℕ) → p < net.places → IsTrue (S p) → IsFed net S p) → IsSiphon net S
siphon_from_fed net S fed t below gives =
    let at = pair_from net.places S (λ p. net.post p t) gives in
    fed at.0 at.1 at.2 t below at.3

pub fed_from_siphon : (net : Net) (S : ℕ → Bool) (p : ℕ) → IsSiphon net S → p < net.places → IsTrue (S p) → IsFed net S p
fed_from_siphon net S p siphon here member t below gives = siphon t below (pair_at net.places S (λ q. net.post q t) p here member gives)
