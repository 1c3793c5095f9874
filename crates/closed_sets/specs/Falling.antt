-- Places fall out of a set: a transition without an input place in the set takes its output places out, and
-- each place that fell is looked at once for the transitions that it was an input place of. Sets are lists of
-- truth values here, so that their members can be counted.
use Rattle.std.specs.Prelude.{◌≡◌, ◌⊎◌, ℕ, ◌+◌, ◌<◌, ◌≤◌, ◌==◌, ◌&&◌, List, Bool, false, IsTrue, not, length, Contains, slice_index}
use Rattle.std.specs.List.{list_any}
use Rattle.net_values.specs.declared.column.WeightedPlace.{WeightedPlace}
use Rattle.net_values.specs.declared.limits.TheConstants.{MAX_PLACES}
use Rattle.net_values.specs.Net.{Net}
use Rattle.net_values.specs.PlaceSets.{has}
use Rattle.closed_sets.specs.ClosedSets.{IsSiphon, IsWithin, IsGreatestSiphon}
use Rattle.closed_sets.specs.Growth.{is_open}
use Rattle.closed_sets.specs.Passes.{Shrinks, members}
use Rattle.closed_sets.specs.declared.guard.Guard.{Guard}
use Rattle.closed_sets.specs.Guards.{guards}

-- places that are not guarded fell out of the set, and are on the list now
pub record Falls (guard : Guard) (old new : List Bool) (before after : List ℕ) : Type 0 where
  pub size : length new ≡ length old
  pub within : (q : ℕ) → IsTrue (has new q) → IsTrue (has old q)
  pub kept : (q : ℕ) → Contains before q → Contains after q
  pub fallen : (q : ℕ) → IsTrue (has old q) → has new q ≡ false → Contains after q
  pub places : (q : ℕ) → Contains after q → Contains before q ⊎ IsTrue (has old q)
  pub count : length after + members new ≡ length before + members old
  pub guarded : (q : ℕ) → IsTrue (guards guard q) → has new q ≡ has old q

-- the list has room for all that may fall
abbrev pub HasRoom : List Bool → List ℕ → Type 0
HasRoom set fallen = length fallen + members set ≤ MAX_PLACES

-- the places of the entries fell
pub record Drops (guard : Guard) (entries : List WeightedPlace) (old new : List Bool) (before after : List ℕ) : Type 0 where
  pub falls : Falls guard old new before after
  pub left : (p : ℕ) → has new p ≡ (has old p && not (list_any (λ entry. entry.place == p) entries))

-- the place of some entry is in the set and guarded
pub record HoldsGuarded (guard : Guard) (entries : List WeightedPlace) (set : List Bool) : Type 0 where
  pub place : ℕ
  pub listed : IsTrue (list_any (λ entry. entry.place == place) entries)
  pub guarded : IsTrue (guards guard place)
  pub member : IsTrue (has set place)

-- no siphon in the set has this guarded place of the set
pub record LosesGuarded (net : Net) (guard : Guard) (set : List Bool) : Type 0 where
  pub place : ℕ
  pub below : place < net.places
  pub guarded : IsTrue (guards guard place)
  pub member : IsTrue (has set place)
  pub lost : (S : ℕ → Bool) → IsSiphon net S → IsWithin net S (has set) → S place ≡ false

-- places fell, no siphon was lost, and the transition isn't open
pub record Closes (net : Net) (guard : Guard) (t : ℕ) (old new : List Bool) (before after : List ℕ) : Type 0 where
  pub falls : Falls guard old new before after
  pub shrinks : Shrinks net (has old) (has new)
  pub closed : is_open net (has new) t ≡ false

-- where the transition is open, one of its input places is on the list
abbrev pub IsWaiting : Net → List Bool → List ℕ → ℕ → Type 0
IsWaiting net set fallen t = IsTrue (is_open net (has set) t) → (q : ℕ) × Contains fallen q × (0 < net.pre q t)

-- places fell, no siphon was lost, and the first of the transitions are closed or wait
pub record ClosesAll (net : Net) (guard : Guard) (transitions : List ℕ) (count : ℕ) (old new : List Bool) (before after : List ℕ) : Type 0 where
  pub falls : Falls guard old new before after
  pub shrinks : Shrinks net (has old) (has new)
  pub waiting : (k : ℕ) → k < count → IsWaiting net new after (slice_index transitions k)

-- places fall: those on the list were in the net, and each open transition waits
pub record IsFalling (net : Net) (guard : Guard) (old now : List Bool) (fallen : List ℕ) : Type 0 where
  pub few : net.places ≤ MAX_PLACES
  pub size : length now ≡ length old
  pub shrinks : Shrinks net (has old) (has now)
  pub guarded : (q : ℕ) → IsTrue (guards guard q) → has now q ≡ has old q
  pub room : HasRoom now fallen
  pub places : (q : ℕ) → Contains fallen q → q < net.places
  pub waiting : (t : ℕ) → t < net.transitions → IsWaiting net now fallen t

-- the greatest siphon is left, and it has each guarded place of the old set
pub record Settles (net : Net) (guard : Guard) (old new : List Bool) : Type 0 where
  pub size : length new ≡ length old
  pub greatest : IsGreatestSiphon net (has old) (has new)
  pub guarded : (q : ℕ) → IsTrue (guards guard q) → has new q ≡ has old q
