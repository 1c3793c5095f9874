-- The way through a tree to the class of a line, by the splits above it, of which the scratch keeps the places and the
-- sides. The second side of each split on whose first side the way is has still to be walked.
use Rattle.std.specs.Prelude.{◌≡◌, ℕ, zero, suc, ◌+◌, ◌<◌, ◌≤◌, ◌==◌, ◌||◌, ◌&&◌, not, List, [], ◌∷◌, Bool, false, true, MatchBool, length, slice_index_or, slice_set}
use Rattle.net_values.specs.Net.{Net}
use Rattle.net_values.specs.PlaceSets.{has}
use Rattle.net_values.specs.declared.limits.TheConstants.{MAX_TRANSITIONS}
use Rattle.closed_sets.specs.ClosedSets.{IsGreatestSiphon}
use Rattle.closed_sets.specs.Commoner.{IsInitiallyEmpty}
use Rattle.closed_sets.specs.Opens.{AreLeaving}
use Rattle.closed_sets.specs.Kept.{KeepsWithout, LosesWithout}
use Rattle.certificates.specs.declared.certificate.TreeLine.TheVariants.{Empty}
use Rattle.certificates.specs.Conditions.{SiphonClass, TreeLineHolds, all_siphons, without, containing}
use Rattle.cert_check.specs.declared.walk.Level.{Level}
use Rattle.cert_check.specs.declared.walk.Walk.{Walk}

abbrev pub level_at : List Level → ℕ → Level
level_at levels d = slice_index_or levels d record { place = 0; contained = false; empty = false }

-- the class on one side of a split at a place: with it, or without it
abbrev pub side : SiphonClass → ℕ → Bool → SiphonClass
side class p true = containing class p
side class p false = without class p

-- the classes after those of that side: on the side without the place the other one is still to come
abbrev pub after_side : SiphonClass → ℕ → Bool → List SiphonClass → List SiphonClass
after_side class p true classes = classes
after_side class p false classes = containing class p ∷ classes

-- the class after the first splits
abbrev pub class_of : List Level → ℕ → SiphonClass
class_of levels zero = all_siphons
class_of levels (suc d) = side (class_of levels d) (level_at levels d).place (level_at levels d).contained

-- the classes after it: the second sides that are still to come, the deepest first
abbrev pub pending_of : List Level → ℕ → List SiphonClass
pending_of levels zero = []
pending_of levels (suc d) = after_side (class_of levels d) (level_at levels d).place (level_at levels d).contained (pending_of levels d)

-- the places of the first splits
abbrev pub used_of : List Level → ℕ → ℕ → Bool
used_of levels zero q = false
used_of levels (suc d) q = q == (level_at levels d).place || used_of levels d q

-- the places that a class doesn't avoid
abbrev pub allowed_in : SiphonClass → ℕ → Bool
allowed_in class q = not (class.avoids q)

-- a set without a place
abbrev pub except : (ℕ → Bool) → ℕ → ℕ → Bool
except S p q = S q && not (q == p)

-- what a walk knows of a class: that no nonempty siphon belongs to it, or the greatest siphon that avoids what it avoids
abbrev pub IsKnown : Net → SiphonClass → Bool → List Bool → Type 0
IsKnown net class true live = TreeLineHolds net class Empty
IsKnown net class false live = IsGreatestSiphon net (allowed_in class) (has live)

abbrev pub saved_at : List (List Bool) → ℕ → List Bool
saved_at sets d = slice_index_or sets d []

-- the parts of a walk are for this number of places
pub record HasSizes (places : ℕ) (walk : Walk) : Type 0 where
  pub levels : length walk.levels.items ≡ places
  pub contained : length walk.contained ≡ places
  pub used : length walk.used ≡ places
  pub live : length walk.live ≡ places
  pub count : length walk.saved.items ≡ places
  pub saved : (d : ℕ) → d < places → length (saved_at walk.saved.items d) ≡ places
  pub leaving : length walk.leaving ≡ MAX_TRANSITIONS
  pub unmarked : length walk.unmarked ≡ places
  pub trap : length walk.trap ≡ places

-- the place of a split is in the net, and none of the splits above it is at it
pub record IsFresh (net : Net) (levels : List Level) (d : ℕ) : Type 0 where
  pub place : (level_at levels d).place < net.places
  pub unused : used_of levels d (level_at levels d).place ≡ false

-- the sets that a walk keeps of its splits are those of the class after them
pub record IsOnWay (net : Net) (walk : Walk) : Type 0 where
  pub sizes : HasSizes net.places walk
  pub deep : walk.depth ≤ net.places
  pub fresh : (d : ℕ) → d < walk.depth → IsFresh net walk.levels.items d
  pub contained : (q : ℕ) → q < net.places → has walk.contained q ≡ (class_of walk.levels.items walk.depth).contains q
  pub used : (q : ℕ) → q < net.places → has walk.used q ≡ used_of walk.levels.items walk.depth q
  pub saved : (d : ℕ) → d < walk.depth → IsKnown net (class_of walk.levels.items d) (level_at walk.levels.items d).empty (saved_at walk.saved.items d)
  pub leaving : AreLeaving net walk.contained walk.leaving
  pub unmarked : IsInitiallyEmpty net walk.unmarked

abbrev pub class_now : Walk → SiphonClass
class_now walk = class_of walk.levels.items walk.depth

-- and what it keeps of the class itself is so
pub record IsAt (net : Net) (walk : Walk) : Type 0 where
  pub way : IsOnWay net walk
  pub known : IsKnown net (class_now walk) walk.empty walk.live

abbrev pub pending_now : Walk → List SiphonClass
pending_now walk = pending_of walk.levels.items walk.depth

-- the walk is at the first of the classes, and the others are pending; or none is left
abbrev pub IsLeft : Net → Walk → List SiphonClass → Type 0
IsLeft net walk [] = HasSizes net.places walk
IsLeft net walk (class ∷ classes) = IsAt net walk × (class_now walk ≡ class) × (pending_now walk ≡ classes)

-- what is known of a class without a place, by what was known of the class: that it is empty, or what is left of the
-- greatest siphon, if that has each place of the contained set
abbrev pub KnowsWithout : Net → List Bool → ℕ → Bool → List Bool → Bool → List Bool → Type 0
KnowsWithout net contained p true old empty new = empty ≡ true
KnowsWithout net contained p false old empty new = MatchBool empty (LosesWithout net contained p old) (KeepsWithout net contained p old new)

-- a walk goes down to the first side of a split
pub record Enters (net : Net) (old new : Walk) (p : ℕ) : Type 0 where
  pub depth : new.depth ≡ old.depth + 1
  pub levels : new.levels.items ≡ slice_set old.levels.items old.depth record { place = p; contained = false; empty = old.empty }
  pub contained : new.contained ≡ old.contained
  pub used : new.used ≡ slice_set old.used p true
  pub saved : new.saved.items ≡ slice_set old.saved.items old.depth old.live
  pub size : length new.live ≡ net.places
  pub known : KnowsWithout net old.contained p old.empty old.live new.empty new.live
  pub leaving : new.leaving ≡ old.leaving
  pub unmarked : new.unmarked ≡ old.unmarked
  pub trap : length new.trap ≡ net.places

-- it goes from the first side of its deepest split to the second
pub record Turns (net : Net) (old new : Walk) (d : ℕ) : Type 0 where
  pub depth : new.depth ≡ old.depth
  pub levels : new.levels.items ≡ slice_set old.levels.items d record { place = (level_at old.levels.items d).place; contained = true; empty = (level_at old.levels.items d).empty }
  pub contained : new.contained ≡ slice_set old.contained (level_at old.levels.items d).place true
  pub used : new.used ≡ old.used
  pub saved : new.saved.items ≡ old.saved.items
  pub empty : new.empty ≡ (level_at old.levels.items d).empty
  pub live : new.live ≡ saved_at old.saved.items d
  pub size : length new.leaving ≡ length old.leaving
  pub leaving : AreLeaving net new.contained new.leaving
  pub unmarked : new.unmarked ≡ old.unmarked
  pub trap : new.trap ≡ old.trap

-- it goes up from the second side of its deepest split
pub record Rises (net : Net) (old new : Walk) (d : ℕ) : Type 0 where
  pub depth : new.depth ≡ d
  pub levels : new.levels.items ≡ old.levels.items
  pub contained : new.contained ≡ slice_set old.contained (level_at old.levels.items d).place false
  pub used : new.used ≡ slice_set old.used (level_at old.levels.items d).place false
  pub saved : new.saved.items ≡ old.saved.items
  pub live : new.live ≡ old.live
  pub size : length new.leaving ≡ length old.leaving
  pub leaving : AreLeaving net new.contained new.leaving
  pub unmarked : new.unmarked ≡ old.unmarked
  pub trap : new.trap ≡ old.trap
