-- What a search keeps while it goes on: the live classes that aren't taken yet, what was met and what was found.
use Rattle.std.specs.Prelude.{◌≡◌, ◌⊎◌, ℕ, ◌+◌, ◌^◌, ◌<◌, ◌≤◌, List, [], ◌∷◌, ◌++◌, Bool, true, false, All, length, slice_set}
use Rattle.net_values.specs.Net.{Net}
use Rattle.net_values.specs.PlaceSets.{has}
use Rattle.closed_sets.specs.ClosedSets.{has_input_in, IsMinimalSiphon}
use Rattle.closed_sets.specs.Growth.{IsFirst, is_open}
use Rattle.closed_sets.specs.LoneInputs.{IsLoneInput}
use Rattle.siphon_branch.specs.declared.branch.Branch.{Branch}
use Rattle.siphon_branch.specs.declared.live_class.LiveClass.{LiveClass}
use Rattle.siphon_branch.specs.declared.stack.Stack.{Stack}
use Rattle.siphon_branch.specs.Classes.{HasSize}
use Rattle.siphon_branch.specs.LiveClasses.{branch_of, branches_of, IsDead, IsHeld, IsLiveOf, IsWhole}
use Rattle.siphon_branch.specs.Met.{IsListOf}
use Rattle.siphon_branch.specs.Searches.{IsDivided, IsMinimalOf}

-- the transition has no input place in the set
abbrev pub HasNoInput : Net → (ℕ → Bool) → ℕ → Type 0
HasNoInput net S t = has_input_in net S t ≡ false

-- the lowest open transition has one input place only in the set that is left
pub record HasLoneNext (net : Net) (contains left : List Bool) : Type 0 where
  pub transition : ℕ
  pub opens : IsFirst net.transitions (is_open net (has contains)) transition
  pub place : ℕ
  pub lone : IsLoneInput net left transition place

-- the part of the class without the place, where this is its greatest siphon
abbrev pub part_left : LiveClass → ℕ → List Bool → LiveClass
part_left class p left = record { contains = class.contains; avoids = slice_set class.avoids p true; greatest = left; opens = class.opens }

-- the sets of two classes have the same sizes, so the one can be written over the other
pub record HasSizesOf (class other : LiveClass) : Type 0 where
  pub contains : length other.contains ≡ length class.contains
  pub avoids : length other.avoids ≡ length class.avoids
  pub greatest : length other.greatest ≡ length class.greatest
  pub opens : length other.opens ≡ length class.opens

-- the sets of the class have the sizes of the net
pub record IsSized (net : Net) (class : LiveClass) : Type 0 where
  pub size : HasSize net.places (branch_of class)
  pub room : length class.greatest ≡ net.places
  pub opens : length class.opens ≡ net.transitions

-- the class was appended where it is live
abbrev pub KeepsLive : Net → Branch → List LiveClass → List LiveClass → Type 0
KeepsLive net class old new = (new ≡ old × IsDead net class) ⊎ ((live : LiveClass) × (new ≡ old ++ live ∷ []) × IsLiveOf net class live)

-- something was appended
pub record Extends {X : Type 0} (old new : List X) : Type 0 where
  pub added : List X
  pub appended : new ≡ old ++ added

-- a search is under way: each class that it keeps is live, and they have what isn't met yet
pub record IsUnderway (net : Net) (origin : List Branch) (stack : List LiveClass) (met found : List (List Bool)) : Type 0 where
  pub live : All (IsHeld net) stack
  pub divided : IsDivided net origin (branches_of stack) met
  pub minimal : IsListOf (IsMinimalOf net met) found

-- from some classes
abbrev pub IsSomehowUnderway : Net → List LiveClass → List (List Bool) → List (List Bool) → Type 0
IsSomehowUnderway net stack met found = (origin : List Branch) × IsUnderway net origin stack met found

-- what was under way goes on
abbrev pub KeepsUnderway : Net → List LiveClass → List LiveClass → List (List Bool) → List (List Bool) → List (List Bool) → List (List Bool) → Type 0
KeepsUnderway net stack stack' met met' found found' = (origin : List Branch) → IsUnderway net origin stack met found → IsUnderway net origin stack' met' found'

-- the growth within a class came to this siphon, and what else is grown in the class was kept
pub record Descends (net : Net) (class : LiveClass) (old new : List LiveClass) (siphon : List Bool) : Type 0 where
  pub size : length siphon ≡ net.places
  pub whole : IsWhole net (has siphon)
  pub live : All (IsHeld net) old → All (IsHeld net) new
  pub divided : (origin : List Branch) (met : List (List Bool)) → IsDivided net origin (branches_of old ++ branch_of class ∷ []) met → IsDivided net origin (branches_of new) (met ++ siphon ∷ [])

-- the siphon was appended where it is minimal
abbrev pub AddsFound : Net → List Bool → List (List Bool) → List (List Bool) → Type 0
AddsFound net siphon old new = (IsMinimalSiphon net (has siphon) × (new ≡ old ++ siphon ∷ [])) ⊎ ((IsMinimalSiphon net (has siphon) → ⊥) × (new ≡ old))

-- siphons were met until there are so many, or no class is left
pub record MeetsMore (net : Net) (classes : List LiveClass) (stack : Stack) (end : ℕ) (met met' found found' : List (List Bool)) : Type 0 where
  pub kept : KeepsUnderway net classes stack.classes met met' found found'
  pub alone : stack.pending ≡ branches_of stack.classes
  pub extends : Extends met met'
  pub within : length met' ≤ end
  pub ended : (length met' ≡ end) ⊎ (stack.classes ≡ [])

-- what holds of the parts of a search
pub record IsHeldSearch (net : Net) (origin : List Branch) (classes : List LiveClass) (pending : List Branch) (met found : List (List Bool)) (limit : ℕ) : Type 0 where
  pub underway : IsUnderway net origin classes met found
  pub alone : pending ≡ branches_of classes
  pub room : length met ≤ limit + 1
  pub short : limit < 2 ^ 32
