-- A search for the siphons that are grown in given classes. It has met some of them, and keeps classes in which the
-- others are grown.
use Rattle.std.specs.Prelude.{◌≡◌, ◌↔◌, ◌⊎◌, ◌≤◌, ℕ, ◌+◌, List, [], ◌∷◌, ◌++◌, Bool, Result, Ok, Err, All, AllPairs, Contains, length}
use Rattle.net_values.specs.FlatNets.{NetLists, net_of}
use Rattle.net_values.specs.Net.{Net}
use Rattle.net_values.specs.PlaceSets.{has}
use Rattle.closed_sets.specs.ClosedSets.{IsMinimalSiphon}
use Rattle.siphon_branch.specs.declared.branch.Branch.{Branch}
use Rattle.siphon_branch.specs.declared.progress.AdvanceFault.{AdvanceFault}
use Rattle.siphon_branch.specs.declared.progress.AdvanceFault.TheVariants.{NoMemory, SetLimit}
use Rattle.siphon_branch.specs.declared.progress.Progress.{Progress}
use Rattle.siphon_branch.specs.declared.progress.Progress.TheVariants.{Done, More}
use Rattle.siphon_branch.specs.Classes.{AreDisjoint, HasSize, IsConsistent, IsGrownSetIn, IsSetIn, every_set}
use Rattle.siphon_branch.specs.Limits.{AreDistinct, IsGrownSet}
use Rattle.siphon_branch.specs.Met.{IsListOf}

-- the set has the property of a class on the list
pub record InSome (Property : Branch → List Bool → Type 0) (classes : List Branch) (set : List Bool) : Type 0 where
  pub class : Branch
  pub listed : Contains classes class
  pub holds : Property class set

-- the siphons that are grown in a class of the first list are those that were met, each once, and those that are
-- grown in a class of the second list, and these two kinds are apart; the classes of the second list are disjoint
pub record IsDivided (net : Net) (origin pending : List Branch) (met : List (List Bool)) : Type 0 where
  pub grown : (set : List Bool) → InSome (IsGrownSetIn net) origin set ↔ (Contains met set ⊎ InSome (IsGrownSetIn net) pending set)
  pub distinct : AreDistinct met
  pub apart : (set : List Bool) → Contains met set → InSome (IsGrownSetIn net) pending set → ⊥
  pub disjoint : AllPairs AreDisjoint pending

-- a minimal siphon among the sets
abbrev pub IsMinimalOf : Net → List (List Bool) → List Bool → Type 0
IsMinimalOf net met set = Contains met set × IsMinimalSiphon net (has set)

-- a search over a net: the classes that it started from, those that are not yet taken, the siphons that it has met,
-- the minimal ones among them, and its limit
pub record SearchValue : Type 0 where
  pub lists : NetLists
  pub origin : List Branch
  pub pending : List Branch
  pub met : List (List Bool)
  pub found : List (List Bool)
  pub limit : ℕ

abbrev pub searched_net : SearchValue → Net
searched_net search = net_of search.lists

-- what holds of a search at every moment
pub record IsSearch (search : SearchValue) : Type 0 where
  pub divided : IsDivided (searched_net search) search.origin search.pending search.met
  pub found : IsListOf (IsMinimalOf (searched_net search) search.met) search.found
  pub sizes : All (HasSize (searched_net search).places) search.pending
  pub consistent : All IsConsistent search.pending
  pub room : length search.met ≤ search.limit + 1

-- a search from these classes begins
pub record Begins (net : NetLists) (classes : List Branch) (sets : ℕ) (search : SearchValue) : Type 0 where
  pub lists : search.lists ≡ net
  pub origin : search.origin ≡ classes
  pub limit : search.limit ≡ sets
  pub met : search.met ≡ []
  pub found : search.found ≡ []

-- the search goes on, and meets at most so many siphons more
pub record GoesOn (leaves : ℕ) (old new : SearchValue) : Type 0 where
  pub lists : new.lists ≡ old.lists
  pub origin : new.origin ≡ old.origin
  pub limit : new.limit ≡ old.limit
  pub added : List (List Bool)
  pub met : new.met ≡ old.met ++ added
  pub few : length added ≤ leaves

-- a class is pending
abbrev pub IsPending : SearchValue → Type 0
IsPending search = search.pending ≡ [] → ⊥

-- `SetLimit` where one siphon more than the limit was met; else `Done` where no class is pending, `More` where one
-- is and so many siphons were met in this call; out of memory may come at any time before the limit is passed
abbrev pub Answers : ℕ → SearchValue → SearchValue → Result Progress AdvanceFault → Type 0
Answers leaves old new (Ok Done) = (new.pending ≡ []) × (length new.met ≤ new.limit)
Answers leaves old new (Ok More) = IsPending new × (length new.met ≡ length old.met + leaves) × (length new.met ≤ new.limit)
Answers leaves old new (Err NoMemory) = (new ≡ old) × (length new.met ≤ new.limit)
Answers leaves old new (Err SetLimit) = length new.met ≡ new.limit + 1

-- the grown siphons of the net are those that were met, and those that are grown in a pending class
abbrev pub DividesAll : SearchValue → Type 0
DividesAll search = (set : List Bool) → IsGrownSet (searched_net search) set ↔ (Contains search.met set ⊎ InSome (IsGrownSetIn (searched_net search)) search.pending set)

-- where the search started from all siphons
abbrev pub StartedFromAll : SearchValue → Type 0
StartedFromAll search = search.origin ≡ every_set (searched_net search).places ∷ []

-- the minimal siphons that belong to a class of the origin are those that were found, and those that belong to a
-- pending class
pub record SplitsMinimal (search : SearchValue) : Type 0 where
  pub minimal : (set : List Bool) → IsMinimalSiphon (searched_net search) (has set) → InSome (IsSetIn (searched_net search)) search.origin set ↔ (Contains search.found set ⊎ InSome (IsSetIn (searched_net search)) search.pending set)
