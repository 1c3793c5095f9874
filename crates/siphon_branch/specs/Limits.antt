-- How many grown siphons, or grown traps, a net has. Each set is the list of truth values that tell for each
-- place of the net whether it is in.
use Rattle.std.specs.Prelude.{◌≡◌, ◌≤◌, ◌⊎◌, ℕ, ◌+◌, List, Bool, length, AllPairs, Contains}
use Rattle.net_values.specs.Net.{Net}
use Rattle.net_values.specs.PlaceSets.{has}
use Rattle.closed_sets.specs.Growth.{IsGrown, IsGrownTrap}

-- a grown siphon of the net
pub record IsGrownSet (net : Net) (set : List Bool) : Type 0 where
  pub size : length set ≡ net.places
  pub grown : IsGrown net (has set)

-- a grown trap of the net
pub record IsGrownTrapSet (net : Net) (set : List Bool) : Type 0 where
  pub size : length set ≡ net.places
  pub grown : IsGrownTrap net (has set)

-- no member occurs twice
abbrev pub AreDistinct : {X : Type 0} → List X → Type 0
AreDistinct list = AllPairs (λ one later. one ≡ later → ⊥) list

-- at most this many sets have the property: they all are in a list of this length
pub record HaveAtMost (Property : List Bool → Type 0) (limit : ℕ) : Type 0 where
  pub list : List (List Bool)
  pub few : length list ≤ limit
  pub every : (set : List Bool) → Property set → Contains list set

-- one more distinct sets with the property than the limit are carried
pub record CarriesMore (Property : List Bool → Type 0) (limit : ℕ) (carried : List (List Bool)) : Type 0 where
  pub count : length carried ≡ limit + 1
  pub distinct : AreDistinct carried
  pub grown : (set : List Bool) → Contains carried set → Property set

-- one or the other
abbrev pub AtMostOrMore : (List Bool → Type 0) → ℕ → Type 0
AtMostOrMore Property limit = HaveAtMost Property limit ⊎ ((carried : List (List Bool)) × CarriesMore Property limit carried)

-- the net has at most this many grown siphons
abbrev pub HasAtMostGrown : Net → ℕ → Type 0
HasAtMostGrown net sets = HaveAtMost (IsGrownSet net) sets

-- the net has more grown siphons than the limit, of which one more than that are carried
abbrev pub PassesLimit : Net → ℕ → List (List Bool) → Type 0
PassesLimit net sets carried = CarriesMore (IsGrownSet net) sets carried

-- the net has at most this many grown traps
abbrev pub HasAtMostGrownTraps : Net → ℕ → Type 0
HasAtMostGrownTraps net sets = HaveAtMost (IsGrownTrapSet net) sets

-- the net has more grown traps than the limit, of which one more than that are carried
abbrev pub PassesTrapLimit : Net → ℕ → List (List Bool) → Type 0
PassesTrapLimit net sets carried = CarriesMore (IsGrownTrapSet net) sets carried
