-- In the class that contains and avoids nothing the grown siphons are grown, so what is said of the classes that are
-- left of it is said of all siphons of the net.
use Rattle.std.proofs.Common.{◌≡◌, ◌↔◌, ◌⊎◌, ℕ, ◌+◌, ◌≤◌, List, [], ◌∷◌, Bool, false, length, replicate, inl, inr, Contains, arith}
use Rattle.std.proofs.lemmas.Bool.{cases_lt, both_ways}
use Rattle.std.proofs.lemmas.List.{get_or_past, get_or-replicate, length-replicate}
use Rattle.net_values.specs.Net.{Net}
use Rattle.net_values.specs.PlaceSets.{has}
use Rattle.closed_sets.specs.ClosedSets.{IsNonempty}
use Rattle.closed_sets.proofs.Below.{any_from}
use Rattle.siphon_branch.specs.declared.branch.Branch.{Branch}
use Rattle.siphon_branch.specs.Classes.{IsGrownSetIn, every_set}
use Rattle.siphon_branch.specs.Limits.{HasAtMostGrown, IsGrownSet, PassesLimit}
use Rattle.siphon_branch.specs.Met.{IsListOf}
use Rattle.siphon_branch.specs.Searches.{InSome, IsDivided}
use Rattle.siphon_branch.proofs.Divisions.{from_one, some_none, some_one}

pub zeros_have : (n q : ℕ) → has (replicate n false) q ≡ false
zeros_have n q =
    elim (cases_lt q n) [
      | inl below ↦ get_or-replicate n q false false below
      | inr past ↦ get_or_past (replicate n false) q false (omega (arith, length-replicate n false))
    ]

zeros_empty : (net : Net) → IsNonempty net (has (replicate net.places false)) → ⊥
zeros_empty net some = let at = any_from net.places (has (replicate net.places false)) some in both_ways (has (replicate net.places false) at.0) (zeros_have net.places at.0) at.2

pub grown_everywhere : (net : Net) (set : List Bool) → IsGrownSet net set ↔ IsGrownSetIn net (every_set net.places) set
grown_everywhere net set = (
  λ grown. record {
    size = grown.size;
    grown = record {
      siphon = grown.grown.siphon;
      belongs = record {
        has_all = λ p below member. absurd (both_ways (has (replicate net.places false) p) (zeros_have net.places p) member);
        has_none = λ p below avoided. absurd (both_ways (has (replicate net.places false) p) (zeros_have net.places p) avoided);
      };
      grows = inr (zeros_empty net, grown.grown);
    };
  },
  λ found. record {
    size = found.size;
    grown = elim found.grown.grows [ inl grows ↦ absurd (zeros_empty net grows.0) | inr from_lowest ↦ from_lowest.1 ];
  },
)

module _ (net : Net) (pending : List Branch) (met : List (List Bool)) (divided : IsDivided net (every_set net.places ∷ []) pending met) where
  pub every_divided : (set : List Bool) → IsGrownSet net set ↔ (Contains met set ⊎ InSome (IsGrownSetIn net) pending set)
  every_divided set = (
    λ grown. (divided.grown set).0 (some_one (IsGrownSetIn net) (every_set net.places) set ((grown_everywhere net set).0 grown)),
    λ either. (grown_everywhere net set).1 (from_one (IsGrownSetIn net) (every_set net.places) set ((divided.grown set).1 either)),
  )

  pub every_passes : (limit : ℕ) → length met ≡ limit + 1 → PassesLimit net limit met
  every_passes limit count = record { count = count; distinct = divided.distinct; grown = λ set there. (every_divided set).1 (inl there) }

-- where no class is left
module _ (net : Net) (met : List (List Bool)) (divided : IsDivided net (every_set net.places ∷ []) [] met) where
  pub every_met : IsListOf (IsGrownSet net) met
  every_met = record {
    distinct = divided.distinct;
    members = λ set. (
      λ there. (every_divided net [] met divided set).1 (inl there),
      λ grown. elim ((every_divided net [] met divided set).0 grown) [ inl there ↦ there | inr some ↦ absurd (some_none (IsGrownSetIn net) set some) ],
    );
  }

  pub every_few : (limit : ℕ) → length met ≤ limit → HasAtMostGrown net limit
  every_few limit few = record { list = met; few = few; every = λ set grown. (every_met.members set).1 grown }
