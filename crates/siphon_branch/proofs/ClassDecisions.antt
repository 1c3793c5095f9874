-- Whether a set is a siphon that is grown in a class is decided, as it is for the class of all siphons: the growth begins
-- with the places that the class contains, and comes to its end.
use Rattle.std.proofs.Common.{ℕ, suc, Bool, inl, inr, not, arith}
use Rattle.std.proofs.lemmas.Bool.{cases_Bool, both_ways, not_from_false, not-true}
use Rattle.net_values.specs.Net.{Net}
use Rattle.closed_sets.specs.ClosedSets.{any_below, IsSiphon}
use Rattle.closed_sets.specs.Growth.{Belongs, IsGrownIn}
use Rattle.closed_sets.proofs.Outside.{outside}
use Rattle.siphon_branch.proofs.AllSets.{Decided}
use Rattle.siphon_branch.proofs.Decisions.{decide_siphon, decide_within, decide_grows, decide_grown}

module _ (net : Net) (contains avoids S : ℕ → Bool) where
  decide_belongs : Decided (Belongs net contains avoids S)
  decide_belongs =
      elim (decide_within net contains S) [
        | inr fails ↦ inr (λ belongs. fails belongs.has_all)
        | inl has_all ↦ elim (decide_within net avoids (λ p. not (S p))) [
          | inl apart ↦ inl record { has_all = has_all; has_none = λ p below avoided. not-true (S p) (apart p below avoided) }
          | inr fails ↦ inr (λ belongs. fails (λ p below avoided. not_from_false (S p) (belongs.has_none p below avoided)))
        ]
      ]

  of_members : IsSiphon net S → Belongs net contains avoids S → Decided (IsGrownIn net contains avoids S)
  of_members siphon belongs =
      elim (cases_Bool (any_below net.places contains)) [
        | inl some ↦ elim (decide_grows (suc (outside net.places contains)) net S contains siphon belongs.has_all (omega arith)) [
          | inl grows ↦ inl record { siphon = siphon; belongs = belongs; grows = inl (some, grows) }
          | inr fails ↦ inr (λ grown. elim grown.grows [ inl whole ↦ fails whole.1 | inr from_lowest ↦ from_lowest.0 some ])
        ]
        | inr none ↦ elim (decide_grown net S) [
          | inl grown ↦ inl record { siphon = siphon; belongs = belongs; grows = inr (λ some. both_ways _ none some, grown) }
          | inr fails ↦ inr (λ grown. elim grown.grows [ inl whole ↦ both_ways _ none whole.0 | inr from_lowest ↦ fails from_lowest.1 ])
        ]
      ]

  pub decide_grown_in : Decided (IsGrownIn net contains avoids S)
  decide_grown_in =
      elim (decide_siphon net S) [
        | inr fails ↦ inr (λ grown. fails grown.siphon)
        | inl siphon ↦ elim decide_belongs [
          | inr fails ↦ inr (λ grown. fails grown.belongs)
          | inl belongs ↦ of_members siphon belongs
        ]
      ]
