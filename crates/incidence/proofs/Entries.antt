-- The excess of a transition at a place is what the entry of the place counts for: no other entry occurs
-- there, and without an entry the weight is 0.
use Rattle.std.proofs.Common.{◌≡◌, refl, sym, ap, ◌∙◌, ℕ, ◌+◌, ◌*◌, ◌-◌, ◌^◌, ◌<◌, List, All, length, get_or, take, sum_by, inl, inr, arith}
use Rattle.std.proofs.lemmas.List.Sums.{sum_by_more_le}
use Rattle.std.proofs.lemmas.Bool.{cases_lt}
use Rattle.std.proofs.lemmas.List.{get_or_default}
use Rattle.net_values.specs.declared.column.WeightedPlace.{WeightedPlace}
use Rattle.net_values.specs.Columns.{Lists}
use Rattle.net_values.proofs.Columns.{others_elsewhere}
use Rattle.incidence.specs.Sums.{sum_below}
use Rattle.incidence.proofs.Below.{below_same, by_place, counts_at, counts_here, counts_elsewhere, sum_none, sum_one}

-- what is left of an entry's weight
abbrev pub left_of : (ℕ → ℕ) → WeightedPlace → ℕ
left_of back entry = entry.weight - back entry.place

abbrev pub left_at : (ℕ → ℕ) → ℕ → WeightedPlace → ℕ
left_at back p entry = counts_at (λ (e : WeightedPlace). e.place) (left_of back) p entry

pub excess_listed : (places : ℕ) (weights back : ℕ → ℕ) (entries : List WeightedPlace) → Lists places weights entries → (p : ℕ) → sum_by (left_at back p) entries ≡ weights p - back p
excess_listed places weights back entries listed p =
    elim (cases_lt 0 (weights p)) [
      | inl some ↦
          let found = listed.complete p some in
          let place : (get_or entries found.0 found.1).place ≡ p = ap (λ (e : WeightedPlace). e.place) found.3 ∙ found.4 in
          let weight : (get_or entries found.0 found.1).weight ≡ weights p = listed.sound found.0 found.1 found.2 ∙ ap weights place in
          let back_same : back (get_or entries found.0 found.1).place ≡ back p = ap back place in
          let one = sum_one (left_at back p) entries found.0 found.1 found.2 (λ i e inside other.
          counts_elsewhere (λ (e : WeightedPlace). e.place) (left_of back) p (get_or entries i e)
          (λ same. others_elsewhere entries found.0 listed.column found.2 i e inside other (same ∙ sym place ∙ ap (λ (e : WeightedPlace). e.place) (get_or_default entries found.0 found.1 e found.2))))
          in
          let here = counts_here (λ (e : WeightedPlace). e.place) (left_of back) p (get_or entries found.0 found.1) place in
          one ∙ here ∙ omega arith
      | inr none ↦
          sum_none (left_at back p) entries (λ i e inside.
          counts_elsewhere (λ (e : WeightedPlace). e.place) (left_of back) p (get_or entries i e)
          (λ same.
          let weight : (get_or entries i e).weight ≡ weights p = listed.sound i e inside ∙ ap weights same in
          let some : 0 < (get_or entries i e).weight = listed.column.positive i e inside in
          omega arith))
          ∙ omega arith
    ]

-- so the sum over the entries is the sum over the places
pub excess_total : (places : ℕ) (weights back y : ℕ → ℕ) (entries : List WeightedPlace) → Lists places weights entries → sum_by (λ (e : WeightedPlace). y e.place * left_of back e) entries ≡ sum_below places (λ p. y p * (weights p - back p))
excess_total places weights back y entries listed =
    by_place (λ (e : WeightedPlace). e.place) (left_of back) y places entries listed.within
    ∙ below_same places (λ p. y p * sum_by (left_at back p) entries) (λ p. y p * (weights p - back p)) (λ p under. ap (λ z. y p * z) (excess_listed places weights back entries listed p))

-- what an entry leaves, with what those before it left at its place, is narrow
pub left_narrow : (places : ℕ) (weights back : ℕ → ℕ) (entries : List WeightedPlace) → Lists places weights entries → All (λ (e : WeightedPlace). e.weight < 2 ^ 80) entries → (k : ℕ) (d : WeightedPlace) → k < length entries → (before : ℕ) → before ≡ sum_by (left_at back (get_or entries k d).place) (take k entries) → before + left_of back (get_or entries k d) < 2 ^ 127
left_narrow places weights back entries listed narrow k d within before is =
    let e : WeightedPlace = get_or entries k d in
    let part = sum_by_more_le (left_at back e.place) entries k d within in
    let here : left_at back e.place e ≡ left_of back e = counts_here (λ (e : WeightedPlace). e.place) (left_of back) e.place e refl in
    let whole : sum_by (left_at back e.place) entries ≡ weights e.place - back e.place = excess_listed places weights back entries listed e.place in
    let own : e.weight ≡ weights e.place = listed.sound k d within in
    let small : e.weight < 2 ^ 80 = narrow k d within in
    omega arith
