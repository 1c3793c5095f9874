-- The weight of a place in a column. Where no entry occurs at the place it is 0; where one does it is
-- that entry's weight, since the others occur elsewhere. A write at an entry or an entry more changes the
-- sum by that entry only.
use Rattle.std.proofs.Common.{◌≡◌, ◌≢◌, refl, sym, ap, ◌∙◌, ℕ, zero, suc, ◌+◌, ◌<◌, List, [], ◌∷◌, length, get_or, Any, inl, inr, arith}
use Rattle.std.proofs.lemmas.Bool.{cases_lt, cases_eq}
use Rattle.std.proofs.lemmas.Bool.Decides.{nat_tests}
use Rattle.std.proofs.lemmas.List.{get_or_default}
use Rattle.std.proofs.lemmas.List.Sums.{sum_by-cons}
use Rattle.net_values.specs.declared.column.WeightedPlace.{WeightedPlace}
use Rattle.std.proofs.Common.{Result, Ok, Err, MatchResult}
use Rattle.std.specs.List.Sorted.{IsSearchInRange, IsBinarySearchResult, IsSortedBy}
use Rattle.std.specs.Ordering.{nat_cmp, is_lt}
use Rattle.std.proofs.lemmas.Cmp.{nat_cmp_total}
use Rattle.std.proofs.lemmas.List.Sorted.{searchable_from_sorted}
use Rattle.net_values.specs.Columns.{part_at, weight_at, IsColumn, OccursAt, BelongsAt, Lists}

pub part_same : (p : ℕ) (entry : WeightedPlace) → entry.place ≡ p → part_at p entry ≡ entry.weight
part_same p entry same = grind (arith, nat_tests)

pub part_other : (p : ℕ) (entry : WeightedPlace) → entry.place ≢ p → part_at p entry ≡ 0
part_other p entry other = grind (arith, nat_tests)

-- no entry occurs at the place
pub weight_none : (column : List WeightedPlace) (p : ℕ) → ((k : ℕ) (d : WeightedPlace) → k < length column → (get_or column k d).place ≢ p) → weight_at column p ≡ 0
weight_none [] p none = refl
weight_none (entry ∷ column) p none =
    let here = part_other p entry (none 0 entry (omega arith)) in
    let rest = weight_none column p (λ k d within. none (suc k) d (omega arith)) in
    sum_by-cons (part_at p) entry column ∙ omega (arith, here, rest)

-- one entry occurs at the place
pub weight_one : (column : List WeightedPlace) (p k : ℕ) (d : WeightedPlace) → k < length column → (get_or column k d).place ≡ p → ((i : ℕ) (e : WeightedPlace) → i < length column → i ≢ k → (get_or column i e).place ≢ p) → weight_at column p ≡ (get_or column k d).weight
weight_one [] p k d within here others = absurd (omega arith)
weight_one (entry ∷ column) p zero d within here others =
    let first = part_same p entry here in
    let rest = weight_none column p (λ i e within. others (suc i) e (omega arith) (omega arith)) in
    sum_by-cons (part_at p) entry column ∙ omega (arith, first, rest)
weight_one (entry ∷ column) p (suc k) d within here others =
    let first = part_other p entry (others 0 entry (omega arith) (omega arith)) in
    let rest = weight_one column p k d (omega arith) here (λ i e within other. others (suc i) e (omega arith) (omega arith)) in
    sum_by-cons (part_at p) entry column ∙ omega (arith, first, rest)

sorted_column : (column : List WeightedPlace) → IsColumn column → IsSortedBy (λ entry other. is_lt (nat_cmp entry.place other.place)) column
sorted_column column h k d low high =
    let up : (get_or column k d).place < (get_or column (k + 1) d).place = h.ascending k (k + 1) d (omega arith) high in
    grind (arith, nat_tests)

-- what a binary search answers
pub found : (column : List WeightedPlace) (p : ℕ) (r : Result ℕ ℕ) → IsColumn column → IsSearchInRange r (length column) → IsBinarySearchResult (λ entry. nat_cmp entry.place p) column r → MatchResult r (OccursAt column p) (BelongsAt column p)
found column p (Ok k) h bound result = record {
  within = bound;
  place = λ d. grind (arith, nat_tests, result d);
}
found column p (Err k) h bound result =
    let parts = result (searchable_from_sorted nat_cmp_total (λ entry. entry.place) column p (sorted_column column h)) in
    record {
      within = bound;
      below = λ i d low high. grind (arith, nat_tests, parts.0 i d low high);
      above = λ i d low high. grind (arith, nat_tests, parts.1 i d low high);
    }

-- in a column no other entry occurs at the place of one
pub others_elsewhere : (column : List WeightedPlace) (k : ℕ) → IsColumn column → k < length column → (i : ℕ) (d : WeightedPlace) → i < length column → i ≢ k → (get_or column i d).place ≢ (get_or column k d).place
others_elsewhere column k h within i d here other =
    elim (cases_lt i k) [
      | inl below ↦ let up = h.ascending i k d below within in omega arith
      | inr above ↦ let up = h.ascending k i d (omega arith) here in omega arith
    ]

-- what a search that found an entry tells of the weight
pub weight_found : (column : List WeightedPlace) (p k : ℕ) (entry : WeightedPlace) → IsColumn column → OccursAt column p k → entry ≡ get_or column k entry → entry.weight ≡ weight_at column p
weight_found column p k entry h occurs read =
    let one =
    weight_one column p k entry occurs.within (occurs.place entry)
    (λ i e here other. let same = occurs.place e in let apart = others_elsewhere column k h occurs.within i e here other in omega arith) in
    ap (λ (x : WeightedPlace). x.weight) read ∙ sym one

-- what a search that found none tells of it
pub weight_missing : (column : List WeightedPlace) (p k : ℕ) → BelongsAt column p k → 0 ≡ weight_at column p
weight_missing column p k belongs =
    sym
    (weight_none column p
    (λ i d here. elim (cases_lt i k) [
      | inl below ↦ let less = belongs.below i d (omega arith) below in omega arith
      | inr above ↦ let more = belongs.above i d above here in omega arith
    ]))

-- an entry has the weight of its place
pub weight_here : (column : List WeightedPlace) (k : ℕ) (d : WeightedPlace) → IsColumn column → k < length column → (get_or column k d).weight ≡ weight_at column (get_or column k d).place
weight_here column k d h within =
    sym (weight_one column (get_or column k d).place k d within refl (λ i e here other.
    let apart = others_elsewhere column k h within i e here other in
    let same : (get_or column k e).place ≡ (get_or column k d).place = ap (λ (x : WeightedPlace). x.place) (get_or_default column k e d within) in
    omega arith))

-- a positive weight has its entry
pub entry_of_weight : (column : List WeightedPlace) (p : ℕ) → 0 < weight_at column p → Any (λ entry. entry.place ≡ p) column
entry_of_weight [] p some = absurd (omega arith)
entry_of_weight (entry ∷ column) p some =
    elim (cases_eq entry.place p) [
      | inl here ↦ (0, entry, omega arith, refl, here)
      | inr other ↦
          let first = part_other p entry other in
          let rest : 0 < weight_at column p = omega (arith, sum_by-cons (part_at p) entry column) in
          let found = entry_of_weight column p rest in
          (suc found.0, found.1, omega (arith, found.2), found.3, found.4)
    ]

-- a column lists its own weights
pub lists_itself : (places : ℕ) (column : List WeightedPlace) → IsColumn column → ((p : ℕ) → 0 < weight_at column p → p < places) → Lists places (weight_at column) column
lists_itself places column h within = record {
  column = h;
  within = λ k d here. within (get_or column k d).place (let same = weight_here column k d h here in let some = h.positive k d here in omega arith);
  sound = λ k d here. weight_here column k d h here;
  complete = entry_of_weight column;
}
