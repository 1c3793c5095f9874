-- Counts of tokens from which the entries of a column are taken one after the other, or to which they are
-- given: after the first k entries each count has changed by the weight of these k at its place, and the
-- next entry is no more than what is still to come.
use Rattle.std.proofs.Common.{◌≡◌, refl, ℕ, ◌+◌, ◌^◌, ◌<◌, ◌≤◌, List, length, get_or, take, All, slice_index, inl, inr, arith}
use Rattle.std.proofs.lemmas.Bool.{cases_lt}
use Rattle.std.proofs.lemmas.List.{get_or_read, get_or_past}
use Rattle.std.proofs.lemmas.List.Sums.{sum_by_more_le}
use Rattle.net_values.specs.declared.column.WeightedPlace.{WeightedPlace}
use Rattle.net_values.specs.Columns.{part_at, weight_at, LeftOf, GivenTo}
use Rattle.net_values.proofs.Columns.{part_same}

abbrev pub nowhere : WeightedPlace
nowhere = record { place = 0; weight = 0 }

module _ (before counts : List ℕ) (entries : List WeightedPlace) (k : ℕ) (count : ℕ) where
  abbrev entry : WeightedPlace
  entry = get_or entries k nowhere

  abbrev Reads : Type 0
  Reads = count ≡ get_or counts entry.place count

  -- the place still has what the entry takes
  pub enough_left : k < length entries → entry.place < length counts → Reads → ((p : ℕ) → weight_at entries p ≤ slice_index before p) → LeftOf before (take k entries) counts → entry.weight ≤ count
  enough_left more within reads enough left =
      let here : count ≡ slice_index counts entry.place = get_or_read counts entry.place count within reads 0 in
      let part : part_at entry.place entry ≡ entry.weight = part_same entry.place entry refl in
      let sums : weight_at (take k entries) entry.place + part_at entry.place entry ≤ weight_at entries entry.place = sum_by_more_le (part_at entry.place) entries k nowhere more in
      omega (arith, left entry.place, enough entry.place)

  -- the place has room for what the entry gives
  pub room_left : k < length entries → entry.place < length counts → Reads → ((p : ℕ) → slice_index before p + weight_at entries p < 2 ^ 127) → GivenTo before (take k entries) counts → count + entry.weight < 2 ^ 127
  room_left more within reads narrow given =
      let here : count ≡ slice_index counts entry.place = get_or_read counts entry.place count within reads 0 in
      let part : part_at entry.place entry ≡ entry.weight = part_same entry.place entry refl in
      let sums : weight_at (take k entries) entry.place + part_at entry.place entry ≤ weight_at entries entry.place = sum_by_more_le (part_at entry.place) entries k nowhere more in
      omega (arith, given entry.place, narrow entry.place)

-- past the places a count is 0
pub narrow_everywhere : (counts : List ℕ) → All (λ count. count < 2 ^ 127) counts → (p : ℕ) → slice_index counts p < 2 ^ 127
narrow_everywhere counts narrow p =
    elim (cases_lt p (length counts)) [
      | inl within ↦ narrow p 0 within
      | inr past ↦ let none : slice_index counts p ≡ 0 = get_or_past counts p 0 past in omega arith
    ]
