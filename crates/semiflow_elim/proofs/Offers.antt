-- A step lists at most as many combinations as there are pairs. They are counted one row after another.
use Rattle.std.proofs.Common.{◌≡◌, ap, ℕ, ◌+◌, ◌*◌, ◌<◌, ◌≤◌, nat_lt, Bool, true, false, cond, List, length, take, arith}
use Rattle.std.specs.Prelude.{count_by}
use Rattle.std.proofs.lemmas.List.{take_all}
use Rattle.std.proofs.lemmas.List.Sums.{sum_by_more}
use Rattle.semiflow_elim.specs.declared.signs.RowSums.{RowSums}
use Rattle.semiflow_elim.specs.Candidates.{sums_of, pair_offers, row_offers, all_offers}

pub count_more : (f : RowSums → Bool) (sums : List RowSums) (k : ℕ) → k < length sums → count_by f (take (k + 1) sums) ≡ count_by f (take k sums) + cond (f (sums_of sums k)) 1 0
count_more f sums k under = sum_by_more (λ own. cond {A = ℕ} (f own) 1 0) sums k record { gain = 0; loss = 0; largest = 0 } under

row_by : (b : Bool) (f : RowSums → Bool) (sums : List RowSums) (k start now new : ℕ) → k < length sums → now ≤ start + cond b (count_by f (take k sums)) 0 → new ≤ now + cond b (cond (f (sums_of sums k)) 1 0) 0 → new ≤ start + cond b (count_by f (take (k + 1) sums)) 0
row_by true f sums k start now new under before offered = let more = count_more f sums k under in omega (arith, more, before, offered)
row_by false f sums k start now new under before offered = omega (arith, before, offered)

-- one more pair of a row
pub row_offers_more : (first : RowSums) (sums : List RowSums) (k start now new : ℕ) → k < length sums → now ≤ start + row_offers first sums k → new ≤ now + pair_offers first (sums_of sums k) → new ≤ start + row_offers first sums (k + 1)
row_offers_more first sums = row_by (nat_lt first.loss first.gain) (λ own. nat_lt own.gain own.loss) sums

all_by : (b : Bool) (positives more negatives pairs now new : ℕ) → more ≡ positives + cond b 1 0 → pairs ≡ negatives → now ≤ positives * negatives → new ≤ now + cond b pairs 0 → new ≤ more * negatives
all_by true positives more negatives pairs now new more_are pairs_are before after =
    let product : more * negatives ≡ (positives + 1) * negatives = ap (λ (n : ℕ). n * negatives) more_are in
    omega (arith, product, pairs_are, before, after)
all_by false positives more negatives pairs now new more_are pairs_are before after =
    let product : more * negatives ≡ (positives + 0) * negatives = ap (λ (n : ℕ). n * negatives) more_are in
    omega (arith, product, before, after)

-- the pairs of one more row
pub all_offers_more : (sums : List RowSums) (i n now new : ℕ) → length sums ≡ n → i < length sums → now ≤ all_offers sums i → new ≤ now + row_offers (sums_of sums i) sums n → new ≤ all_offers sums (i + 1)
all_offers_more sums i n now new size under =
    let own = sums_of sums i in
    let negative : RowSums → Bool = λ own. nat_lt own.gain own.loss in
    all_by (nat_lt own.loss own.gain) _ _ (count_by negative sums) (count_by negative (take n sums)) now new
    (count_more (λ own. nat_lt own.loss own.gain) sums i under)
    (ap (count_by negative) (take_all n sums (omega (arith, size))))

-- all pairs
pub all_offers_whole : (sums : List RowSums) (n : ℕ) → length sums ≡ n → all_offers sums n ≡ count_by (λ own. nat_lt own.loss own.gain) sums * count_by (λ own. nat_lt own.gain own.loss) sums
all_offers_whole sums n size = ap (λ (l : List RowSums). count_by (λ own. nat_lt own.loss own.gain) l * count_by (λ own. nat_lt own.gain own.loss) sums) (take_all n sums (omega (arith, size)))
