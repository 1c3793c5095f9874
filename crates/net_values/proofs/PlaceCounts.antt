-- How many places below one are in, counted by words: a word's bits are counted at once, and of the last word the
-- lower bits only.
use Rattle.std.proofs.Common.{◌≡◌, refl, sym, ap, ◌∙◌, ℕ, zero, suc, ◌+◌, ◌-◌, ◌*◌, ◌/◌, ◌%◌, ◌^◌, ◌<◌, ◌≤◌, ◌==◌, List, [], ◌∷◌, Bool, true, false, slice_index, inl, inr, arith}
use Rattle.std.specs.Int.{bit_at}
use Rattle.std.specs.Int.RustNames.{count_ones}
use Rattle.std.proofs.lemmas.Bool.{cases_lt}
use Rattle.std.proofs.lemmas.Nat.{ones-le, div-add-mod'}
use Rattle.std.proofs.lemmas.Nat.Bits.{bit_at_lowest, bit_at-suc, bit_at-lt}
use lib.Count.{ones_step}
use Rattle.net_values.specs.PlaceSets.{has, members_below}
use Rattle.net_values.specs.PlaceWords.{AreWords, word_has, members_of, one_if, count_under, has_bit_at}
use Rattle.net_values.proofs.PlaceWords.{at_bit, in_is, out_is, bit_below, has_member}

-- counts of tests that agree, of one more at the front, and of two parts
pub count_same : (f g : ℕ → Bool) (n : ℕ) → ((i : ℕ) → i < n → f i ≡ g i) → count_under f n ≡ count_under g n
count_same f g zero same = refl
count_same f g (suc n) same =
    let rest = count_same f g n (λ i under. same i (omega arith)) in
    let here : one_if (f n) ≡ one_if (g n) = ap one_if (same n (omega arith)) in
    omega arith

count_front : (f : ℕ → Bool) (n : ℕ) → count_under f (suc n) ≡ one_if (f 0) + count_under (λ i. f (suc i)) n
count_front f zero = omega arith
count_front f (suc n) = let rest = count_front f n in omega arith

pub count_parts : (f : ℕ → Bool) (n m : ℕ) → count_under f (n + m) ≡ count_under f n + count_under (λ i. f (n + i)) m
count_parts f n zero = let same : n + 0 ≡ n = omega arith in ap (count_under f) same ∙ omega arith
count_parts f n (suc m) =
    let rest = count_parts f n m in
    let same : n + suc m ≡ suc (n + m) = omega arith in
    let more : count_under f (n + suc m) ≡ count_under f (suc (n + m)) = ap (count_under f) same in
    omega arith

pub count_none : (f : ℕ → Bool) (n : ℕ) → ((i : ℕ) → i < n → f i ≡ false) → count_under f n ≡ 0
count_none f zero none = refl
count_none f (suc n) none =
    let rest = count_none f n (λ i under. none i (omega arith)) in
    let here : one_if (f n) ≡ 0 = ap one_if (none n (omega arith)) in
    omega arith

-- the bits of a word
lowest_counts : (w : ℕ) → one_if (has_bit_at w 0) ≡ w % 2
lowest_counts w =
    let low = bit_at_lowest w in
    let small = bit_at-lt w 0 in
    elim (cases_lt 0 (bit_at w 0)) [
      | inr none ↦ let is : one_if (has_bit_at w 0) ≡ 0 = ap one_if (out_is w 0 (omega arith)) in omega arith
      | inl one ↦ let is : one_if (has_bit_at w 0) ≡ 1 = ap one_if (in_is w 0 (omega arith)) in omega arith
    ]

pub ones_counted : (n w : ℕ) → w < 2 ^ n → count_ones w ≡ count_under (has_bit_at w) n
ones_counted zero w small = let none = ones-le 0 w small in omega arith
ones_counted (suc n) w small =
    let half : w / 2 < 2 ^ n = omega (arith, div-add-mod' w 2) in
    let rest = ones_counted n (w / 2) half in
    let step = ones_step w in
    let front = count_front (has_bit_at w) n in
    let low = lowest_counts w in
    let same : count_under (λ i. has_bit_at w (suc i)) n ≡ count_under (has_bit_at (w / 2)) n = count_same _ _ n (λ i under. ap (λ (x : ℕ). x == 1) (bit_at-suc w i)) in
    omega arith

-- a word more
pub word_more : (words : List ℕ) (k i : ℕ) → i ≤ 64 → count_under (word_has words) (k * 64 + i) ≡ count_under (word_has words) (k * 64) + count_under (has_bit_at (slice_index words k)) i
word_more words k i under =
    count_parts (word_has words) (k * 64) i
    ∙ ap (λ (n : ℕ). count_under (word_has words) (k * 64) + n) (count_same _ _ i (λ j below. at_bit words k j (omega arith)))

pub whole_more : (words : List ℕ) (k : ℕ) → count_under (word_has words) ((k + 1) * 64) ≡ count_under (word_has words) (k * 64) + count_under (has_bit_at (slice_index words k)) 64
whole_more words k = let next : (k + 1) * 64 ≡ k * 64 + 64 = omega arith in ap (count_under (word_has words)) next ∙ word_more words k 64 (omega arith)

-- the lower bits of a word
pub low_counted : (word low i : ℕ) → i ≤ 64 → ((j : ℕ) → j < i → j < 64 → bit_at low j ≡ bit_at word j) → ((j : ℕ) → i ≤ j → j < 64 → bit_at low j ≡ 0) → count_under (has_bit_at low) 64 ≡ count_under (has_bit_at word) i
low_counted word low i under inside outside =
    let parts = count_parts (has_bit_at low) i (64 - i) in
    let all : i + (64 - i) ≡ 64 = omega arith in
    let whole : count_under (has_bit_at low) (i + (64 - i)) ≡ count_under (has_bit_at low) 64 = ap (count_under (has_bit_at low)) all in
    let lower = count_same (has_bit_at low) (has_bit_at word) i (λ j below. ap (λ (x : ℕ). x == 1) (inside j below (omega arith))) in
    let upper = count_none (λ j. has_bit_at low (i + j)) (64 - i) (λ j below. out_is low (i + j) (outside (i + j) (omega arith) (omega arith))) in
    omega arith

pub below_counted : (words : List ℕ) (p low : ℕ) → ((j : ℕ) → j < p % 64 → j < 64 → bit_at low j ≡ bit_at (slice_index words (p / 64)) j) → ((j : ℕ) → p % 64 ≤ j → j < 64 → bit_at low j ≡ 0) → count_under (word_has words) (p / 64 * 64) + count_under (has_bit_at low) 64 ≡ count_under (word_has words) p
below_counted words p low inside outside =
    let limit = bit_below p in
    let last = low_counted (slice_index words (p / 64)) low (p % 64) (omega arith) inside outside in
    let more = word_more words (p / 64) (p % 64) (omega arith) in
    let place : p / 64 * 64 + p % 64 ≡ p = div-add-mod' p 64 in
    let all : count_under (word_has words) (p / 64 * 64 + p % 64) ≡ count_under (word_has words) p = ap (count_under (word_has words)) place in
    omega arith

-- the set
members_counted : (set : List Bool) (p : ℕ) → members_below set p ≡ count_under (has set) p
members_counted [] p = sym (count_none (has []) p (λ i under. refl))
members_counted (b ∷ set) zero = refl
members_counted (true ∷ set) (suc p) =
    let front = count_front (has (true ∷ set)) p in
    let rest = members_counted set p in
    omega arith
members_counted (false ∷ set) (suc p) =
    let front = count_front (has (false ∷ set)) p in
    let rest = members_counted set p in
    omega arith

pub set_counted : (words : List ℕ) (size p : ℕ) → AreWords words size → count_under (word_has words) p ≡ members_below (members_of words size) p
set_counted words size p w = count_same (word_has words) (has (members_of words size)) p (λ i under. sym (has_member words size i w)) ∙ sym (members_counted (members_of words size) p)
