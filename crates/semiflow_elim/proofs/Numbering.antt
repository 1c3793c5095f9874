-- Listing the numbers at which a test holds, and going over them: between two that follow each other it holds at none.
use Rattle.std.proofs.Common.{◌≡◌, refl, sym, ap, ◌∙◌, subst, ℕ, zero, suc, ◌+◌, ◌-◌, ◌<◌, ◌≤◌, Bool, true, false, List, [], ◌∷◌, ◌++◌, length, get_or, take, slice_index, All, inl, inr, arith}
use Rattle.std.specs.Prelude.{count_by}
use Rattle.std.proofs.lemmas.Bool.{cases_lt, cases_eq, false≢true}
use Rattle.std.proofs.lemmas.List.{get_or_default, get_or_append_left, get_or_push, get_or_past, length_push}
use Rattle.std.proofs.lemmas.List.Elements.{All-append}
use Rattle.std.proofs.lemmas.List.Quantifiers.{all_pairs_push}
use Rattle.incidence.specs.Matrix.{Matrix}
use Rattle.semiflow_elim.specs.Adjacent.{AreJoined}
use Rattle.semiflow_elim.specs.Candidates.{row_offers, all_offers}
use Rattle.semiflow_elim.specs.Elimination.{IsPair, row_of}
use Rattle.semiflow_elim.specs.Numbers.{AreNumbers, next_of}
use Rattle.semiflow_elim.specs.declared.signs.RowSums.{RowSums}
use Rattle.semiflow_elim.proofs.AdjacentLists.{joined_skip, joined_next}
use Rattle.semiflow_elim.proofs.Offers.{count_more}

pub numbers_none : (test : ℕ → Bool) → AreNumbers test 0 []
numbers_none test = record {
  ascending = λ i j d before under. absurd (omega arith);
  within = λ k d under. absurd (omega arith);
  holds = λ k d under. absurd (omega arith);
  complete = λ a under. absurd (omega arith);
}

one_is : (P : ℕ → Type 0) (a : ℕ) → P a → All P (a ∷ [])
one_is P a last zero d under = last
one_is P a last (suc k) d under = absurd (omega arith)

-- one more number, at which the test holds
pub numbers_push : (test : ℕ → Bool) (n : ℕ) (numbers : List ℕ) → AreNumbers test n numbers → test n ≡ true → AreNumbers test (n + 1) (numbers ++ n ∷ [])
numbers_push test n numbers h is =
    let size = length_push numbers n in
    record {
      ascending = all_pairs_push (λ a b. a < b) numbers n h.ascending h.within;
      within = All-append (λ a. a < n + 1) numbers (n ∷ []) (λ k d under. let below = h.within k d under in omega arith) (one_is (λ a. a < n + 1) n (omega arith));
      holds = All-append (λ a. test a ≡ true) numbers (n ∷ []) h.holds (one_is (λ a. test a ≡ true) n is);
      complete = λ a under holds. elim (cases_lt a n) [
        | inl below ↦ let found = h.complete a below holds in (found.0, omega (arith, found.1, size), get_or_append_left numbers (n ∷ []) 0 found.0 found.1 ∙ found.2)
        | inr above ↦ (length numbers, omega (arith, size), get_or_push numbers n 0 (length numbers) refl ∙ omega arith)
      ];
    }

-- it doesn't hold there
pub numbers_skip : (test : ℕ → Bool) (n : ℕ) (numbers : List ℕ) → AreNumbers test n numbers → test n ≡ false → AreNumbers test (n + 1) numbers
numbers_skip test n numbers h isn't = record {
  ascending = h.ascending;
  within = λ k d under. let below = h.within k d under in omega arith;
  holds = h.holds;
  complete = λ a under holds. elim (cases_lt a n) [
    | inl below ↦ h.complete a below holds
    | inr above ↦ let same : n ≡ a = omega arith in absurd (false≢true (sym isn't ∙ ap test same ∙ holds))
  ];
}

pub numbers_same : (test other : ℕ → Bool) (n : ℕ) (numbers : List ℕ) → ((a : ℕ) → a < n → test a ≡ other a) → AreNumbers test n numbers → AreNumbers other n numbers
numbers_same test other n numbers same h = record {
  ascending = h.ascending;
  within = h.within;
  holds = λ k d under. sym (same (get_or numbers k d) (h.within k d under)) ∙ h.holds k d under;
  complete = λ a under holds. h.complete a under (same a under ∙ holds);
}

module _ (test : ℕ → Bool) (n : ℕ) (numbers : List ℕ) (h : AreNumbers test n numbers) where
  pub next_within : (p : ℕ) → next_of numbers n p ≤ n
  next_within p = elim (cases_lt p (length numbers)) [
    | inl inside ↦ let below = h.within p n inside in omega arith
    | inr past ↦ let end = get_or_past numbers p n past in omega arith
  ]

  -- before the first, and after number p and before the next one, it holds at none
  gap_at : (p a q : ℕ) → ((k : ℕ) → k < p → slice_index numbers k < a) → a < next_of numbers n p → q < length numbers → slice_index numbers q ≡ a → ⊥
  gap_at p a q passed before inside is =
      elim (cases_lt q p) [
        | inl early ↦ let less = passed q early in absurd (omega arith)
        | inr late ↦
            let first : get_or numbers p n ≡ get_or numbers p 0 = get_or_default numbers p n 0 (omega arith) in
            elim (cases_eq p q) [
              | inl same ↦ let read = ap (λ (k : ℕ). slice_index numbers k) same in absurd (omega arith)
              | inr other ↦ let less = h.ascending p q 0 (omega arith) inside in absurd (omega arith)
            ]
      ]

  pub gap : (p a : ℕ) → ((k : ℕ) → k < p → slice_index numbers k < a) → a < next_of numbers n p → test a ≡ true → ⊥
  gap p a passed before holds =
      let most = next_within p in
      let found = h.complete a (omega arith) holds in
      gap_at p a found.0 passed before found.1 found.2

  -- those before number p are below it, and so below all from there on
  pub passed_by : (p a : ℕ) → p < length numbers → slice_index numbers p < a → (k : ℕ) → k < p + 1 → slice_index numbers k < a
  passed_by p a inside less k under = elim (cases_eq k p) [
    | inl same ↦ let read = ap (λ (j : ℕ). slice_index numbers j) same in omega arith
    | inr other ↦ let below = h.ascending k p 0 (omega arith) inside in omega arith
  ]

  pub next_after : (p : ℕ) → p < length numbers → slice_index numbers p < next_of numbers n (p + 1)
  next_after p inside = elim (cases_lt (p + 1) (length numbers)) [
    | inl more ↦
        let below = h.ascending p (p + 1) 0 (omega arith) more in
        let read : get_or numbers (p + 1) n ≡ get_or numbers (p + 1) 0 = get_or_default numbers (p + 1) n 0 more in
        omega arith
    | inr past ↦
        let end = get_or_past numbers (p + 1) n past in
        let below = h.within p 0 inside in
        omega arith
  ]

module _ (m : Matrix) (c : ℕ) (rows joined : List (List ℕ)) where
  -- rows that are in no pair are passed over
  rows_forth : (i k : ℕ) → ((a b : ℕ) → i ≤ a → a < i + k → b < length rows → IsPair m c (row_of rows a) (row_of rows b) → ⊥) → AreJoined m c rows joined i 0 → AreJoined m c rows joined (i + k) 0
  rows_forth i zero none h = subst (λ (n : ℕ). AreJoined m c rows joined n 0) (omega arith) h
  rows_forth i (suc k) none h =
      let next : (i + k) + 1 ≡ i + suc k = omega arith in
      subst (λ (n : ℕ). AreJoined m c rows joined n 0) next
      (joined_next m c rows joined (i + k) 0 (λ b above under pair. none (i + k) b (omega arith) (omega arith) under pair) (rows_forth i k (λ a b from before. none a b from (omega arith)) h))

  pub rows_to : (i to : ℕ) → i ≤ to → ((a b : ℕ) → i ≤ a → a < to → b < length rows → IsPair m c (row_of rows a) (row_of rows b) → ⊥) → AreJoined m c rows joined i 0 → AreJoined m c rows joined to 0
  rows_to i to order none h =
      let sum : i + (to - i) ≡ to = omega arith in
      subst (λ (n : ℕ). AreJoined m c rows joined n 0) sum (rows_forth i (to - i) (λ a b from before. none a b from (omega arith)) h)

  -- and so are the rows with which a row makes no pair
  pairs_forth : (i n k : ℕ) → ((b : ℕ) → n ≤ b → b < n + k → IsPair m c (row_of rows i) (row_of rows b) → ⊥) → AreJoined m c rows joined i n → AreJoined m c rows joined i (n + k)
  pairs_forth i n zero none h = subst (AreJoined m c rows joined i) (omega arith) h
  pairs_forth i n (suc k) none h =
      let next : (n + k) + 1 ≡ n + suc k = omega arith in
      subst (AreJoined m c rows joined i) next
      (joined_skip m c rows joined i (n + k) (λ pair adjacent. none (n + k) (omega arith) (omega arith) pair) (λ pair. absurd (none (n + k) (omega arith) (omega arith) pair)) (pairs_forth i n k (λ b from before. none b from (omega arith)) h))

  pub pairs_to : (i n to : ℕ) → n ≤ to → ((b : ℕ) → n ≤ b → b < to → IsPair m c (row_of rows i) (row_of rows b) → ⊥) → AreJoined m c rows joined i n → AreJoined m c rows joined i to
  pairs_to i n to order none h =
      let sum : n + (to - n) ≡ to = omega arith in
      subst (AreJoined m c rows joined i) sum (pairs_forth i n (to - n) (λ b from before. none b from (omega arith)) h)

-- the counts grow on the way
count_forth : (f : RowSums → Bool) (sums : List RowSums) (k j : ℕ) → k + j ≤ length sums → count_by f (take k sums) ≤ count_by f (take (k + j) sums)
count_forth f sums k zero under = let same : k ≡ k + 0 = omega arith in let equal = ap (λ (n : ℕ). count_by f (take n sums)) same in omega arith
count_forth f sums k (suc j) under =
    let rest = count_forth f sums k j (omega arith) in
    let more = count_more f sums (k + j) (omega arith) in
    let next : (k + j) + 1 ≡ k + suc j = omega arith in
    let equal = ap (λ (n : ℕ). count_by f (take n sums)) next in
    omega arith

pub count_to : (f : RowSums → Bool) (sums : List RowSums) (k to : ℕ) → k ≤ to → to ≤ length sums → count_by f (take k sums) ≤ count_by f (take to sums)
count_to f sums k to order under =
    let sum : k + (to - k) ≡ to = omega arith in
    let equal = ap (λ (n : ℕ). count_by f (take n sums)) sum in
    let most = count_forth f sums k (to - k) (omega arith) in
    omega arith
