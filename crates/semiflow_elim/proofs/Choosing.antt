-- Looking for the column with the fewest candidates, one column after another.
use Rattle.std.proofs.Common.{◌≡◌, refl, sym, ◌∙◌, subst, ℕ, ◌+◌, ◌<◌, ◌≤◌, Bool, true, false, List, Option, None, Some, inl, inr, arith}
use Rattle.std.proofs.lemmas.Bool.{cases_lt, false≢true}
use Rattle.net_values.specs.PlaceSets.{has}
use Rattle.incidence.specs.Matrix.{Matrix}
use Rattle.semiflow_elim.specs.Bases.{in_set}
use Rattle.semiflow_elim.specs.Choices.{IsBeaten, IsBest}
use Rattle.semiflow_elim.specs.Elimination.{IsChosen, candidate_count}
use Rattle.semiflow_elim.specs.declared.choice.Choice.{Choice}
use Rattle.semiflow_elim.proofs.TakenSets.{outside, outside_is}

-- what holds below n and at n holds below n + 1
pub up_to : (P : ℕ → Type 0) (n : ℕ) → ((j : ℕ) → j < n → P j) → P n → (j : ℕ) → j < n + 1 → P j
up_to P n below here j under =
    elim (cases_lt j n) [
      | inl less ↦ below j less
      | inr above ↦ let same : n ≡ j = omega arith in subst P same here
    ]

module _ (taken : List Bool) (count_at : ℕ → ℕ) (n : ℕ) where
  -- a column of the set is passed over
  pub best_skip : (best : Option Choice) → has taken n ≡ true → IsBest taken count_at n best → IsBest taken count_at (n + 1) best
  best_skip None inside h = up_to (λ j. has taken j ≡ false → ⊥) n h (λ out. false≢true (sym out ∙ inside))
  best_skip (Some choice) inside h = record {
    within = let within = h.within in omega arith;
    outside = h.outside;
    count = h.count;
    fewest = up_to (λ j. has taken j ≡ false → choice.count ≤ count_at j) n h.fewest (λ out. absurd (false≢true (sym out ∙ inside)));
    lowest = h.lowest;
  }

  -- the choice stays where the column has no fewer candidates
  pub best_stays : (choice : Choice) → IsBest taken count_at n (Some choice) → choice.count ≤ count_at n → IsBest taken count_at (n + 1) (Some choice)
  best_stays choice h few = record {
    within = let within = h.within in omega arith;
    outside = h.outside;
    count = h.count;
    fewest = up_to (λ j. has taken j ≡ false → choice.count ≤ count_at j) n h.fewest (λ out. few);
    lowest = h.lowest;
  }

  -- and else the column takes its place
  pub best_moves : (best : Option Choice) (count : ℕ) → IsBest taken count_at n best → has taken n ≡ false → count ≡ count_at n → ((choice : Choice) → best ≡ Some choice → count < choice.count) → IsBest taken count_at (n + 1) (Some record { column = n; count = count })
  best_moves None count h out is less = record {
    within = omega arith;
    outside = out;
    count = is;
    fewest = up_to (λ j. has taken j ≡ false → count ≤ count_at j) n (λ j under free. absurd (h j under free)) (λ free. omega arith);
    lowest = λ j under free. absurd (h j under free);
  }
  best_moves (Some choice) count h out is less =
      let below = less choice refl in
      record {
        within = omega arith;
        outside = out;
        count = is;
        fewest = up_to (λ j. has taken j ≡ false → count ≤ count_at j) n (λ j under free. let few = h.fewest j under free in omega arith) (λ free. omega arith);
        lowest = λ j under free. let few = h.fewest j under free in omega arith;
      }

-- a number that beats the best choice is below that of each choice that it may be
pub beaten_by : (best : Option Choice) (count : ℕ) → IsBeaten best count → (choice : Choice) → best ≡ Some choice → count < choice.count
beaten_by best count beaten choice same = subst (λ (b : Option Choice). IsBeaten b count) same beaten

-- in the end it is the column of the step
pub best_chosen : (m : Matrix) (taken : List Bool) (rows : List (List ℕ)) (count_at : ℕ → ℕ) (n : ℕ) (choice : Choice) → n ≡ m.columns → ((j : ℕ) → j < m.columns → has taken j ≡ false → count_at j ≡ candidate_count m j rows) → IsBest taken count_at n (Some choice) → IsChosen m (in_set taken) rows choice.column
best_chosen m taken rows count_at n choice all each h =
    let within = h.within in
    let count = h.count in
    let own = each choice.column (omega arith) h.outside in
    record {
      within = omega arith;
      outside = outside taken choice.column h.outside;
      fewest = λ j under out. let few = h.fewest j (omega arith) (outside_is (has taken j) out) in let at = each j under (outside_is (has taken j) out) in omega arith;
      lowest = λ j under out. let few = h.lowest j under (outside_is (has taken j) out) in let at = each j (omega arith) (outside_is (has taken j) out) in omega arith;
    }

pub best_counted : (m : Matrix) (taken : List Bool) (rows : List (List ℕ)) (count_at : ℕ → ℕ) (n : ℕ) (choice : Choice) → n ≡ m.columns → ((j : ℕ) → j < m.columns → has taken j ≡ false → count_at j ≡ candidate_count m j rows) → IsBest taken count_at n (Some choice) → choice.count ≡ candidate_count m choice.column rows
best_counted m taken rows count_at n choice all each h = h.count ∙ each choice.column (let within = h.within in omega arith) h.outside
