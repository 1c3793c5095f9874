-- Going over the positive and the negative rows of a step by their numbers: the rows between them are in no pair.
use Rattle.std.proofs.Common.{◌≡◌, sym, ◌∙◌, ℕ, ◌+◌, ◌<◌, ◌≤◌, nat_lt, Bool, true, false, cond, List, length, slice_index, take, arith}
use Rattle.std.specs.Prelude.{count_by}
use Rattle.std.proofs.lemmas.Bool.{lt-ltb}
use Rattle.std.proofs.Math.Nat.{mul-le-mul_right}
use Rattle.incidence.specs.Matrix.{Matrix}
use Rattle.semiflow_elim.specs.Adjacent.{AreJoined}
use Rattle.semiflow_elim.specs.Candidates.{IsStep, all_offers, row_offers, sums_of}
use Rattle.semiflow_elim.specs.Elimination.{IsPair, row_of}
use Rattle.semiflow_elim.specs.Numbers.{AreNumbers, next_of, gains_at, loses_at}
use Rattle.semiflow_elim.specs.declared.signs.RowSums.{RowSums}
use Rattle.semiflow_elim.proofs.Numbering.{next_within, next_after, gap, passed_by, rows_to, pairs_to, count_to}
use Rattle.semiflow_elim.proofs.Offers.{row_offers_more}

module _ (m : Matrix) (c : ℕ) (rows : List (List ℕ)) (sums : List RowSums) (numbers : List ℕ) (step : IsStep m c rows sums) where
  gains : (a b : ℕ) → a < length rows → IsPair m c (row_of rows a) (row_of rows b) → gains_at sums a ≡ true
  gains a b under pair =
      let gain = step.gains a under in
      let loss = step.losses a under in
      let up = pair.positive in
      lt-ltb (sums_of sums a).loss (sums_of sums a).gain (omega arith)

  loses : (a b : ℕ) → b < length rows → IsPair m c (row_of rows a) (row_of rows b) → loses_at sums b ≡ true
  loses a b under pair =
      let gain = step.gains b under in
      let loss = step.losses b under in
      let down = pair.negative in
      lt-ltb (sums_of sums b).gain (sums_of sums b).loss (omega arith)

  module _ (h : AreNumbers (loses_at sums) (length rows) numbers) (joined : List (List ℕ)) (i : ℕ) where
    pub pairs_before : i < length rows → AreJoined m c rows joined i 0 → AreJoined m c rows joined i (next_of numbers (length rows) 0)
    pairs_before under l =
        pairs_to m c rows joined i 0 (next_of numbers (length rows) 0) (omega arith)
        (λ b from before pair.
        let most = next_within (loses_at sums) (length rows) numbers h 0 in
        gap (loses_at sums) (length rows) numbers h 0 b (λ k none. absurd (omega arith)) before (loses i b (omega arith) pair)) l

    pub pairs_after : (q : ℕ) → q < length numbers → AreJoined m c rows joined i (slice_index numbers q + 1) → AreJoined m c rows joined i (next_of numbers (length rows) (q + 1))
    pairs_after q inside l =
        let after = next_after (loses_at sums) (length rows) numbers h q inside in
        pairs_to m c rows joined i (slice_index numbers q + 1) (next_of numbers (length rows) (q + 1)) (omega arith)
        (λ b from before pair.
        let most = next_within (loses_at sums) (length rows) numbers h (q + 1) in
        gap (loses_at sums) (length rows) numbers h (q + 1) b (passed_by (loses_at sums) (length rows) numbers h q b inside (omega arith)) before (loses i b (omega arith) pair)) l

  module _ (h : AreNumbers (gains_at sums) (length rows) numbers) (joined : List (List ℕ)) where
    pub rows_before : AreJoined m c rows joined 0 0 → AreJoined m c rows joined (next_of numbers (length rows) 0) 0
    rows_before l =
        rows_to m c rows joined 0 (next_of numbers (length rows) 0) (omega arith)
        (λ a b from before under pair.
        let most = next_within (gains_at sums) (length rows) numbers h 0 in
        gap (gains_at sums) (length rows) numbers h 0 a (λ k none. absurd (omega arith)) before (gains a b (omega arith) pair)) l

    pub rows_after : (p : ℕ) → p < length numbers → AreJoined m c rows joined (slice_index numbers p + 1) 0 → AreJoined m c rows joined (next_of numbers (length rows) (p + 1)) 0
    rows_after p inside l =
        let after = next_after (gains_at sums) (length rows) numbers h p inside in
        rows_to m c rows joined (slice_index numbers p + 1) (next_of numbers (length rows) (p + 1)) (omega arith)
        (λ a b from before under pair.
        let most = next_within (gains_at sums) (length rows) numbers h (p + 1) in
        gap (gains_at sums) (length rows) numbers h (p + 1) a (passed_by (gains_at sums) (length rows) numbers h p a inside (omega arith)) before (gains a b (omega arith) pair)) l

some_by : (b : Bool) (start less more : ℕ) → less ≤ more → start + cond b less 0 ≤ start + cond b more 0
some_by true start less more order = omega arith
some_by false start less more order = omega arith

-- the counts of the pairs go along
pub row_offers_to : (first : RowSums) (sums : List RowSums) (start k to : ℕ) → k ≤ to → to ≤ length sums → start + row_offers first sums k ≤ start + row_offers first sums to
row_offers_to first sums start k to order under =
    some_by (nat_lt first.loss first.gain) start (count_by (λ own. nat_lt own.gain own.loss) (take k sums)) (count_by (λ own. nat_lt own.gain own.loss) (take to sums)) (count_to (λ own. nat_lt own.gain own.loss) sums k to order under)

pub all_offers_to : (sums : List RowSums) (i to : ℕ) → i ≤ to → to ≤ length sums → all_offers sums i ≤ all_offers sums to
all_offers_to sums i to order under =
    mul-le-mul_right (count_by (λ own. nat_lt own.gain own.loss) sums) (count_to (λ own. nat_lt own.loss own.gain) sums i to order under)
