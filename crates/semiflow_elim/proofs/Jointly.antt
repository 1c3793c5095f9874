-- The sums of a combination are those of its two rows, multiplied and divided.
use Rattle.std.proofs.Common.{◌≡◌, sym, ap, ◌∙◌, ℕ, ◌+◌, ◌*◌, ◌/◌, ◌<◌, List, [], length, slice_index, inl, inr, arith}
use Rattle.std.specs.Int.{◌∣◌}
use Rattle.std.proofs.Math.Nat.{mul-div_cancel'}
use Rattle.incidence.specs.Matrix.{Matrix, gain_sum, loss_sum, positive_at, negative_at}
use Rattle.semiflow_elim.specs.Carried.{CarryTheirs, list_of, sums_in}
use Rattle.semiflow_elim.specs.Elimination.{AreNarrowOutside, row_of}
use Rattle.semiflow_elim.specs.Merged.{AreJoint, AreExact, IsCombinedBy}
use Rattle.semiflow_elim.specs.declared.carried.ColumnSums.{ColumnSums}
use Rattle.semiflow_elim.specs.declared.merged.Multiples.{Multiples}
use Rattle.semiflow_elim.proofs.Weighted.{weighted_join, weighted_scale}

-- what rows carry is exact where no sum is wide
pub carried_exact : (m : Matrix) (K K' : ℕ → Type 0) (rows : List (List ℕ)) (carried : List (List ColumnSums)) → ((j : ℕ) → K j → K' j) → CarryTheirs m K rows carried → AreNarrowOutside m K rows → AreExact m K' rows carried
carried_exact m K K' rows carried more h narrow =
    let at : (k j : ℕ) → k < length rows → j < m.columns → (K' j → ⊥) → ((sums_in (list_of carried k) j).gain ≡ gain_sum m j (slice_index (row_of rows k))) × ((sums_in (list_of carried k) j).loss ≡ loss_sum m j (slice_index (row_of rows k))) =
    λ k j under within out. elim ((h.each k under).each j within (λ inside. out (more j inside))) [
      | inl exact ↦ (exact.1, exact.2)
      | inr wide ↦ absurd (wide.0 (narrow j within (λ inside. out (more j inside)) k [] under))
    ]
    in
    record {
      size = h.size;
      listed = λ k under. (h.each k under).listed;
      gains = λ k j under within out. (at k j under within out).0;
      losses = λ k j under within out. (at k j under within out).1;
    }

quotient_entry : (p d q : ℕ) → q ≡ p / d → d ∣ p → p ≡ d * q
quotient_entry p d q is divides = sym (ap (λ z. d * z) is ∙ mul-div_cancel' d divides)

joint_is : (d e s w x y r t x' y' r' t' : ℕ) → d ≡ e → w ≡ e * s → w ≡ x * r + y * t → x' ≡ x → y' ≡ y → r' ≡ r → t' ≡ t → d * s ≡ x' * r' + y' * t'
joint_is d e s w x y r t x' y' r' t' d_is scaled joined x_is y_is r_is t_is =
    ap (λ (n : ℕ). n * s) d_is ∙ sym scaled ∙ joined
    ∙ ap (λ (n : ℕ). n * r + y * t) (sym x_is) ∙ ap (λ (n : ℕ). x' * r + n * t) (sym y_is)
    ∙ ap (λ (n : ℕ). x' * n + y' * t) (sym r_is) ∙ ap (λ (n : ℕ). x' * r' + y' * n) (sym t_is)

pub pair_joint : (m : Matrix) (K : ℕ → Type 0) (rows : List (List ℕ)) (carried : List (List ColumnSums)) (i k a b : ℕ) (r s row : List ℕ) (by : Multiples) (first second : List ColumnSums) → AreExact m K rows carried → i < length rows → k < length rows → r ≡ row_of rows i → s ≡ row_of rows k → first ≡ list_of carried i → second ≡ list_of carried k → length (row_of rows i) ≡ m.rows → IsCombinedBy r s a b row by → AreJoint m K (slice_index row) by first second
pair_joint m K rows carried i k a b r s row by first second exact one two r_is s_is first_is second_is size made j within out =
    let c = made.combined in
    let length_is : length r ≡ m.rows = ap length r_is ∙ size in
    let joined : (p : ℕ) → p < m.rows → slice_index c.sums p ≡ (b / c.g) * slice_index r p + (a / c.g) * slice_index s p = λ p under. c.sums_are.entries p (omega arith) in
    let scaled : (p : ℕ) → p < m.rows → slice_index c.sums p ≡ c.divisor * slice_index row p = λ p under. quotient_entry (slice_index c.sums p) c.divisor (slice_index row p) (c.entries p) (c.divisor_is.divides p (omega arith)) in
    let gain_first : (sums_in first j).gain ≡ gain_sum m j (slice_index r) = ap (λ (l : List ColumnSums). (sums_in l j).gain) first_is ∙ exact.gains i j one within out ∙ ap (λ (l : List ℕ). gain_sum m j (slice_index l)) (sym r_is) in
    let gain_second : (sums_in second j).gain ≡ gain_sum m j (slice_index s) = ap (λ (l : List ColumnSums). (sums_in l j).gain) second_is ∙ exact.gains k j two within out ∙ ap (λ (l : List ℕ). gain_sum m j (slice_index l)) (sym s_is) in
    let loss_first : (sums_in first j).loss ≡ loss_sum m j (slice_index r) = ap (λ (l : List ColumnSums). (sums_in l j).loss) first_is ∙ exact.losses i j one within out ∙ ap (λ (l : List ℕ). loss_sum m j (slice_index l)) (sym r_is) in
    let loss_second : (sums_in second j).loss ≡ loss_sum m j (slice_index s) = ap (λ (l : List ColumnSums). (sums_in l j).loss) second_is ∙ exact.losses k j two within out ∙ ap (λ (l : List ℕ). loss_sum m j (slice_index l)) (sym s_is) in
    record {
      gain = joint_is by.divisor c.divisor (gain_sum m j (slice_index row)) (gain_sum m j (slice_index c.sums)) (b / c.g) (a / c.g) (gain_sum m j (slice_index r)) (gain_sum m j (slice_index s)) by.first by.second (sums_in first j).gain (sums_in second j).gain made.divisor
          (weighted_scale m.rows (λ p. positive_at m p j) (slice_index c.sums) (slice_index row) c.divisor scaled)
          (weighted_join m.rows (λ p. positive_at m p j) (slice_index c.sums) (slice_index r) (slice_index s) (b / c.g) (a / c.g) joined) made.first made.second gain_first gain_second;
      loss = joint_is by.divisor c.divisor (loss_sum m j (slice_index row)) (loss_sum m j (slice_index c.sums)) (b / c.g) (a / c.g) (loss_sum m j (slice_index r)) (loss_sum m j (slice_index s)) by.first by.second (sums_in first j).loss (sums_in second j).loss made.divisor
          (weighted_scale m.rows (λ p. negative_at m p j) (slice_index c.sums) (slice_index row) c.divisor scaled)
          (weighted_join m.rows (λ p. negative_at m p j) (slice_index c.sums) (slice_index r) (slice_index s) (b / c.g) (a / c.g) joined) made.first made.second loss_first loss_second;
    }
