-- The rows that stay with the combinations of the adjacent pairs are a basis over one column more, and there are
-- at most as many as the step has candidates.
use Rattle.std.proofs.Common.{◌≡◌, refl, sym, ap, ◌∙◌, subst, ℕ, ◌+◌, ◌-◌, ◌<◌, ◌≤◌, List, [], ◌++◌, length, get_or, slice_index, length-append, inl, inr, arith}
use Rattle.std.proofs.lemmas.Bool.{cases_lt}
use Rattle.std.proofs.lemmas.List.{get_or_append_left, get_or-append_right, get_or_default, get_or_past}
use Rattle.support_prune.specs.Pools.{AreApart}
use Rattle.incidence.specs.Matrix.{Matrix}
use Rattle.incidence.specs.Semiflow.{IsWithin}
use Rattle.semiflow_elim.specs.Added.{IsAdded}
use Rattle.semiflow_elim.specs.Adjacent.{IsZeroRow, IsJoinedRow}
use Rattle.semiflow_elim.specs.Bases.{IsBasis, HasBelow, IsGood}
use Rattle.semiflow_elim.specs.Candidates.{signs_total}
use Rattle.semiflow_elim.specs.Elimination.{row_of}
use Rattle.semiflow_elim.specs.Kept.{Stays, AreKept}
use Rattle.semiflow_elim.specs.declared.carried.ColumnSums.{ColumnSums}
use Rattle.semiflow_elim.specs.declared.signs.RowSums.{RowSums}
use Rattle.semiflow_elim.proofs.Adjacency.{adjacent_basis, zero_row_good, joined_row_good, zeros_apart, zero_joined_apart}
use Rattle.semiflow_elim.proofs.Offers.{all_offers_whole}
use Rattle.semiflow_elim.proofs.CandidateLemmas.{Extends}

module _ (m : Matrix) (c : ℕ) (rows joined new : List (List ℕ)) (sums : List RowSums) (K K' : ℕ → Type 0) (more : Extends K c K') (basis : IsBasis m K rows) (column : c < m.columns) (added : IsAdded m c rows sums joined) (old_carried carried : List (List ColumnSums)) (kept : AreKept sums (rows ++ joined) old_carried new carried) where
  -- row a of the list before those that go are gone
  old_row : (a : ℕ) → a < length rows → row_of (rows ++ joined) a ≡ row_of rows a
  old_row a under = get_or_append_left rows joined [] a under

  new_row : (a : ℕ) → length rows ≤ a → row_of (rows ++ joined) a ≡ row_of joined (a - length rows)
  new_row a past = get_or-append_right rows joined (length rows) a [] refl past

  zero_row : (a : ℕ) → a < length rows → Stays sums a → IsZeroRow m c rows a (row_of (rows ++ joined) a)
  zero_row a under stays = record {
    within = under;
    equal = sym (added.sums_are.gains a under) ∙ stays ∙ added.sums_are.losses a under;
    same = old_row a under;
  }

  joined_row : (a : ℕ) → length rows ≤ a → a < length (rows ++ joined) → (i : ℕ) × (k : ℕ) × IsJoinedRow m c rows i k (row_of (rows ++ joined) a)
  joined_row a past under =
      let source = added.joined_are.sources (a - length rows) [] (omega (arith, under, length-append rows joined)) in
      (source.0, source.1, subst (IsJoinedRow m c rows source.0 source.1) (sym (new_row a past)) source.3)

  row_good : (a : ℕ) → a < length (rows ++ joined) → Stays sums a → IsGood m K' (row_of (rows ++ joined) a)
  row_good a under stays =
      elim (cases_lt a (length rows)) [
        | inl old ↦
            let is = zero_row_good m K K' c rows basis more a (row_of (rows ++ joined) a) (zero_row a old stays) in
            record { size = is.size; semiflow = is.minimal.semiflow; coprime = is.minimal.coprime }
        | inr past ↦
            let j = joined_row a past under in
            let is = joined_row_good m K K' c rows basis more j.0 j.1 (row_of (rows ++ joined) a) column j.2 in
            record { size = is.size; semiflow = is.minimal.semiflow; coprime = is.minimal.coprime }
      ]

  rows_apart : (a b : ℕ) → a < b → b < length (rows ++ joined) → Stays sums a → Stays sums b → AreApart (row_of (rows ++ joined) a) (row_of (rows ++ joined) b)
  rows_apart a b order under first second =
      elim (cases_lt b (length rows)) [
        | inl old ↦ zeros_apart m K K' c rows basis more a b _ _ (zero_row a (omega arith) first) (zero_row b old second) (λ same. omega (arith, same))
        | inr past ↦ elim (cases_lt a (length rows)) [
          | inl early ↦ let j = joined_row b past under in zero_joined_apart m K K' c rows basis more a j.0 j.1 _ _ (zero_row a early first) j.2
          | inr late ↦
              let both : AreApart (row_of joined (a - length rows)) (row_of joined (b - length rows)) = added.joined_are.apart (a - length rows) (b - length rows) [] (omega arith) (omega (arith, under, length-append rows joined)) in
              subst (λ (row : List ℕ). AreApart row (row_of (rows ++ joined) b)) (sym (new_row a late)) (subst (AreApart (row_of joined (a - length rows))) (sym (new_row b past)) both)
        ]
      ]

  two_apart : (a b : ℕ) → (a ≡ b → ⊥) → a < length (rows ++ joined) → b < length (rows ++ joined) → Stays sums a → Stays sums b → AreApart (row_of (rows ++ joined) a) (row_of (rows ++ joined) b)
  two_apart a b other first_within second_within first second =
      elim (cases_lt a b) [
        | inl less ↦ rows_apart a b less second_within first second
        | inr more ↦ elim (cases_lt b a) [
          | inl less ↦ let apart = rows_apart b a less first_within second first in record { forth = apart.back; back = apart.forth }
          | inr none ↦ absurd (other (omega arith))
        ]
      ]

  kept_below : (a : ℕ) (y : ℕ → ℕ) → a < length (rows ++ joined) → Stays sums a → IsWithin m (slice_index (row_of (rows ++ joined) a)) y → HasBelow m new y
  kept_below a y under stays within =
      let p = kept.places a under stays in
      (p.0, row_of (rows ++ joined) a, p.1, get_or_default new p.0 (row_of (rows ++ joined) a) [] p.1 ∙ p.2, within)

  past_stays : (a : ℕ) → length rows ≤ a → Stays sums a
  past_stays a past =
      let size = added.sums_are.size in
      let none = get_or_past sums a record { gain = 0; loss = 0; largest = 0 } (omega arith) in
      ap (λ (own : RowSums). own.gain) none ∙ sym (ap (λ (own : RowSums). own.loss) none)

  pub kept_basis : IsBasis m K' new
  kept_basis =
      adjacent_basis m K K' c rows basis more new column
      (λ j d under.
      let s = kept.sources j under in
      subst (IsGood m K') (sym (get_or_default new j d [] under ∙ s.3)) (row_good s.0 s.1 s.2))
      (λ j k d before under.
      let o = kept.two j k before under in
      let both = two_apart o.a o.b o.apart o.first_within o.second_within o.first_stays o.second_stays in
      subst (λ (row : List ℕ). AreApart row (get_or new k d)) (sym (get_or_default new j d [] (omega arith) ∙ o.first))
      (subst (AreApart (row_of (rows ++ joined) o.a)) (sym (get_or_default new k d [] under ∙ o.second)) both))
      record {
        zeros = λ i under equal.
            let stays : Stays sums i = added.sums_are.gains i under ∙ equal ∙ sym (added.sums_are.losses i under) in
            kept_below i (slice_index (row_of rows i)) (omega (arith, under, length-append rows joined)) stays
            (λ x inside some. subst (λ (row : List ℕ). 0 < slice_index row x) (old_row i under) some);
        pairs = λ i k first second pair adjacent.
            let found = added.joined_are.pairs i k (inl first) second pair adjacent in
            let at : ℕ = length rows + found.0 in
            let place : at - length rows ≡ found.0 = omega arith in
            let row : row_of (rows ++ joined) at ≡ found.1 = new_row at (omega arith) ∙ ap (row_of joined) place ∙ get_or_default joined found.0 [] found.1 found.2 ∙ found.3 in
            kept_below at (λ x. slice_index (row_of rows i) x + slice_index (row_of rows k) x) (omega (arith, found.2, length-append rows joined)) (past_stays at (omega arith))
            (λ x inside some. found.4 x inside (subst (λ (l : List ℕ). 0 < slice_index l x) row some));
      }

  pub kept_few : (budget : ℕ) → signs_total sums ≤ budget → length new ≤ budget
  kept_few budget met =
      let count = kept.count in
      let pairs = added.count in
      let size = added.sums_are.size in
      let whole = all_offers_whole sums (length rows) size in
      let all = length-append rows joined in
      omega arith
