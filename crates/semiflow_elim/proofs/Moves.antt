-- Dropping the rows that don't stay, from the last one down: the last row, which takes the place of one that goes,
-- was looked at before.
use Rattle.std.proofs.Common.{◌≡◌, ◌≢◌, refl, sym, ap, ◌∙◌, subst, ℕ, ◌+◌, ◌-◌, ◌<◌, ◌≤◌, ◌==◌, List, [], length, inl, inr, arith}
use Rattle.std.specs.Prelude.{count_by}
use Rattle.std.proofs.lemmas.Bool.{cases_eq, eq-eqb, cond-true}
use Rattle.std.proofs.lemmas.List.{take_all, get_or_past}
use Rattle.semiflow_elim.specs.Candidates.{sums_of}
use Rattle.semiflow_elim.specs.Elimination.{row_of}
use Rattle.semiflow_elim.specs.Kept.{Stays, IsDropped, AreTwo, AreSwept, AreKept}
use Rattle.semiflow_elim.specs.Carried.{list_of}
use Rattle.semiflow_elim.specs.declared.carried.ColumnSums.{ColumnSums}
use Rattle.semiflow_elim.specs.declared.signs.RowSums.{RowSums}
use Rattle.semiflow_elim.proofs.Offers.{count_more}

abbrev zeros_of : List RowSums → ℕ
zeros_of sums = count_by (λ own. own.gain == own.loss) sums

past_stays : (sums : List RowSums) (a : ℕ) → length sums ≤ a → Stays sums a
past_stays sums a past =
    let none = get_or_past sums a record { gain = 0; loss = 0; largest = 0 } past in
    ap (λ (own : RowSums). own.gain) none ∙ sym (ap (λ (own : RowSums). own.loss) none)

-- rows past the end of the sums stay
pub swept_none : (sums : List RowSums) (old : List (List ℕ)) (carried : List (List ColumnSums)) → length carried ≡ length old → length sums ≤ length old → AreSwept sums old carried old carried (length sums)
swept_none sums old carried both few = record {
  within = few;
  carried_size = both;
  left = λ k under. refl;
  carried_left = λ k under. refl;
  below = few;
  sources = λ j past under. (j, past, under, past_stays sums j past, refl, refl);
  places = λ a past under stays. (a, past, under, refl);
  two = λ j k past before under. record {
    a = j;
    b = k;
    apart = λ same. omega (arith, same);
    first_within = omega arith;
    second_within = under;
    first_stays = past_stays sums j past;
    second_stays = past_stays sums k (omega arith);
    first = refl;
    second = refl;
  };
  count = let whole = ap zeros_of (take_all (length sums) sums (omega arith)) in omega arith;
}

module _ (sums : List RowSums) (old : List (List ℕ)) (old_carried : List (List ColumnSums)) (now : List (List ℕ)) (carried : List (List ColumnSums)) (i : ℕ) (under_sums : i < length sums) (h : AreSwept sums old old_carried now carried (i + 1)) where
  -- row i stays
  pub swept_stay : Stays sums i → AreSwept sums old old_carried now carried i
  swept_stay stays =
      let within = h.within in
      let below = h.below in
      record {
        within = omega arith;
        carried_size = h.carried_size;
        left = λ k under. h.left k (omega arith);
        carried_left = λ k under. h.carried_left k (omega arith);
        below = omega arith;
        sources = λ j past under. elim (cases_eq j i) [
          | inl same ↦ (i, omega arith, omega arith, stays, ap (row_of now) same ∙ h.left i (omega arith), ap (list_of carried) same ∙ h.carried_left i (omega arith))
          | inr other ↦ let s = h.sources j (omega arith) under in (s.0, omega (arith, s.1), s.2, s.3, s.4, s.5)
        ];
        places = λ a past under is. elim (cases_eq a i) [
          | inl same ↦ (i, omega arith, omega arith, h.left i (omega arith) ∙ ap (row_of old) (sym same))
          | inr other ↦ let p = h.places a (omega arith) under is in (p.0, omega (arith, p.1), p.2, p.3)
        ];
        two = λ j k past before under. elim (cases_eq j i) [
          | inl same ↦
              let s = h.sources k (omega arith) under in
              record {
                a = i;
                b = s.0;
                apart = λ equal. omega (arith, s.1, equal);
                first_within = omega arith;
                second_within = s.2;
                first_stays = stays;
                second_stays = s.3;
                first = ap (row_of now) same ∙ h.left i (omega arith);
                second = s.4;
              }
          | inr other ↦ h.two j k (omega arith) before under
        ];
        count =
            let count = h.count in
            let more = count_more (λ own. own.gain == own.loss) sums i under_sums in
            let one = cond-true {A = ℕ} ((sums_of sums i).gain == (sums_of sums i).loss) 1 0 (eq-eqb (sums_of sums i).gain (sums_of sums i).loss stays) in
            omega arith;
      }

  module _ (new : List (List ℕ)) (new_carried : List (List ColumnSums)) (row : IsDropped now new i) (list : IsDropped carried new_carried i) (goes : Stays sums i → ⊥) where
    abbrev last : ℕ
    last = length now - 1

    same_row : (k : ℕ) → k ≢ i → k + 1 < length now → row_of new k ≡ row_of now k
    same_row k other under = row.others k [] other under

    same_list : (k : ℕ) → k ≢ i → k + 1 < length now → list_of new_carried k ≡ list_of carried k
    same_list k other under = let size = h.carried_size in list.others k [] other (omega arith)

    moved_row : i + 1 < length now → row_of new i ≡ row_of now last
    moved_row under = row.here [] under

    moved_list : i + 1 < length now → list_of new_carried i ≡ list_of carried last
    moved_list under =
        let size = h.carried_size in
        let end : length carried - 1 ≡ last = omega arith in
        list.here [] (omega arith) ∙ ap (list_of carried) end

    turned : (first second : List ℕ) → AreTwo sums old first second → AreTwo sums old second first
    turned first second t = record {
      a = t.b;
      b = t.a;
      apart = λ same. t.apart (sym same);
      first_within = t.second_within;
      second_within = t.first_within;
      first_stays = t.second_stays;
      second_stays = t.first_stays;
      first = t.second;
      second = t.first;
    }

    -- row i goes
    pub swept_drop : AreSwept sums old old_carried new new_carried i
    swept_drop =
        let within = h.within in
        let below = h.below in
        let size = row.size in
        let list_size = list.size in
        let both = h.carried_size in
        record {
          within = omega arith;
          carried_size = omega arith;
          left = λ k under. same_row k (λ same. omega (arith, same)) (omega arith) ∙ h.left k (omega arith);
          carried_left = λ k under. same_list k (λ same. omega (arith, same)) (omega arith) ∙ h.carried_left k (omega arith);
          below = omega arith;
          sources = λ j past under. elim (cases_eq j i) [
            | inl same ↦
                let s = h.sources last (omega arith) (omega arith) in
                (s.0, omega (arith, s.1), s.2, s.3, ap (row_of new) same ∙ moved_row (omega arith) ∙ s.4, ap (list_of new_carried) same ∙ moved_list (omega arith) ∙ s.5)
            | inr other ↦
                let s = h.sources j (omega arith) (omega arith) in
                (s.0, omega (arith, s.1), s.2, s.3, same_row j other (omega arith) ∙ s.4, same_list j other (omega arith) ∙ s.5)
          ];
          places = λ a past under is. elim (cases_eq a i) [
            | inl same ↦ absurd (goes (subst (Stays sums) same is))
            | inr other ↦
                let p = h.places a (omega arith) under is in
                elim (cases_eq p.0 last) [
                  | inl end ↦ (i, omega arith, omega (arith, p.1, p.2, end), moved_row (omega (arith, p.1, p.2)) ∙ ap (row_of now) (sym end) ∙ p.3)
                  | inr inner ↦ (p.0, omega (arith, p.1), omega (arith, p.2, inner), same_row p.0 (λ same. omega (arith, p.1, same)) (omega (arith, p.2, inner)) ∙ p.3)
                ]
          ];
          two = λ j k past before under. elim (cases_eq j i) [
            | inl same ↦
                subst (λ (r : List ℕ). AreTwo sums old r (row_of new k)) (sym (ap (row_of new) same ∙ moved_row (omega arith)))
                (subst (AreTwo sums old (row_of now last)) (sym (same_row k (λ equal. omega (arith, same, equal)) (omega arith)))
                (turned (row_of now k) (row_of now last) (h.two k last (omega arith) (omega arith) (omega arith))))
            | inr other ↦
                subst (λ (r : List ℕ). AreTwo sums old r (row_of new k)) (sym (same_row j other (omega arith)))
                (subst (AreTwo sums old (row_of now j)) (sym (same_row k (λ equal. omega (arith, equal)) (omega arith)))
                (h.two j k (omega arith) before (omega arith)))
          ];
          count =
              let count = h.count in
              let more = count_more (λ own. own.gain == own.loss) sums i under_sums in
              omega arith;
        }

-- in the end all rows were looked at
pub swept_whole : (sums : List RowSums) (old : List (List ℕ)) (old_carried : List (List ColumnSums)) (now : List (List ℕ)) (carried : List (List ColumnSums)) → AreSwept sums old old_carried now carried 0 → AreKept sums old old_carried now carried
swept_whole sums old old_carried now carried h = record {
  carried_size = h.carried_size;
  sources = λ j under. let s = h.sources j (omega arith) under in (s.0, s.2, s.3, s.4, s.5);
  places = λ a under stays. let p = h.places a (omega arith) under stays in (p.0, p.2, p.3);
  two = λ j k before under. h.two j k (omega arith) before under;
  count = let count = h.count in omega arith;
}
