-- A row with only one positive entry is adjacent to each other row: a row in the union of the two has that entry, and so
-- the row in it, or hasn't, and is in the other row.
use Rattle.std.proofs.Common.{◌≡◌, sym, ap, ◌∙◌, subst, ℕ, ◌+◌, ◌<◌, ◌≤◌, nat_lt, List, Bool, true, false, length, slice_index, inl, inr, arith}
use Rattle.std.proofs.lemmas.Bool.{cases_lt, cases_eq, lt-ltb, le-ltb, true≢false}
use Rattle.std.proofs.lemmas.List.{get_or_past}
use Rattle.net_values.specs.PlaceSets.{has, IsFirstFrom}
use Rattle.net_values.specs.Vectors.{support_of}
use Rattle.net_values.proofs.Supports.{support_has}
use Rattle.incidence.specs.Matrix.{Matrix}
use Rattle.semiflow_elim.specs.Adjacent.{AreAdjacent, HasOne}
use Rattle.semiflow_elim.specs.Bases.{IsBasis}
use Rattle.semiflow_elim.specs.Elimination.{row_of}
use Rattle.semiflow_elim.proofs.Adjacency.{one_place}

-- the first position is the only one
pub only_first : (row : List ℕ) (set : List Bool) (p : ℕ) → set ≡ support_of row → IsFirstFrom set 0 p → ((q : ℕ) → p + 1 ≤ q → has set q ≡ false) → HasOne row
only_first row set p is first none =
    let seen : (q : ℕ) → has set q ≡ nat_lt 0 (slice_index row q) = λ q. ap (λ (t : List Bool). has t q) is ∙ support_has row q in
    record {
      at = p;
      positive = elim (cases_lt 0 (slice_index row p)) [
        | inl some ↦ some
        | inr zero ↦ absurd (true≢false (sym first.member ∙ seen p ∙ le-ltb 0 (slice_index row p) zero))
      ];
      only = λ x some.
          let member : has set x ≡ true = seen x ∙ lt-ltb 0 (slice_index row x) some in
          elim (cases_lt x p) [
            | inl before ↦ absurd (true≢false (sym member ∙ first.first x (omega arith) before))
            | inr past ↦ elim (cases_eq x p) [
              | inl same ↦ same
              | inr other ↦ absurd (true≢false (sym member ∙ none x (omega arith)))
            ]
          ];
    }

pub none_past : (set : List Bool) (size p q : ℕ) → size ≡ length set → p + 1 ≡ size → p + 1 ≤ q → has set q ≡ false
none_past set size p q is last past = get_or_past set q false (omega arith)

module _ (m : Matrix) (K : ℕ → Type 0) (rows : List (List ℕ)) (basis : IsBasis m K rows) (i k : ℕ) (first : i < length rows) (second : k < length rows) where
  pub first_alone : HasOne (row_of rows i) → AreAdjacent m rows i k
  first_alone one = λ j under within.
      elim (cases_lt 0 (slice_index (row_of rows j) one.at)) [
        | inl some ↦ inl (sym (one_place m K rows basis i j first under (λ x inside positive. subst (λ (y : ℕ). 0 < slice_index (row_of rows j) y) (sym (one.only x positive)) some)))
        | inr none ↦ inr (one_place m K rows basis j k under second (λ x inside positive.
            let both = within x inside positive in
            elim (cases_lt 0 (slice_index (row_of rows i) x)) [
              | inl here ↦
                  let moved : 0 < slice_index (row_of rows j) one.at = subst (λ (y : ℕ). 0 < slice_index (row_of rows j) y) (one.only x here) positive in
                  absurd (omega arith)
              | inr away ↦ omega arith
            ]))
      ]

pub second_alone : (m : Matrix) (K : ℕ → Type 0) (rows : List (List ℕ)) (i k : ℕ) → IsBasis m K rows → i < length rows → k < length rows → HasOne (row_of rows k) → AreAdjacent m rows i k
second_alone m K rows i k basis first second one = λ j under within.
    elim (first_alone m K rows basis k i second first one j under (λ x inside positive. let both = within x inside positive in omega arith)) [
      | inl same ↦ inr same
      | inr same ↦ inl same
    ]
