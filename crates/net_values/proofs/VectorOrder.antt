-- The lexicographic order of vectors from their positive entries: the first position at which they differ is the one
-- of the next positive entry of one of them.
use Rattle.std.proofs.Common.{◌≡◌, refl, sym, ap, ◌∙◌, ℕ, zero, suc, ◌<◌, ◌≤◌, List, [], ◌∷◌, Option, None, Some, MatchOption, length, slice_index, inl, inr, arith}
use Rattle.std.specs.Cmp.Lexicographic.{slice_cmp}
use Rattle.std.specs.Ordering.{nat_cmp, ordering_then}
use Rattle.std.specs.declared.cmp.Ordering.{Ordering}
use Rattle.std.specs.declared.cmp.Ordering.TheVariants.{Less, Equal, Greater}
use Rattle.std.proofs.lemmas.Bool.{cases_lt, cases_order}
use Rattle.net_values.specs.Vectors.{AreZerosFrom, IsFirstPositive, next_cmp}
use Rattle.net_values.proofs.PlaceOrder.{less_is, equal_is, greater_is, cmp_suc}

-- the first position at which two lists differ
apart_less : (xs ys : List ℕ) (p : ℕ) → ((q : ℕ) → q < p → slice_index xs q ≡ slice_index ys q) → slice_index xs p < slice_index ys p → slice_cmp nat_cmp xs ys ≡ Less
apart_less [] [] p same less = absurd (omega arith)
apart_less [] (y ∷ ys) p same less = refl
apart_less (x ∷ xs) [] p same less = absurd (omega arith)
apart_less (x ∷ xs) (y ∷ ys) zero same less = ap (λ (o : Ordering). ordering_then o (slice_cmp nat_cmp xs ys)) (less_is x y less)
apart_less (x ∷ xs) (y ∷ ys) (suc p) same less =
    ap (λ (o : Ordering). ordering_then o (slice_cmp nat_cmp xs ys)) (equal_is x y (same 0 (omega arith)))
    ∙ apart_less xs ys p (λ q under. same (suc q) (omega arith)) less

apart_greater : (xs ys : List ℕ) (p : ℕ) → ((q : ℕ) → q < p → slice_index xs q ≡ slice_index ys q) → slice_index ys p < slice_index xs p → slice_cmp nat_cmp xs ys ≡ Greater
apart_greater [] [] p same more = absurd (omega arith)
apart_greater [] (y ∷ ys) p same more = absurd (omega arith)
apart_greater (x ∷ xs) [] p same more = refl
apart_greater (x ∷ xs) (y ∷ ys) zero same more = ap (λ (o : Ordering). ordering_then o (slice_cmp nat_cmp xs ys)) (greater_is x y more)
apart_greater (x ∷ xs) (y ∷ ys) (suc p) same more =
    ap (λ (o : Ordering). ordering_then o (slice_cmp nat_cmp xs ys)) (equal_is x y (same 0 (omega arith)))
    ∙ apart_greater xs ys p (λ q under. same (suc q) (omega arith)) more

all_alike : (xs ys : List ℕ) → ((q : ℕ) → slice_index xs q ≡ slice_index ys q) → slice_cmp nat_cmp xs ys ≡ nat_cmp (length xs) (length ys)
all_alike [] [] same = refl
all_alike [] (y ∷ ys) same = sym (less_is 0 (suc (length ys)) (omega arith))
all_alike (x ∷ xs) [] same = sym (greater_is (suc (length xs)) 0 (omega arith))
all_alike (x ∷ xs) (y ∷ ys) same =
    ap (λ (o : Ordering). ordering_then o (slice_cmp nat_cmp xs ys)) (equal_is x y (same 0))
    ∙ all_alike xs ys (λ q. same (suc q))
    ∙ cmp_suc (length xs) (length ys)

-- two walks that have come to one position before which the vectors are equal
module _ (xs ys : List ℕ) (from : ℕ) (same : (q : ℕ) → q < from → slice_index xs q ≡ slice_index ys q) where
  same_to : (to : ℕ) → ((q : ℕ) → from ≤ q → q < to → slice_index xs q ≡ 0) → ((q : ℕ) → from ≤ q → q < to → slice_index ys q ≡ 0) → (q : ℕ) → q < to → slice_index xs q ≡ slice_index ys q
  same_to to first second q under =
      elim (cases_lt q from) [
        | inl before ↦ same q before
        | inr late ↦ first q late under ∙ sym (second q late under)
      ]

  pub ends_alike : AreZerosFrom xs from → AreZerosFrom ys from → slice_cmp nat_cmp xs ys ≡ nat_cmp (length xs) (length ys)
  ends_alike first second =
      all_alike xs ys (λ q. elim (cases_lt q from) [
        | inl before ↦ same q before
        | inr late ↦ first q late ∙ sym (second q late)
      ])

  pub ends_first : (p entry : ℕ) → AreZerosFrom xs from → IsFirstPositive ys from p entry → slice_cmp nat_cmp xs ys ≡ Less
  ends_first p entry zeros f =
      let here = f.here in
      let some = f.positive in
      let none = zeros p f.zeros.order in
      apart_less xs ys p (same_to p (λ q late under. zeros q late) f.zeros.zeros) (omega arith)

  pub next_decides : (p entry : ℕ) (other : Option (ℕ × ℕ)) → IsFirstPositive xs from p entry → MatchOption other (AreZerosFrom ys from) (λ g. IsFirstPositive ys from g.0 g.1) → (next_cmp (p, entry) other ≡ Equal → ⊥) → next_cmp (p, entry) other ≡ slice_cmp nat_cmp xs ys
  next_decides p entry None f zeros apart =
      let here = f.here in
      let some = f.positive in
      let none = zeros p f.zeros.order in
      sym (apart_greater xs ys p (same_to p f.zeros.zeros (λ q late under. zeros q late)) (omega arith))
  next_decides p entry (Some g) f h apart =
      let here = f.here in
      let there = h.here in
      let some = f.positive in
      let other = h.positive in
      let both : (to : ℕ) → to ≤ p → to ≤ g.0 → (q : ℕ) → q < to → slice_index xs q ≡ slice_index ys q = λ to first second. same_to to (λ q late under. f.zeros.zeros q late (omega arith)) (λ q late under. h.zeros.zeros q late (omega arith)) in
      elim (cases_order g.0 p) [
        | inl place ↦
            let at : slice_index ys g.0 ≡ slice_index ys p = ap (slice_index ys) place in
            let by : next_cmp (p, entry) (Some g) ≡ nat_cmp entry g.1 = ap (λ (o : Ordering). ordering_then o (nat_cmp entry g.1)) (equal_is g.0 p place) in
            elim (cases_order entry g.1) [
              | inl equal ↦ absurd (apart (by ∙ equal_is entry g.1 equal))
              | inr unequal ↦ elim unequal [
                | inl less ↦ by ∙ less_is entry g.1 less ∙ sym (apart_less xs ys p (both p (omega arith) (omega arith)) (omega arith))
                | inr more ↦ by ∙ greater_is entry g.1 more ∙ sym (apart_greater xs ys p (both p (omega arith) (omega arith)) (omega arith))
              ]
            ]
        | inr places ↦ elim places [
          | inl less ↦
              let none = f.zeros.zeros g.0 h.zeros.order less in
              ap (λ (o : Ordering). ordering_then o (nat_cmp entry g.1)) (less_is g.0 p less) ∙ sym (apart_less xs ys g.0 (both g.0 (omega arith) (omega arith)) (omega arith))
          | inr more ↦
              let none = h.zeros.zeros p f.zeros.order more in
              ap (λ (o : Ordering). ordering_then o (nat_cmp entry g.1)) (greater_is g.0 p more) ∙ sym (apart_greater xs ys p (both p (omega arith) (omega arith)) (omega arith))
        ]
      ]
