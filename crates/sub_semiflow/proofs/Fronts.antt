-- The fronts of vectors are as long as one another. Whether a vector covers a place is asked of one after the other.
use Rattle.std.proofs.Common.{◌≡◌, ap, ◌∙◌, subst, ℕ, ◌+◌, ◌<◌, ◌≤◌, Bool, true, false, List, [], length, length-set, map, replicate, take, get_or, All, slice_index, slice_set, inl, inr, sym, arith}
use Rattle.std.specs.Prelude.{nat_lt}
use Rattle.std.proofs.lemmas.Bool.{cases_eq, cases_lt}
use Rattle.std.proofs.lemmas.List.{same_lists, get_or-map, get_or-replicate, get_or-set_other, get_or-set_same, get_or-take, get_or_default, get_or_past, length-map, length-replicate, length-take-le, take_all}
use Rattle.std.proofs.lemmas.List.Elements.{All-from_get_or}
use Rattle.std.proofs.lemmas.List.Folds.{list_any_none, list_any-from_Any}
use Rattle.net_values.specs.TheList.{AreAlike}
use Rattle.net_values.specs.Vectors.{AreZerosFrom, IsFirstPositive, WalkValue}
use Rattle.sub_semiflow.specs.Texts.{is_covered}

pub fronts_alike : (rows : List (List ℕ)) (count : ℕ) → All (λ row. count ≤ length row) rows → AreAlike length (map (take count) rows)
fronts_alike rows count long = record {
  common = count;
  alike = λ k d below.
      let inside : k < length rows = subst (λ n. k < n) (length-map rows (take count)) below in
      ap length (get_or-map (take count) rows k [] d inside) ∙ length-take-le count (get_or rows k []) (long k [] inside);
}

module _ (rows : List (List ℕ)) (p : ℕ) where
  abbrev is_positive : List ℕ → Bool
  is_positive row = nat_lt 0 (slice_index row p)

  abbrev pub NonePositive : List (List ℕ) → Type 0
  NonePositive front = All (λ row. is_positive row ≡ false) front

  pub none_more : (k : ℕ) (row : List ℕ) → k < length rows → row ≡ get_or rows k row → is_positive row ≡ false → NonePositive (take k rows) → NonePositive (take (k + 1) rows)
  none_more k row more is zero none = All-from_get_or (λ other. is_positive other ≡ false) (take (k + 1) rows) [] (λ i inside.
      let size : length (take (k + 1) rows) ≡ k + 1 = length-take-le (k + 1) rows (omega (arith, more)) in
      let below : i < k + 1 = omega (arith, inside, size) in
      let here : get_or (take (k + 1) rows) i [] ≡ get_or rows i [] = get_or-take (k + 1) rows i [] below in
      subst (λ (other : List ℕ). is_positive other ≡ false) (sym here)
      (elim (cases_lt i k) [
        | inl before ↦
            let front : length (take k rows) ≡ k = length-take-le k rows (omega (arith, more)) in
            subst (λ (other : List ℕ). is_positive other ≡ false) (get_or-take k rows i [] before) (none i [] (omega (arith, before, front)))
        | inr last ↦
            let same : k ≡ i = omega (arith, below, last) in
            subst (λ n. is_positive (get_or rows n []) ≡ false) same (subst (λ (other : List ℕ). is_positive other ≡ false) (is ∙ get_or_default rows k row [] more) zero)
      ]))

  pub none_covers : (k : ℕ) → length rows ≤ k → NonePositive (take k rows) → false ≡ is_covered rows p
  none_covers k past none = sym (list_any_none is_positive rows (subst NonePositive (take_all k rows past) none))

  pub this_covers : (k : ℕ) (row : List ℕ) → k < length rows → row ≡ get_or rows k row → is_positive row ≡ true → true ≡ is_covered rows p
  this_covers k row more is positive = sym (list_any-from_Any is_positive rows (k, row, more, sym is, positive))

-- the front below a position, and zeros from there on
pub record IsFront (row : List ℕ) (count from : ℕ) (front : List ℕ) : Type 0 where
  pub size : length front ≡ count
  pub before : (k : ℕ) → k < from → k < count → slice_index front k ≡ slice_index row k
  pub after : AreZerosFrom front from

zero_at : (n k : ℕ) → slice_index (replicate n 0) k ≡ 0
zero_at n k =
    elim (cases_lt k n) [
      | inl under ↦ get_or-replicate n k 0 0 under
      | inr past ↦ get_or_past (replicate n 0) k 0 (omega (arith, length-replicate {A = ℕ} n 0))
    ]

pub none_in_front : (row : List ℕ) (count : ℕ) (front : List ℕ) → front ≡ replicate count 0 → IsFront row count 0 front
none_in_front row count front is = subst (IsFront row count 0) (sym is) record {
  size = length-replicate {A = ℕ} count 0;
  before = λ k under. absurd (omega arith);
  after = λ k late. zero_at count k;
}

module _ (row : List ℕ) (count : ℕ) (walk : WalkValue) (front : List ℕ) (same : walk.entries ≡ row) (h : IsFront row count walk.from front) where
  module _ (p entry next : ℕ) (found : IsFirstPositive walk.entries walk.from p entry) (to : next ≡ p + 1) where
    first : IsFirstPositive row walk.from p entry
    first = subst (λ (es : List ℕ). IsFirstPositive es walk.from p entry) same found

    still_before : (k : ℕ) → k < p → k < count → slice_index front k ≡ slice_index row k
    still_before k under inside = elim (cases_lt k walk.from) [
      | inl early ↦ h.before k early inside
      | inr late ↦ h.after k late ∙ sym (first.zeros.zeros k late under)
    ]

    pub behind_front : AreZerosFrom front p
    behind_front k late = h.after k (let order = first.zeros.order in omega arith)

    pub front_more : (new : List ℕ) → p < count → new ≡ slice_set front p entry → IsFront row count next new
    front_more new inside is =
        let within : p < length front = omega (arith, h.size) in
        let elsewhere : (k : ℕ) → (k ≡ p → ⊥) → slice_index (slice_set front p entry) k ≡ slice_index front k = λ k other. get_or-set_other front p k entry 0 other in
        subst (λ (n : ℕ). IsFront row count n new) (sym to) (subst (IsFront row count (p + 1)) (sym is) record {
          size = length-set front p entry ∙ h.size;
          before = λ k below inner. elim (cases_eq k p) [
            | inl here ↦ ap (slice_index (slice_set front p entry)) here ∙ get_or-set_same front p entry 0 within ∙ first.here ∙ ap (slice_index row) (sym here)
            | inr other ↦ elsewhere k other ∙ still_before k (omega arith) inner
          ];
          after = λ k late. elsewhere k (λ here. omega (arith, here)) ∙ behind_front k (omega arith);
        })

    pub front_passed : count ≤ p → IsFront row count next front
    front_passed past = subst (λ (n : ℕ). IsFront row count n front) (sym to) record {
      size = h.size;
      before = λ k below inner. still_before k (omega arith) inner;
      after = λ k late. behind_front k (omega arith);
    }

  pub front_all : count ≤ length row → AreZerosFrom walk.entries walk.from → front ≡ take count row
  front_all long zeros =
      let size = length-take-le count row long in
      same_lists front (take count row) (h.size ∙ sym size) (λ k d under.
      let inside : k < count = omega (arith, h.size) in
      get_or_default front k d 0 under
      ∙ elim (cases_lt k walk.from) [
        | inl early ↦ h.before k early inside
        | inr late ↦ h.after k late ∙ sym (subst (λ (es : List ℕ). slice_index es k ≡ 0) same (zeros k late))
      ]
      ∙ sym (get_or_default (take count row) k d 0 (omega (arith, size)) ∙ get_or-take count row k 0 inside))
