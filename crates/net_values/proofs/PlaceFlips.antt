-- The complement of a set in words: its words are made one after another, each with the bits below the size turned.
use Rattle.std.proofs.Common.{◌≡◌, ◌↔◌, refl, sym, ap, ◌∙◌, subst, ℕ, ◌+◌, ◌-◌, ◌*◌, ◌/◌, ◌%◌, ◌^◌, ◌<◌, ◌≤◌, ◌==◌, List, [], ◌∷◌, ◌++◌, not, length, min, slice_index, length-append, inl, inr, arith}
use Rattle.std.specs.Int.{bit_at}
use Rattle.std.proofs.lemmas.Bool.{cases_lt, cases_eq}
use Rattle.std.proofs.lemmas.List.{get_or_append_left, get_or_push, get_or_past}
use Rattle.std.proofs.lemmas.Nat.{div-add-mod'}
use Rattle.std.proofs.lemmas.Nat.Bits.{bit_at-lt, bit_at-zero}
use Rattle.net_values.specs.PlaceSets.{complement}
use Rattle.net_values.specs.PlaceWords.{AreWords, AreFlipped, word_has, members_of}
use Rattle.net_values.proofs.PlaceSets.{complement_size, complement_has}
use Rattle.net_values.proofs.PlaceWords.{bit_below, word_below, out_is, in_is, members_size, has_below, members_are}

-- one bit
pub turned_bit : (a n l f : ℕ) → f ≡ min n l → n ≡ 1 - a → l ≡ 1 → a < 2 → (a ≡ 1) ↔ (f ≡ 0)
turned_bit a n l f is turned low small = (λ one. omega arith, λ none. omega arith)

pub cut_bit : (n l f : ℕ) → f ≡ min n l → l ≡ 0 → f ≡ 0
cut_bit n l f is none = omega arith

turned_test : (a f i j : ℕ) → (bit_at a i ≡ 1) ↔ (bit_at f j ≡ 0) → (bit_at f j == 1) ≡ not (bit_at a i == 1)
turned_test a f i j turned =
    let small = bit_at-lt f j in
    let other = bit_at-lt a i in
    elim (cases_eq (bit_at f j) 0) [
      | inl none ↦ out_is f j none ∙ sym (ap not (in_is a i (turned.1 none)))
      | inr some ↦ elim (cases_lt 0 (bit_at a i)) [
        | inl one ↦ absurd (some (turned.0 (omega arith)))
        | inr zero ↦ elim (cases_lt 0 (bit_at f j)) [
          | inl more ↦ in_is f j (omega arith) ∙ sym (ap not (out_is a i (omega arith)))
          | inr less ↦ absurd (some (omega arith))
        ]
      ]
    ]

pub flipped_none : (words : List ℕ) (size : ℕ) → AreFlipped words size [] 0
flipped_none words size = record {
  count = refl;
  narrow = λ k. omega arith;
  flipped = λ p under. absurd (omega arith);
  outside = λ p under. absurd (omega arith);
}

-- one word more
module _ (words others : List ℕ) (size k word : ℕ) (f : AreFlipped words size others k) (narrow : word < 2 ^ 64) (inside : (i : ℕ) → i < size - k * 64 → i < 64 → (bit_at (slice_index words k) i ≡ 1) ↔ (bit_at word i ≡ 0)) (outside : (i : ℕ) → size - k * 64 ≤ i → i < 64 → bit_at word i ≡ 0) where
  pushed_old : (j : ℕ) → j < k → slice_index (others ++ word ∷ []) j ≡ slice_index others j
  pushed_old j under = get_or_append_left others (word ∷ []) 0 j (omega (arith, f.count))

  pushed_new : slice_index (others ++ word ∷ []) k ≡ word
  pushed_new = get_or_push others word 0 k f.count

  old_has : (p : ℕ) → p / 64 < k → word_has (others ++ word ∷ []) p ≡ word_has others p
  old_has p under = ap (λ (x : ℕ). bit_at x (p % 64) == 1) (pushed_old (p / 64) under)

  new_has : (p : ℕ) → p / 64 ≡ k → word_has (others ++ word ∷ []) p ≡ (bit_at word (p % 64) == 1)
  new_has p here =
      ap (λ (x : ℕ). bit_at (slice_index (others ++ word ∷ []) x) (p % 64) == 1) here
      ∙ ap (λ (x : ℕ). bit_at x (p % 64) == 1) pushed_new

  pub flipped_more : AreFlipped words size (others ++ word ∷ []) (k + 1)
  flipped_more = record {
    count = omega (arith, length-append others (word ∷ []), f.count);
    narrow = λ j. elim (cases_lt j k) [
      | inl under ↦ subst (λ (x : ℕ). x < 2 ^ 64) (sym (pushed_old j under)) (f.narrow j)
      | inr above ↦ elim (cases_eq j k) [
        | inl same ↦ subst (λ (x : ℕ). slice_index (others ++ word ∷ []) x < 2 ^ 64) (sym same) (subst (λ (x : ℕ). x < 2 ^ 64) (sym pushed_new) narrow)
        | inr other ↦
            let size : length (others ++ word ∷ []) ≤ j = omega (arith, length-append others (word ∷ []), f.count, cases_lt k j) in
            subst (λ (x : ℕ). x < 2 ^ 64) (sym (get_or_past (others ++ word ∷ []) j 0 size)) (omega arith)
      ]
    ];
    flipped = λ p under within. elim (cases_lt (p / 64) k) [
      | inl old ↦ old_has p old ∙ f.flipped p old within
      | inr above ↦
          let here : p / 64 ≡ k = omega arith in
          new_has p here
          ∙ turned_test (slice_index words k) word (p % 64) (p % 64) (inside (p % 64) (omega (arith, here, div-add-mod' p 64)) (bit_below p))
          ∙ ap (λ (x : ℕ). not (bit_at (slice_index words x) (p % 64) == 1)) (sym here)
    ];
    outside = λ p under past. elim (cases_lt (p / 64) k) [
      | inl old ↦ old_has p old ∙ f.outside p old past
      | inr above ↦
          let here : p / 64 ≡ k = omega arith in
          new_has p here ∙ out_is word (p % 64) (outside (p % 64) (omega (arith, here, div-add-mod' p 64)) (bit_below p))
    ];
  }

-- all words
pub flipped_words : (words others : List ℕ) (size : ℕ) → AreWords words size → AreFlipped words size others (length words) → AreWords others size
flipped_words words others size w f = record {
  count = f.count ∙ w.count;
  bound = w.bound;
  narrow = f.narrow;
  outside = λ p past. elim (cases_lt (p / 64) (length words)) [
    | inl under ↦ f.outside p under past
    | inr above ↦
        let none = get_or_past others (p / 64) 0 (omega (arith, f.count)) in
        out_is (slice_index others (p / 64)) (p % 64) (ap (λ (x : ℕ). bit_at x (p % 64)) none ∙ bit_at-zero (p % 64))
  ];
}

pub flipped_members : (words others : List ℕ) (size : ℕ) → AreWords words size → AreFlipped words size others (length words) → members_of others size ≡ complement (members_of words size)
flipped_members words others size w f =
    let all = members_size words size in
    sym (members_are others size (complement (members_of words size)) (complement_size (members_of words size) ∙ all) (λ p under.
    complement_has (members_of words size) p (omega (arith, all))
    ∙ ap not (has_below words size p under)
    ∙ sym (f.flipped p (word_below p size (length words) under w.count) under)))
