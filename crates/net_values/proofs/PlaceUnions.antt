-- The words of a union of two sets of places: each bit is that of one of the two.
use Rattle.std.proofs.Common.{◌≡◌, refl, sym, ap, ◌∙◌, subst, ℕ, ◌/◌, ◌%◌, ◌^◌, ◌<◌, ◌==◌, ◌||◌, List, Bool, length, max, take, drop, ◌++◌, slice_index, inl, inr, arith}
use Rattle.std.specs.Int.{bit_at}
use Rattle.std.specs.Int.RustNames.{bit_or}
use Rattle.std.proofs.lemmas.Bool.{eq-eqb, ne_eqb, cases_lt, cases_eq}
use Rattle.std.proofs.lemmas.List.{get_or_past}
use Rattle.std.proofs.lemmas.Nat.{or_lt}
use Rattle.std.proofs.Math.Seq.{take-append_seam}
use Rattle.std.proofs.lemmas.Nat.Bits.{bit_at-lt, bit_at_or}
use Rattle.net_values.specs.PlaceSets.{has}
use Rattle.net_values.specs.PlaceWords.{AreWords, word_has, members_of}
use Rattle.net_values.proofs.PlaceWords.{has_member}

-- words that were changed in their slice
pub whole_words : (now words : List ℕ) (len : ℕ) → len ≡ length now → take len (now ++ drop (length now) words) ≡ now
whole_words now words len is = ap (λ (n : ℕ). take n (now ++ drop (length now) words)) is ∙ take-append_seam now (drop (length now) words)

or_bits : (a b c : ℕ) → c ≡ max a b → a < 2 → b < 2 → (c == 1) ≡ ((a == 1) || (b == 1))
or_bits a b c is first second =
    elim (cases_eq a 1) [
      | inl same ↦
          let one : c ≡ 1 = omega arith in
          eq-eqb c 1 one ∙ sym (ap (λ (t : Bool). t || (b == 1)) (eq-eqb a 1 same))
      | inr other ↦
          let same : c ≡ b = omega arith in
          ap (λ (x : ℕ). x == 1) same ∙ sym (ap (λ (t : Bool). t || (b == 1)) (ne_eqb a 1 other))
    ]

no_bits : (a b c : ℕ) → c ≡ bit_or a b → a ≡ 0 → b ≡ 0 → c ≡ 0
no_bits a b c is first second = is ∙ ap (λ (x : ℕ). bit_or x b) first ∙ ap (bit_or 0) second

-- each word of a union has the bits of two
abbrev pub AreUnited : List ℕ → List ℕ → List ℕ → Type 0
AreUnited words others united = (k : ℕ) → k < length words → slice_index united k ≡ bit_or (slice_index words k) (slice_index others k)

module _ (words others united : List ℕ) (size : ℕ) (w : AreWords words size) (o : AreWords others size) (count : length united ≡ length words) (each : AreUnited words others united) where
  word_is : (k : ℕ) → slice_index united k ≡ bit_or (slice_index words k) (slice_index others k)
  word_is k =
      elim (cases_lt k (length words)) [
        | inl under ↦ each k under
        | inr past ↦
            let one = w.count in
            let two = o.count in
            get_or_past united k 0 (omega arith)
            ∙ sym (no_bits (slice_index words k) (slice_index others k) _ refl (get_or_past words k 0 past) (get_or_past others k 0 (omega arith)))
      ]

  in_either : (p : ℕ) → word_has united p ≡ (word_has words p || word_has others p)
  in_either p =
      let bit = p % 64 in
      let a = slice_index words (p / 64) in
      let b = slice_index others (p / 64) in
      or_bits (bit_at a bit) (bit_at b bit) (bit_at (slice_index united (p / 64)) bit)
      (ap (λ (x : ℕ). bit_at x bit) (word_is (p / 64)) ∙ bit_at_or a b bit) (bit_at-lt a bit) (bit_at-lt b bit)

  pub united_words : AreWords united size
  united_words = record {
    count = count ∙ w.count;
    bound = w.bound;
    narrow = λ k. subst (λ (x : ℕ). x < 2 ^ 64) (sym (word_is k)) (or_lt 64 (slice_index words k) (slice_index others k) (w.narrow k) (o.narrow k));
    outside = λ p past. in_either p ∙ ap (λ (t : Bool). t || word_has others p) (w.outside p past) ∙ o.outside p past;
  }

  pub united_has : (p : ℕ) → has (members_of united size) p ≡ (has (members_of words size) p || has (members_of others size) p)
  united_has p =
      has_member united size p united_words ∙ in_either p
      ∙ sym (ap (λ (t : Bool). t || has (members_of others size) p) (has_member words size p w) ∙ ap (λ (t : Bool). word_has words p || t) (has_member others size p o))

-- the same of words that were read
module _ (words others first second united : List ℕ) (size : ℕ) (w : AreWords words size) (o : AreWords others size) (own : first ≡ words) (other : second ≡ others) (count : length united ≡ length first) (each : AreUnited first second united) where
  read_each : AreUnited words others united
  read_each = subst (λ (l : List ℕ). AreUnited l others united) own (subst (λ (l : List ℕ). AreUnited first l united) other each)

  pub now_words : AreWords united size
  now_words = united_words words others united size w o (count ∙ ap length own) read_each

  pub now_has : (p : ℕ) → has (members_of united size) p ≡ (has (members_of words size) p || has (members_of others size) p)
  now_has = united_has words others united size w o (count ∙ ap length own) read_each
