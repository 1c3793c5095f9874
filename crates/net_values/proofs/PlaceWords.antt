-- Words of 64 bits as a set of places. A place is given by its word and its bit and has one of each, so what is
-- said of each place and what is said of each bit of each word are one.
use Rattle.std.proofs.Common.{◌≡◌, ◌⊎◌, sym, ap, ◌∙◌, subst, ℕ, ◌+◌, ◌-◌, ◌*◌, ◌/◌, ◌%◌, ◌^◌, ◌<◌, ◌≤◌, ◌==◌, List, Bool, true, false, IsTrue, length, get_or, min, max, replicate, slice_index, slice_set, length-set, inl, inr, arith}
use Rattle.std.specs.Int.{bit_at, bit_not, w64}
use Rattle.std.specs.Int.RustNames.{bit_and, bit_or}
use Rattle.std.proofs.lemmas.Bool.{eqb-true, eqb-false, eq-eqb, ne_eqb, cases_lt, cases_eq, true≢false}
use Rattle.std.proofs.lemmas.List.{get_or-set_same, get_or-set_other, get_or-replicate, get_or_past, get_or_read, length-replicate}
use Rattle.std.proofs.lemmas.List.FromFn.{get_or-map-range_with_len, length-map-range_with_len, fill_by_all}
use Rattle.std.proofs.lemmas.Nat.{div-mul-add, mod-mul-add, div-add-mod', mod_below, and_le_l, or_lt}
use Rattle.std.proofs.lemmas.Nat.Bits.{bit_at-lt, bit_at-zero, bit_at_and, bit_at_or, bit_at_not, same_from_bits_below}
use Rattle.net_values.specs.declared.limits.TheConstants.{MAX_ENTRIES}
use Rattle.net_values.specs.PlaceSets.{has, IsEmpty, IsSubset, IsWithinEither}
use Rattle.net_values.specs.PlaceWords.{AreWords, word_has, members_of}

-- a bit and its test
pub bit_in : (n i : ℕ) → (bit_at n i == 1) ≡ true → bit_at n i ≡ 1
bit_in n i is = eqb-true (bit_at n i) 1 is

pub bit_out : (n i : ℕ) → (bit_at n i == 1) ≡ false → bit_at n i ≡ 0
bit_out n i is =
    let small = bit_at-lt n i in
    elim (cases_lt (bit_at n i) 1) [
      | inl less ↦ omega arith
      | inr more ↦ let one : bit_at n i ≡ 1 = omega arith in absurd (eqb-false (bit_at n i) 1 is one)
    ]

pub out_is : (n i : ℕ) → bit_at n i ≡ 0 → (bit_at n i == 1) ≡ false
out_is n i none = ne_eqb (bit_at n i) 1 (λ one. omega arith)

pub in_is : (n i : ℕ) → bit_at n i ≡ 1 → (bit_at n i == 1) ≡ true
in_is n i one = eq-eqb (bit_at n i) 1 one

-- the place with this word and bit
pub at_bit : (words : List ℕ) (k i : ℕ) → i < 64 → word_has words (k * 64 + i) ≡ (bit_at (slice_index words k) i == 1)
at_bit words k i under =
    ap (λ (x : ℕ). bit_at (slice_index words x) ((k * 64 + i) % 64) == 1) (div-mul-add k 64 i under)
    ∙ ap (λ (x : ℕ). bit_at (slice_index words k) x == 1) (mod-mul-add k 64 i under)

pub bit_below : (p : ℕ) → p % 64 < 64
bit_below p = mod_below p 64 (omega arith)

pub word_below : (p size count : ℕ) → p < size → count ≡ (size + 63) / 64 → p / 64 < count
word_below p size count under is = omega (arith, div-add-mod' p 64, div-add-mod' (size + 63) 64, bit_below p, bit_below (size + 63))

same_place : (p q : ℕ) → q / 64 ≡ p / 64 → q % 64 ≡ p % 64 → q ≡ p
same_place p q word bit = omega (arith, div-add-mod' p 64, div-add-mod' q 64)

-- the list of the members
pub members_size : (words : List ℕ) (size : ℕ) → length (members_of words size) ≡ size
members_size words size = length-map-range_with_len (word_has words) 0 size

pub has_below : (words : List ℕ) (size p : ℕ) → p < size → has (members_of words size) p ≡ word_has words p
has_below words size p under = get_or-map-range_with_len (word_has words) 0 size p p false under (omega arith)

pub has_member : (words : List ℕ) (size p : ℕ) → AreWords words size → has (members_of words size) p ≡ word_has words p
has_member words size p w =
    elim (cases_lt p size) [
      | inl under ↦ has_below words size p under
      | inr past ↦ get_or_past (members_of words size) p false (omega (arith, members_size words size)) ∙ sym (w.outside p past)
    ]

pub members_are : (words : List ℕ) (size : ℕ) (set : List Bool) → length set ≡ size → ((p : ℕ) → p < size → has set p ≡ word_has words p) → set ≡ members_of words size
members_are words size set same each = fill_by_all (word_has words) set size false same each

-- no member, and no bit
pub zero_empty : (words : List ℕ) (size : ℕ) → AreWords words size → ((k : ℕ) → slice_index words k ≡ 0) → IsEmpty (members_of words size)
zero_empty words size w zeros p =
    has_member words size p w
    ∙ out_is (slice_index words (p / 64)) (p % 64) (ap (λ (x : ℕ). bit_at x (p % 64)) (zeros (p / 64)) ∙ bit_at-zero (p % 64))

pub empty_zero : (words : List ℕ) (size : ℕ) → AreWords words size → IsEmpty (members_of words size) → (k : ℕ) → slice_index words k ≡ 0
empty_zero words size w none k =
    same_from_bits_below 64 (slice_index words k) 0 (w.narrow k) (omega arith) (λ i under.
    bit_out (slice_index words k) i (sym (at_bit words k i under) ∙ sym (has_member words size (k * 64 + i) w) ∙ none (k * 64 + i)) ∙ sym (bit_at-zero i))

-- bits of one word that another lacks
lacked_bit : (a b c : ℕ) → c ≡ min a (1 - b) → c ≡ 0 → a ≡ 1 → b < 2 → b ≡ 1
lacked_bit a b c is none some small = omega arith

pub lacking : (a b i : ℕ) → b < 2 ^ 64 → i < 64 → bit_at (bit_and a (bit_not w64 b)) i ≡ min (bit_at a i) (1 - bit_at b i)
lacking a b i narrow under = bit_at_and a (bit_not w64 b) i ∙ ap (λ (x : ℕ). min (bit_at a i) x) (bit_at_not w64 b i narrow under)

pub none_lacked : (a b i : ℕ) → b < 2 ^ 64 → i < 64 → bit_and a (bit_not w64 b) ≡ 0 → bit_at a i ≡ 1 → bit_at b i ≡ 1
none_lacked a b i narrow under none some =
    lacked_bit (bit_at a i) (bit_at b i) (bit_at (bit_and a (bit_not w64 b)) i) (lacking a b i narrow under) (ap (λ (x : ℕ). bit_at x i) none ∙ bit_at-zero i) some (bit_at-lt b i)

no_bit : (a b c : ℕ) → c ≡ min a (1 - b) → a < 2 → (a ≡ 1 → b ≡ 1) → c ≡ 0
no_bit a b c is small within =
    elim (cases_lt a 1) [
      | inl less ↦ omega arith
      | inr more ↦ let same : b ≡ 1 = within (omega arith) in omega arith
    ]

pub all_lacked : (a b : ℕ) → a < 2 ^ 64 → b < 2 ^ 64 → ((i : ℕ) → i < 64 → bit_at a i ≡ 1 → bit_at b i ≡ 1) → bit_and a (bit_not w64 b) ≡ 0
all_lacked a b first second within =
    let small = and_le_l a (bit_not w64 b) in
    same_from_bits_below 64 (bit_and a (bit_not w64 b)) 0 (omega arith) (omega arith) (λ i under.
    no_bit (bit_at a i) (bit_at b i) (bit_at (bit_and a (bit_not w64 b)) i) (lacking a b i second under) (bit_at-lt a i) (within i under) ∙ sym (bit_at-zero i))

-- words within others
word_member : (words : List ℕ) (size p : ℕ) → AreWords words size → IsTrue (has (members_of words size) p) → bit_at (slice_index words (p / 64)) (p % 64) ≡ 1
word_member words size p w member = bit_in (slice_index words (p / 64)) (p % 64) (sym (has_member words size p w) ∙ member)

member_word : (words : List ℕ) (size p : ℕ) → AreWords words size → bit_at (slice_index words (p / 64)) (p % 64) ≡ 1 → IsTrue (has (members_of words size) p)
member_word words size p w some = has_member words size p w ∙ in_is (slice_index words (p / 64)) (p % 64) some

member_under : (words : List ℕ) (size p : ℕ) → AreWords words size → IsTrue (has (members_of words size) p) → p < size
member_under words size p w member =
    elim (cases_lt p size) [
      | inl under ↦ under
      | inr past ↦ absurd (true≢false (sym member ∙ has_member words size p w ∙ w.outside p past))
    ]

member_bit : (words : List ℕ) (size k i : ℕ) → AreWords words size → i < 64 → bit_at (slice_index words k) i ≡ 1 → IsTrue (has (members_of words size) (k * 64 + i))
member_bit words size k i w under some = has_member words size (k * 64 + i) w ∙ at_bit words k i under ∙ in_is (slice_index words k) i some

bit_member : (words : List ℕ) (size k i : ℕ) → AreWords words size → i < 64 → IsTrue (has (members_of words size) (k * 64 + i)) → bit_at (slice_index words k) i ≡ 1
bit_member words size k i w under member = bit_in (slice_index words k) i (sym (at_bit words k i under) ∙ sym (has_member words size (k * 64 + i) w) ∙ member)

module _ (words others : List ℕ) (size : ℕ) (w : AreWords words size) (o : AreWords others size) where
  pub within_subset : ((k : ℕ) → k < length words → bit_and (slice_index words k) (bit_not w64 (slice_index others k)) ≡ 0) → IsSubset (members_of words size) (members_of others size)
  within_subset none p member =
      let under = word_below p size (length words) (member_under words size p w member) w.count in
      member_word others size p o
      (none_lacked (slice_index words (p / 64)) (slice_index others (p / 64)) (p % 64) (o.narrow (p / 64)) (bit_below p) (none (p / 64) under) (word_member words size p w member))

  pub subset_within : IsSubset (members_of words size) (members_of others size) → (k : ℕ) → k < length words → bit_and (slice_index words k) (bit_not w64 (slice_index others k)) ≡ 0
  subset_within within k under =
      all_lacked (slice_index words k) (slice_index others k) (w.narrow k) (o.narrow k) (λ i below some.
      bit_member others size k i o below (within (k * 64 + i) (member_bit words size k i w below some)))

max_other : (a b c : ℕ) → c ≡ max a b → c ≡ 1 → (a ≡ 1 → ⊥) → (b ≡ 1 → ⊥) → ⊥
max_other a b c is one first second =
    elim (cases_lt a b) [
      | inl less ↦ let same : b ≡ 1 = omega arith in second same
      | inr more ↦ let same : a ≡ 1 = omega arith in first same
    ]

max_first : (a b c : ℕ) → c ≡ max a b → a ≡ 1 → b < 2 → c ≡ 1
max_first a b c is one small = omega arith

max_second : (a b c : ℕ) → c ≡ max a b → b ≡ 1 → a < 2 → c ≡ 1
max_second a b c is one small = omega arith

max_either : (a b c : ℕ) → c ≡ max a b → c ≡ 1 → (a ≡ 1) ⊎ (b ≡ 1)
max_either a b c is one =
    elim (cases_eq a 1) [
      | inl same ↦ inl same
      | inr other ↦ elim (cases_eq b 1) [
        | inl same ↦ inr same
        | inr none ↦ absurd (max_other a b c is one other none)
      ]
    ]

module _ (words firsts seconds : List ℕ) (size : ℕ) (w : AreWords words size) (f : AreWords firsts size) (s : AreWords seconds size) where
  either_bit : (k i : ℕ) → bit_at (bit_or (slice_index firsts k) (slice_index seconds k)) i ≡ 1 → (bit_at (slice_index firsts k) i ≡ 1) ⊎ (bit_at (slice_index seconds k) i ≡ 1)
  either_bit k i = max_either (bit_at (slice_index firsts k) i) (bit_at (slice_index seconds k) i) (bit_at (bit_or (slice_index firsts k) (slice_index seconds k)) i) (bit_at_or (slice_index firsts k) (slice_index seconds k) i)

  pub within_either : ((k : ℕ) → k < length words → bit_and (slice_index words k) (bit_not w64 (bit_or (slice_index firsts k) (slice_index seconds k))) ≡ 0) → IsWithinEither (members_of words size) (members_of firsts size) (members_of seconds size)
  within_either none p member =
      let under = word_below p size (length words) (member_under words size p w member) w.count in
      let narrow = or_lt 64 (slice_index firsts (p / 64)) (slice_index seconds (p / 64)) (f.narrow (p / 64)) (s.narrow (p / 64)) in
      let some = none_lacked (slice_index words (p / 64)) (bit_or (slice_index firsts (p / 64)) (slice_index seconds (p / 64))) (p % 64) narrow (bit_below p) (none (p / 64) under) (word_member words size p w member) in
      elim (either_bit (p / 64) (p % 64) some) [
        | inl first ↦ inl (member_word firsts size p f first)
        | inr second ↦ inr (member_word seconds size p s second)
      ]

  pub either_within : IsWithinEither (members_of words size) (members_of firsts size) (members_of seconds size) → (k : ℕ) → k < length words → bit_and (slice_index words k) (bit_not w64 (bit_or (slice_index firsts k) (slice_index seconds k))) ≡ 0
  either_within within k under =
      let narrow = or_lt 64 (slice_index firsts k) (slice_index seconds k) (f.narrow k) (s.narrow k) in
      all_lacked (slice_index words k) (bit_or (slice_index firsts k) (slice_index seconds k)) (w.narrow k) narrow (λ i below some.
      let is = bit_at_or (slice_index firsts k) (slice_index seconds k) i in
      elim (within (k * 64 + i) (member_bit words size k i w below some)) [
        | inl first ↦ max_first (bit_at (slice_index firsts k) i) _ _ is (bit_member firsts size k i f below first) (bit_at-lt (slice_index seconds k) i)
        | inr second ↦ max_second _ (bit_at (slice_index seconds k) i) _ is (bit_member seconds size k i s below second) (bit_at-lt (slice_index firsts k) i)
      ])

-- one place is put in or taken out
module _ (words : List ℕ) (size p word : ℕ) (b : Bool) (w : AreWords words size) (under : p < size) (narrow : word < 2 ^ 64) (here : (bit_at word (p % 64) == 1) ≡ b) (elsewhere : (i : ℕ) → i < 64 → (i ≡ p % 64 → ⊥) → bit_at word i ≡ bit_at (slice_index words (p / 64)) i) where
  at_word : slice_index (slice_set words (p / 64) word) (p / 64) ≡ word
  at_word = get_or-set_same words (p / 64) word 0 (word_below p size (length words) under w.count)

  put_here : word_has (slice_set words (p / 64) word) p ≡ b
  put_here = ap (λ (x : ℕ). bit_at x (p % 64) == 1) at_word ∙ here

  put_else : (q : ℕ) → (q ≡ p → ⊥) → word_has (slice_set words (p / 64) word) q ≡ word_has words q
  put_else q other =
      elim (cases_eq (q / 64) (p / 64)) [
        | inl same ↦
            ap (λ (x : ℕ). bit_at (slice_index (slice_set words (p / 64) word) x) (q % 64) == 1) same
            ∙ ap (λ (x : ℕ). bit_at x (q % 64) == 1) at_word
            ∙ ap (λ (x : ℕ). x == 1) (elsewhere (q % 64) (bit_below q) (λ bit. other (same_place p q same bit)))
            ∙ ap (λ (x : ℕ). bit_at (slice_index words x) (q % 64) == 1) (sym same)
        | inr apart ↦ ap (λ (x : ℕ). bit_at x (q % 64) == 1) (get_or-set_other words (p / 64) (q / 64) word 0 apart)
      ]

  pub put_words : AreWords (slice_set words (p / 64) word) size
  put_words = record {
    count = length-set words (p / 64) word ∙ w.count;
    bound = w.bound;
    narrow = λ k. elim (cases_eq k (p / 64)) [
      | inl same ↦ subst (λ (x : ℕ). slice_index (slice_set words (p / 64) word) x < 2 ^ 64) (sym same) (subst (λ (x : ℕ). x < 2 ^ 64) (sym at_word) narrow)
      | inr apart ↦ subst (λ (x : ℕ). x < 2 ^ 64) (sym (get_or-set_other words (p / 64) k word 0 apart)) (w.narrow k)
    ];
    outside = λ q past. put_else q (λ same. omega (arith, same, past, under)) ∙ w.outside q past;
  }

  pub put_members : members_of (slice_set words (p / 64) word) size ≡ slice_set (members_of words size) p b
  put_members =
      let all = members_size words size in
      sym (members_are (slice_set words (p / 64) word) size (slice_set (members_of words size) p b) (length-set (members_of words size) p b ∙ all) (λ q below.
      elim (cases_eq q p) [
        | inl same ↦
            ap (λ (x : ℕ). has (slice_set (members_of words size) p b) x) same
            ∙ get_or-set_same (members_of words size) p b false (omega (arith, all, under))
            ∙ sym put_here
            ∙ ap (λ (x : ℕ). word_has (slice_set words (p / 64) word) x) (sym same)
        | inr other ↦ get_or-set_other (members_of words size) p q b false other ∙ has_below words size q below ∙ sym (put_else q other)
      ]))

-- no place
zero_at : (n k : ℕ) → slice_index (replicate n 0) k ≡ 0
zero_at n k =
    elim (cases_lt k n) [
      | inl under ↦ get_or-replicate n k 0 0 under
      | inr past ↦ get_or_past (replicate n 0) k 0 (omega (arith, length-replicate {A = ℕ} n 0))
    ]

none_has : (n p : ℕ) → word_has (replicate n 0) p ≡ false
none_has n p = out_is (slice_index (replicate n 0) (p / 64)) (p % 64) (ap (λ (x : ℕ). bit_at x (p % 64)) (zero_at n (p / 64)) ∙ bit_at-zero (p % 64))

pub none_words : (size : ℕ) → size ≤ MAX_ENTRIES → AreWords (replicate ((size + 63) / 64) 0) size
none_words size bound = record {
  count = length-replicate ((size + 63) / 64) 0;
  bound = bound;
  narrow = λ k. let zero = zero_at ((size + 63) / 64) k in omega (arith, zero);
  outside = λ p past. none_has ((size + 63) / 64) p;
}

pub none_members : (size : ℕ) → members_of (replicate ((size + 63) / 64) 0) size ≡ replicate size false
none_members size = sym (members_are (replicate ((size + 63) / 64) 0) size (replicate size false) (length-replicate size false) (λ p under. get_or-replicate size p false false under ∙ sym (none_has ((size + 63) / 64) p)))

-- what a set in words is seen as
pub size_is : (words : List ℕ) (size : ℕ) (set : List Bool) → members_of words size ≡ set → length set ≡ size
size_is words size set is = sym (ap length is) ∙ members_size words size

pub place_below : (words : List ℕ) (size p : ℕ) (set : List Bool) → AreWords words size → members_of words size ≡ set → p < length set → p / 64 < length words
place_below words size p set w is under = word_below p size (length words) (omega (arith, under, size_is words size set is)) w.count

module _ (words others : List ℕ) (size size' : ℕ) (set other : List Bool) (w : AreWords words size) (o : AreWords others size') (is : members_of words size ≡ set) (other_is : members_of others size' ≡ other) (alike : length set ≡ length other) where
  pub one_size : size' ≡ size
  one_size = sym (size_is others size' other other_is) ∙ sym alike ∙ size_is words size set is

  pub one_count : length words ≡ length others
  one_count = w.count ∙ ap (λ (x : ℕ). (x + 63) / 64) (sym one_size) ∙ sym o.count

  pub sized : AreWords others size
  sized = subst (AreWords others) one_size o

  pub seen : members_of others size ≡ other
  seen = ap (members_of others) (sym one_size) ∙ other_is

-- a set of which one place is put in or taken out, as it is seen
module _ (words : List ℕ) (size p : ℕ) (set : List Bool) (w : AreWords words size) (is : members_of words size ≡ set) (under : p < length set) (old word : ℕ) (b : Bool) (read : old ≡ get_or words (p / 64) old) (narrow : word < 2 ^ 64) (here : (bit_at word (p % 64) == 1) ≡ b) (elsewhere : (i : ℕ) → i < 64 → (i ≡ p % 64 → ⊥) → bit_at word i ≡ bit_at old i) where
  changed_bits : (i : ℕ) → i < 64 → (i ≡ p % 64 → ⊥) → bit_at word i ≡ bit_at (slice_index words (p / 64)) i
  changed_bits i below other = elsewhere i below other ∙ ap (λ (x : ℕ). bit_at x i) (get_or_read words (p / 64) old (place_below words size p set w is under) read 0)

  pub changed_words : AreWords (slice_set words (p / 64) word) size
  changed_words = put_words words size p word b w (omega (arith, under, size_is words size set is)) narrow here changed_bits

  pub changed_members : members_of (slice_set words (p / 64) word) size ≡ slice_set set p b
  changed_members =
      put_members words size p word b w (omega (arith, under, size_is words size set is)) narrow here changed_bits
      ∙ ap (λ (s : List Bool). slice_set s p b) is
