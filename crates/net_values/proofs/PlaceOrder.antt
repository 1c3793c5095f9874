-- The lexicographic order of sets, from their words: the lowest place that is in only one of two sets is the
-- lowest bit that differs in the first words that differ, and the set that has it is the greater one. Without
-- such a place the smaller size comes first.
use Rattle.std.proofs.Common.{◌≡◌, refl, sym, ap, ◌∙◌, ℕ, zero, suc, ◌+◌, ◌*◌, ◌/◌, ◌%◌, ◌<◌, ◌==◌, List, [], ◌∷◌, Bool, true, false, not, length, slice_index, inl, inr, arith}
use Rattle.std.specs.Int.{bit_at}
use Rattle.std.specs.Int.RustNames.{bit_xor}
use Rattle.std.specs.Cmp.Lexicographic.{slice_cmp}
use Rattle.std.specs.Ordering.{bool_cmp, nat_cmp}
use Rattle.std.specs.declared.cmp.Ordering.TheVariants.{Less, Equal, Greater}
use Rattle.std.proofs.lemmas.Bool.{cases_lt, cases_order, true≢false, false≢true, lt-ltb, le-ltb, eq-eqb, ne_eqb, cond-true, cond-false}
use Rattle.std.proofs.lemmas.Nat.{div-add-mod'}
use Rattle.std.proofs.lemmas.Nat.Bits.{bit_at-lt, bit_at-zero, bit_at_xor, same_from_bits}
use Rattle.net_values.specs.PlaceSets.{has}
use Rattle.net_values.specs.PlaceWords.{AreWords, IsFirstDifference, IsLowestBit, word_has, members_of}
use Rattle.net_values.proofs.PlaceWords.{at_bit, word_below, out_is, in_is, members_size, has_member}

-- bits that differ
even_same : (a b : ℕ) → (a + b) % 2 ≡ 0 → a < 2 → b < 2 → a ≡ b
even_same a b even first second = let parts = div-add-mod' (a + b) 2 in omega (arith, parts)

xor_zero : (a b : ℕ) → bit_xor a b ≡ 0 → a ≡ b
xor_zero a b none =
    same_from_bits a b (λ i.
    even_same (bit_at a i) (bit_at b i) (sym (bit_at_xor a b i) ∙ ap (λ (x : ℕ). bit_at x i) none ∙ bit_at-zero i) (bit_at-lt a i) (bit_at-lt b i))

pub xor_positive : (a b : ℕ) → (a ≡ b → ⊥) → 0 < bit_xor a b
xor_positive a b differ =
    elim (cases_lt 0 (bit_xor a b)) [
      | inl some ↦ some
      | inr none ↦ let zero : bit_xor a b ≡ 0 = omega arith in absurd (differ (xor_zero a b zero))
    ]

odd_test : (a b i : ℕ) → (bit_at a i + bit_at b i) % 2 ≡ 1 → (bit_at b i == 1) ≡ not (bit_at a i == 1)
odd_test a b i odd =
    let parts = div-add-mod' (bit_at a i + bit_at b i) 2 in
    let first = bit_at-lt a i in
    let second = bit_at-lt b i in
    elim (cases_lt 0 (bit_at a i)) [
      | inl one ↦ out_is b i (omega (arith, parts)) ∙ sym (ap not (in_is a i (omega arith)))
      | inr none ↦ in_is b i (omega (arith, parts)) ∙ sym (ap not (out_is a i (omega arith)))
    ]

module _ (words others : List ℕ) (k i : ℕ) (lowest : IsLowestBit (bit_xor (slice_index words k) (slice_index others k)) i) (before : (j : ℕ) → j < k → slice_index words j ≡ slice_index others j) where
  earlier_same : (q : ℕ) → q < k * 64 + i → word_has words q ≡ word_has others q
  earlier_same q under =
      elim (cases_lt (q / 64) k) [
        | inl earlier ↦ ap (λ (x : ℕ). bit_at x (q % 64) == 1) (before (q / 64) earlier)
        | inr late ↦
            let limit = lowest.below in
            let here : q / 64 ≡ k = omega (arith, div-add-mod' q 64) in
            let bit : q % 64 < i = omega (arith, here, div-add-mod' q 64) in
            let same : bit_at (slice_index words k) (q % 64) ≡ bit_at (slice_index others k) (q % 64) =
            even_same _ _ (sym (bit_at_xor (slice_index words k) (slice_index others k) (q % 64)) ∙ lowest.lowest (q % 64) bit) (bit_at-lt (slice_index words k) (q % 64)) (bit_at-lt (slice_index others k) (q % 64))
            in
            ap (λ (x : ℕ). bit_at (slice_index words x) (q % 64) == 1) here
            ∙ ap (λ (x : ℕ). x == 1) same
            ∙ ap (λ (x : ℕ). bit_at (slice_index others x) (q % 64) == 1) (sym here)
      ]

  pub difference_at : IsFirstDifference words others (k * 64 + i) (bit_at (slice_index words k) i == 1)
  difference_at = record {
    first = at_bit words k i lowest.below;
    second = at_bit others k i lowest.below ∙ odd_test (slice_index words k) (slice_index others k) i (sym (bit_at_xor (slice_index words k) (slice_index others k) i) ∙ lowest.here);
    before = earlier_same;
  }

-- the order of two lists of truth values by the lowest place that differs
greater_at : (xs ys : List Bool) (p : ℕ) → has xs p ≡ true → has ys p ≡ false → ((q : ℕ) → q < p → has xs q ≡ has ys q) → slice_cmp bool_cmp xs ys ≡ Greater
greater_at [] ys p member none before = absurd (false≢true member)
greater_at (x ∷ xs) [] p member none before = refl
greater_at (true ∷ xs) (false ∷ ys) p member none before = refl
greater_at (true ∷ xs) (true ∷ ys) zero member none before = absurd (true≢false none)
greater_at (false ∷ xs) (y ∷ ys) zero member none before = absurd (false≢true member)
greater_at (false ∷ xs) (true ∷ ys) (suc p) member none before = absurd (false≢true (before 0 (omega arith)))
greater_at (true ∷ xs) (true ∷ ys) (suc p) member none before = greater_at xs ys p member none (λ q under. before (suc q) (omega arith))
greater_at (false ∷ xs) (false ∷ ys) (suc p) member none before = greater_at xs ys p member none (λ q under. before (suc q) (omega arith))

less_at : (xs ys : List Bool) (p : ℕ) → has xs p ≡ false → has ys p ≡ true → ((q : ℕ) → q < p → has xs q ≡ has ys q) → slice_cmp bool_cmp xs ys ≡ Less
less_at xs [] p none member before = absurd (false≢true member)
less_at [] (y ∷ ys) p none member before = refl
less_at (false ∷ xs) (true ∷ ys) p none member before = refl
less_at (true ∷ xs) (y ∷ ys) zero none member before = absurd (true≢false none)
less_at (false ∷ xs) (false ∷ ys) zero none member before = absurd (false≢true member)
less_at (true ∷ xs) (false ∷ ys) (suc p) none member before = absurd (true≢false (before 0 (omega arith)))
less_at (true ∷ xs) (true ∷ ys) (suc p) none member before = less_at xs ys p none member (λ q under. before (suc q) (omega arith))
less_at (false ∷ xs) (false ∷ ys) (suc p) none member before = less_at xs ys p none member (λ q under. before (suc q) (omega arith))

pub less_is : (n m : ℕ) → n < m → nat_cmp n m ≡ Less
less_is n m less = cond-true _ _ _ (lt-ltb n m less)

pub equal_is : (n m : ℕ) → n ≡ m → nat_cmp n m ≡ Equal
equal_is n m same = cond-false _ _ _ (le-ltb n m (omega arith)) ∙ cond-true _ _ _ (eq-eqb n m same)

pub greater_is : (n m : ℕ) → m < n → nat_cmp n m ≡ Greater
greater_is n m more = cond-false _ _ _ (le-ltb n m (omega arith)) ∙ cond-false _ _ _ (ne_eqb n m (λ same. omega arith))

pub cmp_suc : (n m : ℕ) → nat_cmp n m ≡ nat_cmp (suc n) (suc m)
cmp_suc n m =
    elim (cases_order n m) [
      | inl same ↦ equal_is n m same ∙ sym (equal_is (suc n) (suc m) (omega arith))
      | inr apart ↦ elim apart [
        | inl less ↦ less_is n m less ∙ sym (less_is (suc n) (suc m) (omega arith))
        | inr more ↦ greater_is n m more ∙ sym (greater_is (suc n) (suc m) (omega arith))
      ]
    ]

by_size : (xs ys : List Bool) → ((q : ℕ) → q < length xs → q < length ys → has xs q ≡ has ys q) → slice_cmp bool_cmp xs ys ≡ nat_cmp (length xs) (length ys)
by_size [] [] same = refl
by_size [] (y ∷ ys) same = sym (less_is 0 (suc (length ys)) (omega arith))
by_size (x ∷ xs) [] same = sym (greater_is (suc (length xs)) 0 (omega arith))
by_size (true ∷ xs) (true ∷ ys) same = by_size xs ys (λ q first second. same (suc q) (omega arith) (omega arith)) ∙ cmp_suc (length xs) (length ys)
by_size (false ∷ xs) (false ∷ ys) same = by_size xs ys (λ q first second. same (suc q) (omega arith) (omega arith)) ∙ cmp_suc (length xs) (length ys)
by_size (true ∷ xs) (false ∷ ys) same = absurd (true≢false (same 0 (omega arith) (omega arith)))
by_size (false ∷ xs) (true ∷ ys) same = absurd (false≢true (same 0 (omega arith) (omega arith)))

module _ (words others : List ℕ) (size size' : ℕ) (w : AreWords words size) (o : AreWords others size') where
  pub first_greater : (p : ℕ) → IsFirstDifference words others p true → slice_cmp bool_cmp (members_of words size) (members_of others size') ≡ Greater
  first_greater p d =
      greater_at (members_of words size) (members_of others size') p (has_member words size p w ∙ d.first) (has_member others size' p o ∙ d.second)
      (λ q under. has_member words size q w ∙ d.before q under ∙ sym (has_member others size' q o))

  pub first_less : (p : ℕ) → IsFirstDifference words others p false → slice_cmp bool_cmp (members_of words size) (members_of others size') ≡ Less
  first_less p d =
      less_at (members_of words size) (members_of others size') p (has_member words size p w ∙ d.first) (has_member others size' p o ∙ d.second)
      (λ q under. has_member words size q w ∙ d.before q under ∙ sym (has_member others size' q o))

  pub same_by_size : ((k : ℕ) → k < length words → k < length others → slice_index words k ≡ slice_index others k) → slice_cmp bool_cmp (members_of words size) (members_of others size') ≡ nat_cmp size size'
  same_by_size same =
      by_size (members_of words size) (members_of others size') (λ q first second.
      let here : q < size = omega (arith, first, members_size words size) in
      let there : q < size' = omega (arith, second, members_size others size') in
      has_member words size q w
      ∙ ap (λ (x : ℕ). bit_at x (q % 64) == 1) (same (q / 64) (word_below q size (length words) here w.count) (word_below q size' (length others) there o.count))
      ∙ sym (has_member others size' q o))
      ∙ ap (λ (x : ℕ). nat_cmp x (length (members_of others size'))) (members_size words size)
      ∙ ap (λ (x : ℕ). nat_cmp size x) (members_size others size')
