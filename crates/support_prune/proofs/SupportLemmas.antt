-- The test on two vectors of one length tells whether the one support is in the other: by recursion on both.
use Rattle.std.proofs.Common.{◌≡◌, ◌<◌, refl, sym, ◌∙◌, ◌↔◌, IsTrue, slice_index, ℕ, zero, suc, Bool, true, false, List, [], ◌∷◌, length, inl, inr, arith}
use Rattle.std.proofs.lemmas.Bool.{false≢true, cases_eq, ltb-true, lt-ltb}
use Rattle.std.proofs.lemmas.Bool.Decides.{nat_tests}
use Rattle.std.specs.Prelude.{◌&&◌, ◌||◌, ◌==◌, nat_lt}
use Rattle.net_values.specs.PlaceSets.{IsSubset}
use Rattle.net_values.specs.Vectors.{support_of}
use Rattle.net_values.proofs.Supports.{support_has}
use Rattle.support_prune.specs.Supports.{IsWithin, is_within}

both_true : (a b : Bool) → (a && b) ≡ true → (a ≡ true) × (b ≡ true)
both_true true b t = (refl, t)
both_true false b t = absurd (false≢true t)

one_false : (a b : Bool) → (a && b) ≡ false → (a ≡ true → b ≡ false)
one_false true b t = λ _. t
one_false false b t = λ on. absurd (false≢true on)

head_true : (x y : ℕ) → ((x == 0) || nat_lt 0 y) ≡ true → 0 < x → 0 < y
head_true x y t some = grind (arith, nat_tests)

head_passes : (x y : ℕ) → (0 < x → 0 < y) → ((x == 0) || nat_lt 0 y) ≡ true
head_passes x y h =
    elim (cases_eq x 0) [
      | inl none ↦ grind (arith, nat_tests)
      | inr some ↦ let below : 0 < y = h (omega arith) in grind (arith, nat_tests)
    ]

pub within_true : (row other : List ℕ) → length row ≡ length other → is_within row other ≡ true → IsWithin row other
within_true [] other same t i some = absurd (omega arith)
within_true (x ∷ xs) [] same t i some = absurd (omega arith)
within_true (x ∷ xs) (y ∷ ys) same t zero some = head_true x y (both_true _ _ t).0 some
within_true (x ∷ xs) (y ∷ ys) same t (suc i) some = within_true xs ys (omega arith) (both_true _ _ t).1 i some

pub within_false : (row other : List ℕ) → length row ≡ length other → is_within row other ≡ false → IsWithin row other → ⊥
within_false [] other same t h = false≢true (cc t)
within_false (x ∷ xs) [] same t h = omega arith
within_false (x ∷ xs) (y ∷ ys) same t h = within_false xs ys (omega arith) (one_false _ _ t (head_passes x y (h 0))) (λ i. h (suc i))

-- the supports as sets tell what the test of the entries tells
subset_within : (row other : List ℕ) → IsSubset (support_of row) (support_of other) → IsWithin row other
subset_within row other within i some = ltb-true 0 (slice_index other i) (sym (support_has other i) ∙ within i (support_has row i ∙ lt-ltb 0 (slice_index row i) some))

within_subset : (row other : List ℕ) → IsWithin row other → IsSubset (support_of row) (support_of other)
within_subset row other within i member = support_has other i ∙ lt-ltb 0 (slice_index other i) (within i (ltb-true 0 (slice_index row i) (sym (support_has row i) ∙ member)))

same_test : (row other : List ℕ) (told tested : Bool) → is_within row other ≡ tested → length row ≡ length other → (IsTrue told ↔ IsSubset (support_of row) (support_of other)) → told ≡ tested
same_test row other true true is same told = refl
same_test row other false false is same told = refl
same_test row other true false is same told = absurd (within_false row other same is (subset_within row other (told.0 refl)))
same_test row other false true is same told = absurd (false≢true (told.1 (within_subset row other (within_true row other same is))))

pub subset_test : (row other : List ℕ) (told : Bool) → length row ≡ length other → (IsTrue told ↔ IsSubset (support_of row) (support_of other)) → told ≡ is_within row other
subset_test row other told same tells = same_test row other told (is_within row other) refl same tells
