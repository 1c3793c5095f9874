-- A list below another one is below it, or equal to it, where both are cut.
use Rattle.std.proofs.Common.{◌≡◌, ◌⊎◌, refl, sym, ap, ◌∙◌, ℕ, zero, suc, List, [], ◌∷◌, take, inl, inr, arith}
use Rattle.std.specs.declared.cmp.Ordering.{Ordering}
use Rattle.std.specs.declared.cmp.Ordering.TheVariants.{Less, Equal, Greater}
use Rattle.std.specs.Cmp.Lexicographic.{slice_cmp}
use Rattle.std.specs.Ordering.{nat_cmp, ordering_then}
use Rattle.std.proofs.lemmas.Bool.Decides.{nat_tests}

same_head : (x y : ℕ) → nat_cmp x y ≡ Equal → x ≡ y
same_head x y same = grind (arith, nat_tests)

pub cut_below : (n : ℕ) (a b : List ℕ) → slice_cmp nat_cmp a b ≡ Less → (slice_cmp nat_cmp (take n a) (take n b) ≡ Less) ⊎ (take n a ≡ take n b)
cut_below zero a b less = inr refl
cut_below (suc n) [] [] less = inr refl
cut_below (suc n) [] (y ∷ b) less = inl refl
cut_below (suc n) (x ∷ a) [] less = absurd cc
cut_below (suc n) (x ∷ a) (y ∷ b) less = go (nat_cmp x y) refl less (cut_below n a b) where
  go : (o : Ordering) → nat_cmp x y ≡ o → ordering_then (nat_cmp x y) (slice_cmp nat_cmp a b) ≡ Less
      → (slice_cmp nat_cmp a b ≡ Less → (slice_cmp nat_cmp (take n a) (take n b) ≡ Less) ⊎ (take n a ≡ take n b))
      → (ordering_then (nat_cmp x y) (slice_cmp nat_cmp (take n a) (take n b)) ≡ Less) ⊎ (x ∷ take n a ≡ y ∷ take n b)
  go Less is less rest = inl (ap (λ (o : Ordering). ordering_then o (slice_cmp nat_cmp (take n a) (take n b))) is)
  go Greater is less rest = absurd (let never : Greater ≡ Less = sym (ap (λ (o : Ordering). ordering_then o (slice_cmp nat_cmp a b)) is) ∙ less in cc)
  go Equal is less rest = elim (rest (sym (ap (λ (o : Ordering). ordering_then o (slice_cmp nat_cmp a b)) is) ∙ less)) [
    | inl below ↦ inl (ap (λ (o : Ordering). ordering_then o (slice_cmp nat_cmp (take n a) (take n b))) is ∙ below)
    | inr same ↦ inr (let head = same_head x y is in λ i. head i ∷ same i)
  ]
