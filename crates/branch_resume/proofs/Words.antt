-- The words of a class's line are read one after the other in one way: those after a plus sign, and then those after a
-- minus sign, each as long as their places ascend.
use Rattle.std.proofs.Common.{◌≡◌, refl, sym, subst, ℕ, ◌+◌, ◌<◌, ◌≤◌, List, [], ◌∷◌, ◌++◌, map, decimal, arith}
use Rattle.std.specs.List.{AllByRecursion}
use Rattle.net_values.specs.declared.limits.TheConstants.{MAX_PLACES}
use Rattle.certificates.proofs.DecimalTexts.{decimal_one}
use Rattle.branch_resume.specs.Tokens.{signed}
use Rattle.branch_resume.specs.Lines.{StopsFrom, place_after}
use Rattle.branch_resume.proofs.Places.{Ascend}

abbrev pub IsBelow : ℕ → ℕ → Type 0
IsBelow size p = p < size

-- the first of the words isn't a place after this sign
abbrev pub OtherFirst : ℕ → List (List ℕ) → Type 0
OtherFirst sign [] = Unit {0}
OtherFirst sign (word ∷ words) = (p : ℕ) → word ≡ signed sign p → ⊥

module _ (sign size : ℕ) (fits : size ≤ MAX_PLACES) where
  one_number : (p q : ℕ) → p < size → q < size → signed sign p ≡ signed sign q → p ≡ q
  one_number p q low high same =
      let digits : decimal p ≡ decimal q = cc in decimal_one p q (omega (arith, low, fits)) (omega (arith, high, fits)) digits

  pub same_front : (least : ℕ) (mine theirs : List ℕ) (rest more : List (List ℕ)) → Ascend least mine → AllByRecursion (IsBelow size) mine → Ascend least theirs → AllByRecursion (IsBelow size) theirs
      → StopsFrom sign (place_after least mine) size rest → OtherFirst sign more → map (signed sign) mine ++ rest ≡ map (signed sign) theirs ++ more → (mine ≡ theirs) × (rest ≡ more)
  same_front least [] [] rest more up within upper inside stops other same = (refl, same)
  same_front least [] (p ∷ theirs) rest more up within upper inside stops other same =
      let there : StopsFrom sign least size (signed sign p ∷ (map (signed sign) theirs ++ more)) = subst (StopsFrom sign least size) same stops in
      absurd (there p record { low = upper.0; high = inside.0; spelled = refl })
  same_front least (p ∷ mine) [] rest more up within upper inside stops other same =
      let there : OtherFirst sign (signed sign p ∷ (map (signed sign) mine ++ rest)) = subst (OtherFirst sign) (sym same) other in
      absurd (there p refl)
  same_front least (p ∷ mine) (q ∷ theirs) rest more up within upper inside stops other same =
      let heads : signed sign p ≡ signed sign q = cc in
      let tails : map (signed sign) mine ++ rest ≡ map (signed sign) theirs ++ more = cc in
      let number : p ≡ q = one_number p q within.0 inside.0 heads in
      let above : Ascend (p + 1) theirs = subst (λ (k : ℕ). Ascend (k + 1) theirs) (sym number) upper.1 in
      let h = same_front (p + 1) mine theirs rest more up.1 within.1 above inside.1 stops other tails in
      ((λ i. number i ∷ h.0 i), h.1)

-- the words after a minus sign don't begin with one after a plus sign
pub minus_is_other : (places : List ℕ) → OtherFirst 43 (map (signed 45) places)
minus_is_other [] = tt
minus_is_other (p ∷ places) = λ q same. let signs : ◌≡◌ {A = ℕ} 45 43 = cc in omega (arith, signs)
