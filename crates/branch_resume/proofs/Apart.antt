-- Classes that each avoid a place that all later ones contain are pairwise disjoint.
use Rattle.std.proofs.Common.{◌≡◌, sym, ap, ◌∙◌, subst, ℕ, zero, suc, ◌+◌, ◌-◌, ◌<◌, ◌≤◌, List, [], ◌∷◌, ◌++◌, Bool, length, drop, drop-cons, take, get_or, slice_get, Some, inr, All, AllPairs, arith}
use Rattle.std.proofs.Math.Seq.{take-suc}
use Rattle.std.proofs.lemmas.List.{take_all}
use Rattle.std.proofs.lemmas.List.Elements.{All-cons, All-push}
use Rattle.std.proofs.lemmas.List.Quantifiers.{all_pairs_push}
use Rattle.std.specs.Prelude.{IsTrue}
use Rattle.std.proofs.lemmas.List.Kept.{AllPairs-cons}
use Rattle.net_values.specs.PlaceSets.{has}
use Rattle.siphon_branch.specs.declared.branch.Branch.{Branch}
use Rattle.siphon_branch.specs.Classes.{AreDisjoint}
use Rattle.branch_resume.specs.Disjoint.{HaveCommon, IsWithinBoth}

-- all of the classes contain the place
abbrev pub AllContain : ℕ → List Branch → Type 0
AllContain p classes = All (λ class. IsTrue (has class.contains p)) classes

-- the classes from one on are pairwise disjoint, and all contain the places of the set
pub record ArePartedFrom (classes : List Branch) (k : ℕ) (common : List Bool) : Type 0 where
  pub within : k ≤ length classes
  pub disjoint : AllPairs AreDisjoint (drop k classes)
  pub contained : (p : ℕ) → IsTrue (has common p) → AllContain p (drop k classes)

pub parted_more : (classes : List Branch) (class : Branch) (k : ℕ) (common kept : List Bool) → drop k classes ≡ class ∷ drop (k + 1) classes → k < length classes → ArePartedFrom classes (k + 1) common → HaveCommon common class.avoids → IsWithinBoth common class.contains kept
    → ArePartedFrom classes k kept
parted_more classes class k common kept is within parted shared both = record {
  within = omega (arith, within);
  disjoint = subst (AllPairs AreDisjoint) (sym is) (AllPairs-cons AreDisjoint class (drop (k + 1) classes)
      (λ i d below. record { place = shared.place; apart = inr (shared.in_other, parted.contained shared.place shared.in_one i d below) }) parted.disjoint);
  contained = λ p some. subst (AllContain p) (sym is) (All-cons (λ other. IsTrue (has other.contains p)) class (drop (k + 1) classes) (both p some).1 (parted.contained p (both p some).0));
}

-- from the last class to the first
pub parted_back : (classes : List Branch) (class : Branch) (first : ℕ) (common kept : List Bool) → 0 < first → class ≡ get_or classes (first - 1) class → ArePartedFrom classes first common → HaveCommon common class.avoids → IsWithinBoth common class.contains kept
    → ArePartedFrom classes (first - 1) kept
parted_back classes class first common kept some is parted shared both =
    let next : (first - 1) + 1 ≡ first = omega (arith, some) in
    let same : suc (first - 1) ≡ (first - 1) + 1 = omega arith in
    let within = parted.within in
    let below : first - 1 < length classes = omega (arith, within, some) in
    let cut : drop (first - 1) classes ≡ class ∷ drop ((first - 1) + 1) classes =
    drop-cons classes (first - 1) class below ∙ ap (λ (c : Branch). c ∷ drop (suc (first - 1)) classes) (sym is) ∙ ap (λ (k : ℕ). class ∷ drop k classes) same in
    parted_more classes class (first - 1) common kept cut below (subst (λ (k : ℕ). ArePartedFrom classes k common) (sym next) parted) shared both

-- ---- the classes before one

pub take_next : {X : Type 0} (xs : List X) (i : ℕ) (x : X) → i < length xs → x ≡ get_or xs i x → take (i + 1) xs ≡ take i xs ++ x ∷ []
take_next xs i x below is = let next : i + 1 ≡ suc i = omega arith in ap (λ (n : ℕ). take n xs) next ∙ take-suc xs i x below ∙ ap (λ y. take i xs ++ y ∷ []) (sym is)

pub all_next : {X : Type 0} (P : X → Type 0) (xs : List X) (i : ℕ) (x : X) → i < length xs → x ≡ get_or xs i x → All P (take i xs) → P x → All P (take (i + 1) xs)
all_next P xs i x below is all holds = subst (All P) (sym (take_next xs i x below is)) (All-push P (take i xs) x all holds)

pub all_taken : {X : Type 0} (P : X → Type 0) (xs : List X) (i : ℕ) → length xs ≤ i → All P (take i xs) → All P xs
all_taken P xs i past all = subst (All P) (take_all i xs past) all

pub pairs_next : (classes : List Branch) (i : ℕ) (class : Branch) → i < length classes → class ≡ get_or classes i class → AllPairs AreDisjoint (take i classes) → All (λ one. AreDisjoint one class) (take i classes) → AllPairs AreDisjoint (take (i + 1) classes)
pairs_next classes i class below is pairs all = subst (AllPairs AreDisjoint) (sym (take_next classes i class below is)) (all_pairs_push AreDisjoint (take i classes) class pairs (λ k d. all k d))

pub pairs_taken : (classes : List Branch) (i : ℕ) → length classes ≤ i → AllPairs AreDisjoint (take i classes) → AllPairs AreDisjoint classes
pairs_taken classes i past pairs = subst (AllPairs AreDisjoint) (take_all i classes past) pairs

pub there_is : (classes : List Branch) (i : ℕ) (class : Branch) → i < length classes → class ≡ get_or classes i class → slice_get classes i ≡ Some class
there_is [] i class below is = absurd (omega (arith, below))
there_is (first ∷ classes) zero class below is = ap Some (sym is)
there_is (first ∷ classes) (suc i) class below is = there_is classes i class (omega (arith, below)) is
