-- A search begins: of the given classes the live ones are kept, since in the others no siphon is grown.
use Rattle.std.proofs.Common.{◌≡◌, refl, sym, ap, ◌∙◌, subst, ℕ, ◌+◌, ◌<◌, ◌≤◌, List, [], ◌∷◌, ◌++◌, length, get_or, take, inl, inr, All, AllPairs, arith}
use Rattle.std.proofs.lemmas.List.{get_or-take, length-take-le, map-append, take_all, take_more}
use Rattle.std.proofs.lemmas.List.Elements.{All-nil, All-push}
use Rattle.net_values.specs.Net.{Net}
use Rattle.siphon_branch.specs.declared.branch.Branch.{Branch}
use Rattle.siphon_branch.specs.declared.live_class.LiveClass.{LiveClass}
use Rattle.siphon_branch.specs.Classes.{AreDisjoint}
use Rattle.siphon_branch.specs.LiveClasses.{branch_of, branches_of, IsHeld}
use Rattle.siphon_branch.specs.Held.{IsUnderway, KeepsLive}
use Rattle.siphon_branch.proofs.Divisions.{AreLiveOnes, ones_none, ones_dead, ones_live, ones_divided}
use Rattle.siphon_branch.proofs.HeldClasses.{dead_grown}
use Rattle.siphon_branch.proofs.Lists.{contains_none}

-- the first classes were looked at
pub record IsBeginning (net : Net) (branches : List Branch) (i : ℕ) (classes : List LiveClass) : Type 0 where
  pub live : All (IsHeld net) classes
  pub ones : AreLiveOnes net (take i branches) (branches_of classes)

take_nothing : {X : Type 0} (xs : List X) → take 0 xs ≡ []
take_nothing [] = refl
take_nothing (x ∷ xs) = refl

pub beginning_none : (net : Net) (branches : List Branch) → IsBeginning net branches 0 []
beginning_none net branches = record {
  live = All-nil (IsHeld net);
  ones = subst (λ (xs : List Branch). AreLiveOnes net xs []) (sym (take_nothing branches)) (ones_none net);
}

pairs_take : {X : Type 0} (R : X → X → Type 0) (n : ℕ) (xs : List X) → n ≤ length xs → AllPairs R xs → AllPairs R (take n xs)
pairs_take R n xs fits pairs i j d less within =
    let size = length-take-le n xs fits in
    subst (λ x. R x (get_or (take n xs) j d)) (sym (get_or-take n xs i d (omega arith)))
    (subst (λ y. R (get_or xs i d) y) (sym (get_or-take n xs j d (omega arith))) (pairs i j d less (omega arith)))

module _ (net : Net) (branches : List Branch) (i : ℕ) (class : Branch) (old new : List LiveClass) (disjoint : AllPairs AreDisjoint branches) (within : i < length branches) (here : class ≡ get_or branches i class) where
  more : take (i + 1) branches ≡ take i branches ++ class ∷ []
  more = take_more branches i class within ∙ ap (λ (last : Branch). take i branches ++ last ∷ []) (sym here)

  pub beginning_more : KeepsLive net class old new → IsBeginning net branches i old → IsBeginning net branches (i + 1) new
  beginning_more kept beginning =
      elim kept [
        | inl none ↦
            subst (λ (xs : List LiveClass). IsBeginning net branches (i + 1) xs) (sym none.0) record {
              live = beginning.live;
              ones = subst (λ (xs : List Branch). AreLiveOnes net xs (branches_of old)) (sym more) (ones_dead net (take i branches) (branches_of old) class (dead_grown net class none.1) beginning.ones);
            }
        | inr some ↦
            let same : branches_of (old ++ some.0 ∷ []) ≡ branches_of old ++ class ∷ [] = map-append branch_of old (some.0 ∷ []) ∙ ap (λ (c : Branch). branches_of old ++ c ∷ []) some.2.same in
            let apart : AllPairs AreDisjoint (take i branches ++ class ∷ []) = subst (λ (xs : List Branch). AllPairs AreDisjoint xs) more (pairs_take AreDisjoint (i + 1) branches (omega arith) disjoint) in
            subst (λ (xs : List LiveClass). IsBeginning net branches (i + 1) xs) (sym some.1) record {
              live = All-push (IsHeld net) old some.0 beginning.live some.2.held;
              ones = subst (λ (xs : List Branch). AreLiveOnes net xs (branches_of (old ++ some.0 ∷ []))) (sym more)
                  (subst (λ (ys : List Branch). AreLiveOnes net (take i branches ++ class ∷ []) ys) (sym same) (ones_live net (take i branches) (branches_of old) class apart beginning.ones));
            }
      ]

pub beginning_all : (net : Net) (branches : List Branch) (i : ℕ) (classes : List LiveClass) → length branches ≤ i → IsBeginning net branches i classes → IsUnderway net branches classes [] []
beginning_all net branches i classes past beginning = record {
  live = beginning.live;
  divided = ones_divided net branches (branches_of classes) (subst (λ (xs : List Branch). AreLiveOnes net xs (branches_of classes)) (take_all i branches past) beginning.ones);
  minimal = record {
    distinct = λ i j d less within same. absurd (omega arith);
    members = λ set. (λ some. absurd (contains_none set some), λ all. absurd (contains_none set all.0));
  };
}
