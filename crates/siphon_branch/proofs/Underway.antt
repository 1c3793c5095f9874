-- A search under way: a class is taken, its siphon is met, and it is found where it is minimal.
use Rattle.std.proofs.Common.{◌≡◌, refl, sym, ap, ◌∙◌, subst, ℕ, ◌<◌, ◌≤◌, List, [], ◌∷◌, ◌++◌, append_assoc, Bool, length, get_or, take, inl, inr, All, Contains, Some, arith}
use Rattle.std.proofs.Math.Seq.{take-append_seam}
use Rattle.std.proofs.lemmas.List.{append-nil, map-append, length_push}
use Rattle.std.proofs.lemmas.List.Elements.{Contains-get_or, Contains-append_left, Contains-push, Contains-push_cases, All-pop}
use Rattle.net_values.specs.Net.{Net}
use Rattle.net_values.specs.PlaceSets.{has}
use Rattle.closed_sets.specs.ClosedSets.{IsMinimalSiphon}
use Rattle.siphon_branch.specs.declared.branch.Branch.{Branch}
use Rattle.siphon_branch.specs.declared.live_class.LiveClass.{LiveClass}
use Rattle.siphon_branch.specs.LiveClasses.{branch_of, branches_of, IsHeld}
use Rattle.siphon_branch.specs.Held.{AddsFound, Descends, Extends, IsSomehowUnderway, IsUnderway, KeepsUnderway}
use Rattle.siphon_branch.specs.Met.{IsListOf}
use Rattle.siphon_branch.specs.Searches.{IsDivided, IsMinimalOf}
use Rattle.siphon_branch.proofs.Divisions.{pairs_across}
use Rattle.siphon_branch.proofs.Lists.{distinct_append, distinct_one, contains_one}

pub extends_not : {X : Type 0} (xs : List X) → Extends xs xs
extends_not xs = record { added = []; appended = sym (append-nil xs) }

pub extends_on : {X : Type 0} (xs ys zs : List X) → Extends xs ys → Extends ys zs → Extends xs zs
extends_on xs ys zs first then = record {
  added = first.added ++ then.added;
  appended = then.appended ∙ ap (λ list. list ++ then.added) first.appended ∙ append_assoc xs first.added then.added;
}

pub extends_one : {X : Type 0} (xs ys : List X) (x : X) → ys ≡ xs ++ x ∷ [] → Extends xs ys
extends_one xs ys x pushed = record { added = x ∷ []; appended = pushed }

pub extends_same : {X : Type 0} (xs ys : List X) → ys ≡ xs → Extends xs ys
extends_same xs ys same = subst (λ list. Extends xs list) (sym same) (extends_not xs)

-- the first part of a list that was appended to
pub cut_back : {X : Type 0} (xs ys : List X) → Extends xs ys → take (length xs) ys ≡ xs
cut_back xs ys extends = ap (λ list. take (length xs) list) extends.appended ∙ take-append_seam xs extends.added

-- every siphon that was met has the size of the net, and so has every one that was found
pub met_sized : (net : Net) (origin pending : List Branch) (met : List (List Bool)) → IsDivided net origin pending met → (set : List Bool) → Contains met set → length set ≡ net.places
met_sized net origin pending met divided set there = ((divided.grown set).1 (inl there)).holds.size

pub met_sizes : (net : Net) (classes : List LiveClass) (met found : List (List Bool)) → IsSomehowUnderway net classes met found → All (λ set. length set ≡ net.places) met
met_sizes net classes met found some k d within =
    met_sized net some.0 (branches_of classes) met some.1.divided (get_or met k d) (Contains-get_or met k d within)

pub found_sizes : (net : Net) (classes : List LiveClass) (met found : List (List Bool)) → IsSomehowUnderway net classes met found → All (λ set. length set ≡ net.places) found
found_sizes net classes met found some k d within =
    met_sized net some.0 (branches_of classes) met some.1.divided (get_or found k d) ((some.1.minimal.members (get_or found k d)).0 (Contains-get_or found k d within)).0

-- the minimal ones among one siphon more
module _ (net : Net) (met found : List (List Bool)) (siphon : List Bool) (anew : Contains met siphon → ⊥) (minimal : IsListOf (IsMinimalOf net met) found) where
  keep_one : IsMinimalSiphon net (has siphon) → IsListOf (IsMinimalOf net (met ++ siphon ∷ [])) (found ++ siphon ∷ [])
  keep_one holds = record {
    distinct = distinct_append found (siphon ∷ []) minimal.distinct (distinct_one siphon)
        (λ set there one. anew (subst (λ (s : List Bool). Contains met s) (contains_one siphon set one) ((minimal.members set).0 there).0));
    members = λ set. (
      λ some. elim (Contains-push_cases found siphon set some) [
        | inl before ↦ let all = (minimal.members set).0 before in (Contains-append_left met (siphon ∷ []) set all.0, all.1)
        | inr last ↦ subst (λ (s : List Bool). IsMinimalOf net (met ++ siphon ∷ []) s) last (Contains-push met siphon, holds)
      ],
      λ all. elim (Contains-push_cases met siphon set all.0) [
        | inl before ↦ Contains-append_left found (siphon ∷ []) set ((minimal.members set).1 (before, all.1))
        | inr last ↦ subst (λ (s : List Bool). Contains (found ++ siphon ∷ []) s) last (Contains-push found siphon)
      ],
    );
  }

  skip_one : (IsMinimalSiphon net (has siphon) → ⊥) → IsListOf (IsMinimalOf net (met ++ siphon ∷ [])) found
  skip_one fails = record {
    distinct = minimal.distinct;
    members = λ set. (
      λ some. let all = (minimal.members set).0 some in (Contains-append_left met (siphon ∷ []) set all.0, all.1),
      λ all. elim (Contains-push_cases met siphon set all.0) [
        | inl before ↦ (minimal.members set).1 (before, all.1)
        | inr last ↦ absurd (fails (subst (λ (s : List Bool). IsMinimalSiphon net (has s)) (sym last) all.1))
      ],
    );
  }

  pub found_on : (found' : List (List Bool)) → AddsFound net siphon found found' → IsListOf (IsMinimalOf net (met ++ siphon ∷ [])) found'
  found_on found' adds =
      elim adds [
        | inl holds ↦ subst (λ (list : List (List Bool)). IsListOf (IsMinimalOf net (met ++ siphon ∷ [])) list) (sym holds.1) (keep_one holds.0)
        | inr fails ↦ subst (λ (list : List (List Bool)). IsListOf (IsMinimalOf net (met ++ siphon ∷ [])) list) (sym fails.1) (skip_one fails.0)
      ]

-- the last class was taken
pub underway_on : (net : Net) (classes rest : List LiveClass) (class : LiveClass) (classes' : List LiveClass) (siphon : List Bool) (met met' found found' : List (List Bool)) → classes ≡ rest ++ class ∷ [] → Descends net class rest classes' siphon → met' ≡ met ++ siphon ∷ [] → AddsFound net siphon found found' → KeepsUnderway net classes classes' met met' found found'
underway_on net classes rest class classes' siphon met met' found found' popped descends pushed adds origin underway =
    let same : branches_of classes ≡ branches_of rest ++ branch_of class ∷ [] = ap branches_of popped ∙ map-append branch_of rest (class ∷ []) in
    let divided : IsDivided net origin (branches_of classes') (met ++ siphon ∷ []) =
    descends.divided origin met (subst (λ (xs : List Branch). IsDivided net origin xs met) same underway.divided) in
    let anew : Contains met siphon → ⊥ = λ there. pairs_across (λ (one later : List Bool). one ≡ later → ⊥) met (siphon ∷ []) divided.distinct siphon siphon there (0, omega arith, refl) refl in
    subst (λ (list : List (List Bool)). IsUnderway net origin classes' list found') (sym pushed) record {
      live = descends.live (All-pop (IsHeld net) classes rest (Some class) popped underway.live).0;
      divided = divided;
      minimal = found_on net met found siphon anew underway.minimal found' adds;
    }

pub last_held : (net : Net) (classes rest : List LiveClass) (class : LiveClass) (met found : List (List Bool)) → classes ≡ rest ++ class ∷ [] → IsSomehowUnderway net classes met found → IsHeld net class
last_held net classes rest class met found popped some = (All-pop (IsHeld net) classes rest (Some class) popped some.1.live).1

-- the walk has come to these classes and these siphons
pub record IsWalking (net : Net) (classes now : List LiveClass) (before met' found_before found' : List (List Bool)) (left : List Bool) (end : ℕ) : Type 0 where
  pub kept : KeepsUnderway net classes now before met' found_before found'
  pub met : Extends before met'
  pub found : Extends found_before found'
  pub within : length met' ≤ end
  pub room : length left ≡ net.places

pub walking_none : (net : Net) (classes : List LiveClass) (met found : List (List Bool)) (left : List Bool) (end : ℕ) → length met ≤ end → length left ≡ net.places → IsWalking net classes classes met met found found left end
walking_none net classes met found left end within room = record {
  kept = λ origin underway. underway;
  met = extends_not met;
  found = extends_not found;
  within = within;
  room = room;
}

module _ (net : Net) (classes now : List LiveClass) (met met' found found' : List (List Bool)) (left : List Bool) (end : ℕ) (walking : IsWalking net classes now met met' found found' left end) where
  pub walking_some : IsSomehowUnderway net classes met found → IsSomehowUnderway net now met' found'
  walking_some some = (some.0, walking.kept some.0 some.1)

  pub walking_more : (rest : List LiveClass) (class : LiveClass) (now' : List LiveClass) (siphon : List Bool) (met'' found'' : List (List Bool)) (left' : List Bool) → length met' < end → now ≡ rest ++ class ∷ [] → Descends net class rest now' siphon → met'' ≡ met' ++ siphon ∷ [] → AddsFound net siphon found' found'' → Extends found' found'' → length left' ≡ net.places → IsWalking net classes now' met met'' found found'' left' end
  walking_more rest class now' siphon met'' found'' left' less popped descends pushed adds extends room = record {
    kept = λ origin underway. underway_on net now rest class now' siphon met' met'' found' found'' popped descends pushed adds origin (walking.kept origin underway);
    met = extends_on met met' met'' walking.met (extends_one met' met'' siphon pushed);
    found = extends_on found found' found'' walking.found extends;
    within = omega (arith, less, ap length pushed, length_push met' siphon);
    room = room;
  }

-- nothing was left to take
pub popped_none : (classes rest : List LiveClass) → classes ≡ rest ++ [] → (0 < length classes → ⊥) → rest ≡ []
popped_none classes [] same none = refl
popped_none classes (class ∷ rest) same none = absurd (none (let many = ap length same in omega arith))
