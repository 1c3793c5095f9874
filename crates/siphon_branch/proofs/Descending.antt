-- The way down a class: at each step the class in hand and those that were kept have what is grown in the first one.
use Rattle.std.proofs.Common.{◌≡◌, sym, ap, ◌∙◌, subst, ℕ, ◌+◌, ◌-◌, ◌<◌, ◌≤◌, List, [], ◌∷◌, ◌++◌, Bool, true, false, cond, length, set, length-set, inl, inr, All, arith}
use Rattle.std.proofs.lemmas.List.Elements.{All-append, All-cons, All-nil}
use Rattle.std.proofs.lemmas.List.Sums.{sum_by-set, count_by-le-length}
use Rattle.net_values.specs.Net.{Net}
use Rattle.net_values.specs.PlaceSets.{has}
use Rattle.closed_sets.specs.Passes.{members}
use Rattle.siphon_branch.specs.declared.branch.Branch.{Branch}
use Rattle.siphon_branch.specs.declared.live_class.LiveClass.{LiveClass}
use Rattle.siphon_branch.specs.LiveClasses.{branch_of, branches_of, IsHeld, IsNextPlace, IsWhole, part_containing, part_without}
use Rattle.siphon_branch.specs.Held.{Descends, KeepsLive}
use Rattle.siphon_branch.specs.Searches.{IsDivided}
use Rattle.siphon_branch.proofs.Divisions.{divided_leaf}
use Rattle.siphon_branch.proofs.HeldClasses.{held_only, step_divided, free_place, in_contains}

pub record IsDescending (net : Net) (first : LiveClass) (old : List LiveClass) (class : LiveClass) (now : List LiveClass) (left : List Bool) : Type 0 where
  pub held : IsHeld net class
  pub live : All (IsHeld net) old → All (IsHeld net) now
  pub divided : (origin : List Branch) (met : List (List Bool)) → IsDivided net origin (branches_of old ++ branch_of first ∷ []) met → IsDivided net origin (branches_of now ++ branch_of class ∷ []) met
  pub room : length left ≡ net.places

pub descending_none : (net : Net) (class : LiveClass) (classes : List LiveClass) (left : List Bool) → IsHeld net class → length left ≡ net.places → IsDescending net class classes class classes left
descending_none net class classes left held room = record { held = held; live = λ all. all; divided = λ origin met divided. divided; room = room }

kept_live : (net : Net) (class : Branch) (old new : List LiveClass) → KeepsLive net class old new → All (IsHeld net) old → All (IsHeld net) new
kept_live net class old new kept all =
    elim kept [
      | inl none ↦ subst (λ (xs : List LiveClass). All (IsHeld net) xs) (sym none.0) all
      | inr some ↦ subst (λ (xs : List LiveClass). All (IsHeld net) xs) (sym some.1) (All-append (IsHeld net) old (some.0 ∷ []) all (All-cons (IsHeld net) some.0 [] some.2.held (All-nil (IsHeld net))))
    ]

-- one place more is in the list of truth values
pub less_left : (list : List Bool) (p : ℕ) → p < length list → has list p ≡ false → length (set list p true) - members (set list p true) < length list - members list
less_left list p below out =
    let same : length (set list p true) ≡ length list = simp length-set in
    let grown : members (set list p true) + cond {A = ℕ} (has list p) 1 0 ≡ members list + 1 = sum_by-set (λ (b : Bool). cond b 1 0) list p true false below in
    let old : cond {A = ℕ} (has list p) 1 0 ≡ 0 = ap (λ (b : Bool). cond {A = ℕ} b 1 0) out in
    let bound : members (set list p true) ≤ length (set list p true) = count_by-le-length (λ (b : Bool). b) (set list p true) in
    omega arith

module _ (net : Net) (first : LiveClass) (old : List LiveClass) (class : LiveClass) (now : List LiveClass) (left : List Bool) (going : IsDescending net first old class now left) where
  module _ (p : ℕ) (next : IsNextPlace net (has class.contains) (has class.greatest) p) (class' : LiveClass) (contains : class'.contains ≡ set class.contains p true) where
    pub descending_more : (now' : List LiveClass) (left' : List Bool) → length left' ≡ length left → KeepsLive net (part_without (branch_of class) p) now now' → class'.avoids ≡ class.avoids → IsHeld net class' → IsDescending net first old class' now' left'
    descending_more now' left' size kept avoids held = record {
      held = held;
      live = λ all. kept_live net (part_without (branch_of class) p) now now' kept (going.live all);
      divided = λ origin met divided.
          let same : branch_of class' ≡ part_containing (branch_of class) p = λ i. record { contains = contains i; avoids = avoids i } in
          subst (λ (c : Branch). IsDivided net origin (branches_of now' ++ c ∷ []) met) (sym same)
          (step_divided net class going.held p next origin now now' met kept (going.divided origin met divided));
      room = size ∙ going.room;
    }

    pub descending_less : length class'.contains - members class'.contains < length class.contains - members class.contains
    descending_less =
        subst (λ (s : List Bool). length s - members s < length class.contains - members class.contains) (sym contains)
        (less_left class.contains p (in_contains net class going.held p next) (free_place net class going.held p next))

  pub descending_over : IsWhole net (has class.contains) → Descends net first old now class.contains
  descending_over all = record {
    size = going.held.size.contains;
    whole = all;
    live = going.live;
    divided = λ origin met divided. divided_leaf net origin (branches_of now) (branch_of class) class.contains met going.held.size (held_only net class going.held all) (going.divided origin met divided);
  }
