-- Whether two classes have a siphon in common is decided, since a place that keeps them apart is below the sizes of their
-- sets. So a list of classes has a first one that isn't disjoint from those before it, or all are disjoint.
use Rattle.std.proofs.Common.{◌≡◌, ◌⊎◌, refl, subst, ℕ, zero, suc, ◌+◌, ◌<◌, ◌≤◌, ◌&&◌, List, [], ◌∷◌, Bool, length, take, get_or, inl, inr, All, AllPairs, arith}
use Rattle.std.proofs.lemmas.Bool.{and_from, and_parts, both_ways, cases_Bool}
use Rattle.std.proofs.lemmas.List.{get_or_default, take_all}
use Rattle.std.proofs.lemmas.List.Elements.{All-nil, All-cons}
use Rattle.net_values.specs.PlaceSets.{has}
use Rattle.closed_sets.specs.ClosedSets.{any_below}
use Rattle.closed_sets.proofs.Below.{any_from, none_at}
use Rattle.siphon_branch.specs.declared.branch.Branch.{Branch}
use Rattle.siphon_branch.specs.Classes.{AreDisjoint, every_set}
use Rattle.siphon_branch.proofs.AllSets.{Decided}
use Rattle.siphon_branch.proofs.Complements.{has_within}
use Rattle.siphon_branch.proofs.Divisions.{pairs_none}
use Rattle.branch_resume.specs.Disjoint.{HaveCommon, IsFirstOverlap, OverlapsOne}
use Rattle.branch_resume.proofs.Apart.{pairs_next, there_is}

pub decide_common : (one other : List Bool) → Decided (HaveCommon one other)
decide_common one other =
    elim (cases_Bool (any_below (length one) (λ p. has one p && has other p))) [
      | inl some ↦
          let at = any_from (length one) (λ p. has one p && has other p) some in
          let parts = and_parts (has one at.0) (has other at.0) at.2 in
          inl record { place = at.0; in_one = parts.0; in_other = parts.1 }
      | inr none ↦ inr (λ common.
          let below = has_within (length one) one common.place refl common.in_one in
          both_ways _ (none_at (length one) (λ p. has one p && has other p) none common.place below) (and_from (has one common.place) (has other common.place) common.in_one common.in_other))
    ]

pub decide_disjoint : (one other : Branch) → Decided (AreDisjoint one other)
decide_disjoint one other =
    elim (decide_common one.contains other.avoids) [
      | inl first ↦ inl record { place = first.place; apart = inl (first.in_one, first.in_other) }
      | inr neither ↦ elim (decide_common one.avoids other.contains) [
        | inl second ↦ inl record { place = second.place; apart = inr (second.in_one, second.in_other) }
        | inr none ↦ inr (λ disjoint. elim disjoint.apart [
          | inl holds ↦ neither record { place = disjoint.place; in_one = holds.0; in_other = holds.1 }
          | inr holds ↦ none record { place = disjoint.place; in_one = holds.0; in_other = holds.1 }
        ])
      ]
    ]

apart_or_overlaps : (earlier : List Branch) (class : Branch) → All (λ one. AreDisjoint one class) earlier ⊎ OverlapsOne earlier class
apart_or_overlaps [] class = inl (All-nil (λ one. AreDisjoint one class))
apart_or_overlaps (one ∷ earlier) class =
    elim (decide_disjoint one class) [
      | inr overlaps ↦ inr (0, one, omega arith, refl, overlaps)
      | inl apart ↦ elim (apart_or_overlaps earlier class) [
        | inl all ↦ inl (All-cons (λ one. AreDisjoint one class) one earlier apart all)
        | inr some ↦ inr (suc some.0, some.1, (let below = some.2 in omega (arith, below)), some.3, some.4)
      ]
    ]

disjoint_up_to : (classes : List Branch) (k : ℕ) → k ≤ length classes → AllPairs AreDisjoint (take k classes) ⊎ ((j : ℕ) × IsFirstOverlap classes j)
disjoint_up_to classes zero fits = inl (pairs_none AreDisjoint)
disjoint_up_to classes (suc k) fits =
    let class : Branch = get_or classes k (every_set 0) in
    let below : k < length classes = omega (arith, fits) in
    let is : class ≡ get_or classes k class = get_or_default classes k (every_set 0) class below in
    let next : k + 1 ≡ suc k = omega arith in
    elim (disjoint_up_to classes k (omega (arith, fits))) [
      | inr found ↦ inr found
      | inl before ↦ elim (apart_or_overlaps (take k classes) class) [
        | inl apart ↦ inl (subst (λ (n : ℕ). AllPairs AreDisjoint (take n classes)) next (pairs_next classes k class below is before apart))
        | inr overlaps ↦ inr (k, record { within = below; class = class; there = there_is classes k class below is; before = before; overlaps = overlaps })
      ]
    ]

pub disjoint_or_overlap : (classes : List Branch) → AllPairs AreDisjoint classes ⊎ ((k : ℕ) × IsFirstOverlap classes k)
disjoint_or_overlap classes = elim (disjoint_up_to classes (length classes) (omega arith)) [
  | inl disjoint ↦ inl (subst (AllPairs AreDisjoint) (take_all (length classes) classes (omega arith)) disjoint)
  | inr found ↦ inr found
]
