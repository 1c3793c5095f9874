-- The parts of a class that is held: the one with the next place is held with the same greatest siphon, the other
-- where the greatest siphon without that place still has what is contained.
use Rattle.std.proofs.Common.{◌≡◌, ◌≢◌, ◌↔◌, ◌⊎◌, refl, sym, ap, ◌∙◌, subst, ℕ, ◌<◌, ◌==◌, ◌&&◌, List, [], ◌∷◌, ◌++◌, append_assoc, Bool, true, false, IsTrue, not, length, set, length-set, inl, inr, MatchBool, arith}
use Rattle.std.proofs.lemmas.Bool.{false≢true, cases_Bool, cases_eq, both_ways, or_left, or_right, and_from, and_parts, eq-eqb, not-true, not_from_false}
use Rattle.std.proofs.lemmas.List.{get_or-set_same, get_or-set_other, get_or_default, same_lists, map-append}
use Rattle.std.proofs.lemmas.List.Elements.{Contains-append_cases}
use Rattle.net_values.specs.Net.{Net}
use Rattle.net_values.specs.PlaceSets.{has, IsEmpty, IsSubset}
use Rattle.closed_sets.specs.ClosedSets.{any_below, IsSiphon, IsNonempty, IsWithin, IsGreatestSiphon}
use Rattle.closed_sets.specs.Growth.{with_place, Belongs, GrowsWhole, IsGrownIn, whole}
use Rattle.closed_sets.specs.Opens.{AreOpen}
use Rattle.closed_sets.specs.Kept.{KeepsWithout, LosesWithout}
use Rattle.closed_sets.proofs.Below.{same_bools, any_at, any_from, none_at}
use Rattle.closed_sets.proofs.OpenSets.{placed}
use Rattle.closed_sets.proofs.SmallerSiphons.{nonempty_from}
use Rattle.siphon_branch.specs.declared.branch.Branch.{Branch}
use Rattle.siphon_branch.specs.declared.live_class.LiveClass.{LiveClass}
use Rattle.siphon_branch.specs.Classes.{AreDisjoint, HasSize, IsConsistent, IsGrownSetIn}
use Rattle.siphon_branch.specs.LiveClasses.{branch_of, branches_of, IsDead, IsHeld, IsLiveOf, IsNextPlace, IsWhole, part_containing, part_without}
use Rattle.siphon_branch.specs.Held.{KeepsLive, part_left}
use Rattle.siphon_branch.specs.Searches.{IsDivided}
use Rattle.siphon_branch.proofs.Complements.{has_within}
use Rattle.siphon_branch.proofs.Divisions.{Splits, splits_turned, divided_on, some_left, some_right, some_cases, some_one, from_one, pairs_one}
use Rattle.siphon_branch.proofs.Growths.{growth_over}
use Rattle.siphon_branch.proofs.Halves.{to_without, from_without, to_containing, from_containing, next_below, next_free}
use Rattle.siphon_branch.proofs.Lists.{contains_one, pairs_append}

-- a siphon that is grown in a class isn't empty
pub grown_some : (net : Net) (C A S : ℕ → Bool) → IsGrownIn net C A S → IsNonempty net S
grown_some net C A S grown =
    elim grown.grows [
      | inl grows ↦ let at = any_from net.places C grows.0 in any_at net.places S at.0 at.1 (grown.belongs.has_all at.0 at.1 at.2)
      | inr from_lowest ↦ any_at net.places S from_lowest.1.lowest from_lowest.1.first.below from_lowest.1.first.passes
    ]

-- a siphon of the class lies in the greatest siphon that avoids the one set
pub in_greatest : (net : Net) (C A G S : ℕ → Bool) → IsGreatestSiphon net (λ p. not (A p)) G → IsSiphon net S → Belongs net C A S → IsWithin net S G
in_greatest net C A G S greatest siphon belongs =
    greatest.greatest S siphon (λ p below member. not_from_false (A p) (elim (cases_Bool (A p)) [
      | inl avoided ↦ absurd (both_ways (S p) (belongs.has_none p below avoided) member)
      | inr out ↦ out
    ]))

-- in a dead class no siphon is grown
pub dead_grown : (net : Net) (class : Branch) → IsDead net class → (set : List Bool) → IsGrownSetIn net class set → ⊥
dead_grown net class dead set found =
    dead (has set) found.grown.siphon (grown_some net (has class.contains) (has class.avoids) (has set) found.grown) found.grown.belongs

-- a class whose greatest siphon is empty, or lacks a place that is contained, is dead
pub dead_from : (net : Net) (class : Branch) (found : List Bool) → IsGreatestSiphon net (λ p. not (has class.avoids p)) (has found) → IsEmpty found ⊎ ((p : ℕ) × (p < net.places) × IsTrue (has class.contains p) × (has found p ≡ false)) → IsDead net class
dead_from net class found greatest lacks S siphon some belongs =
    let within = in_greatest net (has class.contains) (has class.avoids) (has found) S greatest siphon belongs in
    elim lacks [
      | inl empty ↦ let at = any_from net.places S some in both_ways (has found at.0) (empty at.0) (within at.0 at.1 at.2)
      | inr lost ↦ both_ways (has found lost.0) lost.3 (within lost.0 lost.1 (belongs.has_all lost.0 lost.1 lost.2))
    ]

-- a place that is contained but not in the set
lacking : (n : ℕ) (contains found : List Bool) → length contains ≡ n → (IsSubset contains found → ⊥) → (p : ℕ) × (p < n) × IsTrue (has contains p) × (has found p ≡ false)
lacking n contains found size not_within =
    elim (cases_Bool (any_below n (λ p. has contains p && not (has found p)))) [
      | inl some ↦
          let at = any_from n (λ p. has contains p && not (has found p)) some in
          let parts = and_parts (has contains at.0) (not (has found at.0)) at.2 in
          (at.0, at.1, parts.0, not-true (has found at.0) parts.1)
      | inr none ↦ absurd (not_within (λ p member. elim (cases_Bool (has found p)) [
        | inl inside ↦ inside
        | inr out ↦
            let below = has_within n contains p size member in
            absurd (both_ways (has contains p && not (has found p)) (none_at n (λ q. has contains q && not (has found q)) none p below) (and_from (has contains p) (not (has found p)) member (not_from_false (has found p) out)))
      ]))
    ]

pub dead_empty_or_past : (net : Net) (class : Branch) (found : List Bool) → HasSize net.places class → length found ≡ net.places → IsGreatestSiphon net (λ p. not (has class.avoids p)) (has found) → IsEmpty found ⊎ (IsSubset class.contains found → ⊥) → IsDead net class
dead_empty_or_past net class found size size' greatest either =
    dead_from net class found greatest (elim either [
      | inl empty ↦ inl empty
      | inr past ↦ inr (lacking net.places class.contains found size.contains past)
    ])

pub live_of : (net : Net) (class : Branch) (found opens : List Bool) → HasSize net.places class → length found ≡ net.places → IsGreatestSiphon net (λ p. not (has class.avoids p)) (has found) → (IsEmpty found → ⊥) → IsSubset class.contains found → AreOpen net class.contains opens → (contains avoids : List Bool) → contains ≡ class.contains → avoids ≡ class.avoids → IsLiveOf net class record { contains = contains; avoids = avoids; greatest = found; opens = opens }
live_of net class found opens size size' greatest some within open' contains avoids same same' =
    subst (λ (c : List Bool). IsLiveOf net class record { contains = c; avoids = avoids; greatest = found; opens = opens }) (sym same)
    (subst (λ (a : List Bool). IsLiveOf net class record { contains = class.contains; avoids = a; greatest = found; opens = opens }) (sym same') record {
      held = record {
        size = size;
        room = size';
        greatest = greatest;
        some = nonempty_from net found size' some;
        within = λ p below member. within p member;
        opens = open';
      };
      same = refl;
    })

-- no place of a held class is both contained and avoided
pub held_consistent : (net : Net) (class : LiveClass) → IsHeld net class → IsConsistent (branch_of class)
held_consistent net class held p contained avoided =
    let below = has_within net.places class.contains p held.size.contains contained in
    both_ways (has class.avoids p) (not-true (has class.avoids p) (held.greatest.within p below (held.within p below contained))) avoided

module _ (net : Net) (class : LiveClass) (held : IsHeld net class) where
  -- a held class whose contained set is a nonempty siphon has that one only
  pub held_only : IsWhole net (has class.contains) → (list : List Bool) → IsGrownSetIn net (branch_of class) list ↔ (list ≡ class.contains)
  held_only all list = (
    λ grown.
        let grows : GrowsWhole net (has list) (has class.contains) = elim grown.grown.grows [ inl grows ↦ grows.1 | inr other ↦ absurd (other.0 all.some) ] in
        let within = growth_over net (has list) (has class.contains) all.siphon grows in
        same_lists list class.contains (grown.size ∙ sym held.size.contains) (λ k d here.
        get_or_default list k d false here
        ∙ same_bools (has list k) (has class.contains k) (within k (omega (arith, grown.size))) (grown.grown.belongs.has_all k (omega (arith, grown.size)))
        ∙ get_or_default class.contains k false d (omega (arith, grown.size, held.size.contains))),
    λ same. subst (λ (s : List Bool). IsGrownSetIn net (branch_of class) s) (sym same) record {
      size = held.size.contains;
      grown = record {
        siphon = all.siphon;
        belongs = record {
          has_all = λ p below member. member;
          has_none = λ p below avoided. elim (cases_Bool (has class.contains p)) [
            | inl member ↦ absurd (held_consistent net class held p member avoided)
            | inr out ↦ out
          ];
        };
        grows = inl (all.some, whole all.siphon (λ p below member. member));
      };
    },
  )

  module _ (p : ℕ) (next : IsNextPlace net (has class.contains) (has class.greatest) p) where
    abbrev C : ℕ → Bool
    C = has class.contains

    abbrev A : ℕ → Bool
    A = has class.avoids

    below : p < net.places
    below = next_below net C (has class.greatest) p next

    avoids_is : ◌≡◌ {A = ℕ → Bool} (has (set class.avoids p true)) (with_place A p)
    avoids_is = λ i q. placed class.avoids p (omega (arith, below, held.size.avoids)) q i

    contains_is : ◌≡◌ {A = ℕ → Bool} (has (set class.contains p true)) (with_place C p)
    contains_is = λ i q. placed class.contains p (omega (arith, below, held.size.contains)) q i

    abbrev Without : Branch
    Without = part_without (branch_of class) p

    abbrev Containing : Branch
    Containing = part_containing (branch_of class) p

    lacks_it : (list : List Bool) → IsGrownSetIn net Without list → IsGrownSetIn net (branch_of class) list
    lacks_it list found = record { size = found.size; grown = (from_without net C A (has list) p below (subst (λ (B : ℕ → Bool). IsGrownIn net C B (has list)) avoids_is found.grown)).0 }

    inside : (list : List Bool) → IsSiphon net (has list) → Belongs net C A (has list) → IsWithin net (has list) (has class.greatest)
    inside list = in_greatest net C A (has class.greatest) (has list) held.greatest

    has_it : (list : List Bool) → IsGrownSetIn net Containing list → IsGrownSetIn net (branch_of class) list
    has_it list found = record {
      size = found.size;
      grown = (from_containing net C (has class.greatest) p next A (has list) (inside list) (subst (λ (B : ℕ → Bool). IsGrownIn net B A (has list)) contains_is found.grown)).0;
    }

    either_part : (list : List Bool) → IsGrownSetIn net (branch_of class) list → IsGrownSetIn net Without list ⊎ IsGrownSetIn net Containing list
    either_part list found =
        elim (cases_Bool (has list p)) [
          | inl member ↦ inr record { size = found.size; grown = subst (λ (B : ℕ → Bool). IsGrownIn net B A (has list)) (sym contains_is) (to_containing net C (has class.greatest) p next A (has list) (inside list) found.grown member) }
          | inr out ↦ inl record { size = found.size; grown = subst (λ (B : ℕ → Bool). IsGrownIn net C B (has list)) (sym avoids_is) (to_without net C A (has list) p found.grown out) }
        ]

    -- the parts are disjoint from what the class is disjoint from
    without_apart : (other : Branch) → AreDisjoint other (branch_of class) → AreDisjoint other Without
    without_apart other disjoint = record {
      place = disjoint.place;
      apart = elim disjoint.apart [
        | inl holds ↦ inl (holds.0, (λ i. avoids_is i disjoint.place) ∙ or_right (disjoint.place == p) (A disjoint.place) holds.1)
        | inr holds ↦ inr holds
      ];
    }

    containing_apart : (other : Branch) → AreDisjoint other (branch_of class) → AreDisjoint other Containing
    containing_apart other disjoint = record {
      place = disjoint.place;
      apart = elim disjoint.apart [
        | inl holds ↦ inl holds
        | inr holds ↦ inr (holds.0, (λ i. contains_is i disjoint.place) ∙ or_right (disjoint.place == p) (C disjoint.place) holds.1)
      ];
    }

    parts_apart : AreDisjoint Without Containing
    parts_apart = record {
      place = p;
      apart = inr ((λ i. avoids_is i p) ∙ or_left (p == p) (A p) (eq-eqb p p refl), (λ i. contains_is i p) ∙ or_left (p == p) (C p) (eq-eqb p p refl));
    }

    split_two : Splits net (branch_of class ∷ []) (Without ∷ Containing ∷ [])
    split_two = record {
      exact = λ list. (
        λ some. elim (either_part list (from_one (IsGrownSetIn net) (branch_of class) list some)) [
          | inl one ↦ some_left (IsGrownSetIn net) (Without ∷ []) (Containing ∷ []) list (some_one (IsGrownSetIn net) Without list one)
          | inr other ↦ some_right (IsGrownSetIn net) (Without ∷ []) (Containing ∷ []) list (some_one (IsGrownSetIn net) Containing list other)
        ],
        λ some. some_one (IsGrownSetIn net) (branch_of class) list (elim (some_cases (IsGrownSetIn net) (Without ∷ []) (Containing ∷ []) list some) [
          | inl one ↦ lacks_it list (from_one (IsGrownSetIn net) Without list one)
          | inr other ↦ has_it list (from_one (IsGrownSetIn net) Containing list other)
        ]),
      );
      disjoint = pairs_append AreDisjoint (Without ∷ []) (Containing ∷ []) (pairs_one AreDisjoint Without) (pairs_one AreDisjoint Containing)
          (λ x y one other. subst (λ (c : Branch). AreDisjoint c y) (sym (contains_one Without x one)) (subst (λ (c : Branch). AreDisjoint Without c) (sym (contains_one Containing y other)) parts_apart));
      within = λ other y there disjoint.
          let apart = disjoint (branch_of class) (0, omega arith, refl) in
          elim (Contains-append_cases (Without ∷ []) (Containing ∷ []) y there) [
            | inl one ↦ subst (λ (c : Branch). AreDisjoint other c) (sym (contains_one Without y one)) (without_apart other apart)
            | inr last ↦ subst (λ (c : Branch). AreDisjoint other c) (sym (contains_one Containing y last)) (containing_apart other apart)
          ];
    }

    split_one : IsDead net Without → Splits net (branch_of class ∷ []) (Containing ∷ [])
    split_one dead = record {
      exact = λ list. (
        λ some. some_one (IsGrownSetIn net) Containing list (elim (either_part list (from_one (IsGrownSetIn net) (branch_of class) list some)) [
          | inl one ↦ absurd (dead_grown net Without dead list one)
          | inr other ↦ other
        ]),
        λ some. some_one (IsGrownSetIn net) (branch_of class) list (has_it list (from_one (IsGrownSetIn net) Containing list some)),
      );
      disjoint = pairs_one AreDisjoint Containing;
      within = λ other y there disjoint.
          subst (λ (c : Branch). AreDisjoint other c) (sym (contains_one Containing y there)) (containing_apart other (disjoint (branch_of class) (0, omega arith, refl)));
    }

    -- one step down: the part without the place is dead, or comes before or after the other
    pub step_dead : (origin rest : List Branch) (met : List (List Bool)) → IsDead net Without → IsDivided net origin (rest ++ branch_of class ∷ []) met → IsDivided net origin (rest ++ Containing ∷ []) met
    step_dead origin rest met dead divided = divided_on net origin rest (branch_of class ∷ []) (Containing ∷ []) met (split_one dead) divided

    step_two : (origin rest : List Branch) (met : List (List Bool)) → IsDivided net origin (rest ++ branch_of class ∷ []) met → IsDivided net origin (rest ++ Without ∷ Containing ∷ []) met
    step_two origin rest met divided = divided_on net origin rest (branch_of class ∷ []) (Without ∷ Containing ∷ []) met split_two divided

    pub step_turned : (origin rest : List Branch) (met : List (List Bool)) → IsDivided net origin (rest ++ branch_of class ∷ []) met → IsDivided net origin (rest ++ Containing ∷ Without ∷ []) met
    step_turned origin rest met divided =
        divided_on net origin rest (branch_of class ∷ []) (Containing ∷ Without ∷ []) met (splits_turned net (branch_of class ∷ []) Without Containing split_two) divided

    -- the part without the place was kept where it is live
    pub step_divided : (origin : List Branch) (old new : List LiveClass) (met : List (List Bool)) → KeepsLive net Without old new → IsDivided net origin (branches_of old ++ branch_of class ∷ []) met → IsDivided net origin (branches_of new ++ Containing ∷ []) met
    step_divided origin old new met kept divided =
        elim kept [
          | inl none ↦
              subst (λ (xs : List LiveClass). IsDivided net origin (branches_of xs ++ Containing ∷ []) met) (sym none.0) (step_dead origin (branches_of old) met none.1 divided)
          | inr some ↦
              let same : branches_of new ≡ branches_of old ++ Without ∷ [] =
              ap branches_of some.1 ∙ map-append branch_of old (some.0 ∷ []) ∙ ap (λ (c : Branch). branches_of old ++ c ∷ []) some.2.same in
              subst (λ (xs : List Branch). IsDivided net origin xs met) (sym (ap (λ (xs : List Branch). xs ++ Containing ∷ []) same ∙ append_assoc (branches_of old) (Without ∷ []) (Containing ∷ [])))
              (step_two origin (branches_of old) met divided)
        ]

    -- a siphon that avoids the place too lies in what the place leaves of the greatest siphon
    in_rest : (S : ℕ → Bool) → IsSiphon net S → IsWithin net S (λ q. not (has (set class.avoids p true) q)) → IsWithin net S (has (set class.greatest p false))
    in_rest S siphon within q here member =
        let out : has (set class.avoids p true) q ≡ false = not-true _ (within q here member) in
        elim (cases_eq q p) [
          | inl same ↦
              let avoided : IsTrue (has (set class.avoids p true) q) = (λ i. avoids_is i q) ∙ or_left (q == p) (A q) (eq-eqb q p same) in
              absurd (both_ways (has (set class.avoids p true) q) out avoided)
          | inr other ↦
              get_or-set_other class.greatest p q false false other
              ∙ held.greatest.greatest S siphon (λ r there inside'. not_from_false (A r) (elim (cases_Bool (A r)) [
                | inl avoided ↦
                    let all : IsTrue (has (set class.avoids p true) r) = (λ i. avoids_is i r) ∙ or_right (r == p) (A r) avoided in
                    absurd (both_ways (has (set class.avoids p true) r) (not-true _ (within r there inside')) all)
                | inr free ↦ free
              ])) q here member
        ]

    -- what is left of the greatest siphon without the place is the greatest siphon of the part without it
    greatest_less : (left : List Bool) → IsGreatestSiphon net (has (set class.greatest p false)) (has left) → IsGreatestSiphon net (λ q. not (has (set class.avoids p true) q)) (has left)
    greatest_less left greatest = record {
      siphon = greatest.siphon;
      within = λ q here member. elim (cases_eq q p) [
        | inl same ↦
            let taken : has (set class.greatest p false) q ≡ false = subst (λ (r : ℕ). has (set class.greatest p false) r ≡ false) (sym same) (get_or-set_same class.greatest p false false (omega (arith, below, held.room))) in
            absurd (both_ways (has (set class.greatest p false) q) taken (greatest.within q here member))
        | inr other ↦
            let inside' : IsTrue (has class.greatest q) = sym (get_or-set_other class.greatest p q false false other) ∙ greatest.within q here member in
            not_from_false _ (get_or-set_other class.avoids p q true false other ∙ not-true (A q) (held.greatest.within q here inside'))
      ];
      greatest = λ S siphon within. greatest.greatest S siphon (in_rest S siphon within);
    }

    without_size : HasSize net.places Without
    without_size = record { contains = held.size.contains; avoids = length-set class.avoids p true ∙ held.size.avoids }

    -- it is dead where a contained place falls, or nothing is left
    pub dead_lost : LosesWithout net class.contains p class.greatest → IsDead net Without
    dead_lost loses S siphon some belongs =
        let within = in_rest S siphon (λ q here member. not_from_false _ (elim (cases_Bool (has (set class.avoids p true) q)) [
          | inl avoided ↦ absurd (both_ways (S q) (belongs.has_none q here avoided) member)
          | inr free ↦ free
        ])) in
        both_ways (S loses.place) (loses.lost S siphon within) (belongs.has_all loses.place loses.below loses.kept)

    dead_empty : (left : List Bool) → KeepsWithout net class.contains p class.greatest left → IsEmpty left → IsDead net Without
    dead_empty left keeps empty = dead_from net Without left (greatest_less left keeps.greatest) (inl empty)

    -- else it is held with what is left
    without_held : (left : List Bool) → length left ≡ net.places → KeepsWithout net class.contains p class.greatest left → (IsEmpty left → ⊥) → IsHeld net (part_left class p left)
    without_held left size keeps some = record {
      size = without_size;
      room = size;
      greatest = greatest_less left keeps.greatest;
      some = nonempty_from net left size some;
      within = λ q here member.
          let other : q ≢ p = λ same. both_ways (C q) (subst (λ (r : ℕ). C r ≡ false) (sym same) (next_free net C (has class.greatest) p next)) member in
          keeps.kept q member ∙ get_or-set_other class.greatest p q false false other ∙ held.within q here member;
      opens = held.opens;
    }

    -- and the part with the place with the same greatest siphon
    pub free_place : C p ≡ false
    free_place = next_free net C (has class.greatest) p next

    pub in_contains : p < length class.contains
    in_contains = omega (arith, below, held.size.contains)

    -- whether the part without the place is live
    pub part_decided : (left : List Bool) (empty : Bool) → length left ≡ net.places → KeepsWithout net class.contains p class.greatest left → IsTrue empty ↔ IsEmpty left → MatchBool (not empty) (IsHeld net (part_left class p left)) (IsDead net Without)
    part_decided left true size keeps exact = dead_empty left keeps (exact.0 refl)
    part_decided left false size keeps exact = without_held left size keeps (λ empty. false≢true (exact.1 empty))

    pub part_live : (left : List Bool) (part : LiveClass) → IsHeld net (part_left class p left) → part ≡ part_left class p left → IsLiveOf net Without part
    part_live left part held' same = subst (λ (c : LiveClass). IsLiveOf net Without c) (sym same) record { held = held'; same = refl }
