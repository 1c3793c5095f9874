-- A walk whose sets are those of its class keeps this where it goes down, over and up. What the class and the pending
-- classes are depends on the splits above only, so a split that is written at the end of the way changes none of
-- those before it.
use Rattle.std.proofs.Common.{◌≡◌, ◌≢◌, refl, sym, ap, ◌∙◌, ℕ, zero, suc, ◌<◌, ◌==◌, ◌||◌, ◌&&◌, not, List, [], Bool, true, false, IsTrue, length, set, length-set, inl, inr, arith}
use Rattle.std.proofs.lemmas.Bool.{cases_eq, true≢false, and_from, and_parts, and_right, or_left, eq-eqb, ne_eqb}
use Rattle.std.proofs.lemmas.List.{get_or-set_same, get_or-set_other}
use Rattle.net_values.specs.Net.{Net}
use Rattle.net_values.specs.PlaceSets.{has}
use Rattle.closed_sets.specs.ClosedSets.{IsGreatestSiphon}
use Rattle.certificates.specs.Conditions.{SiphonClass}
use Rattle.cert_check.specs.declared.walk.Level.{Level}
use Rattle.cert_check.specs.Walks.{level_at, side, after_side, class_of, pending_of, used_of, except, saved_at, IsFresh}

or_false : (x y : Bool) → x ≡ false → y ≡ false → (x || y) ≡ false
or_false false y first second = second
or_false true y first second = absurd (true≢false first)

or_parts : (x y : Bool) → (x || y) ≡ false → (x ≡ false) × (y ≡ false)
or_parts false y none = (refl, none)
or_parts true y none = absurd (true≢false none)

-- the splits before d decide the class, the pending classes and the places after them
abbrev pub Alike : List Level → List Level → ℕ → Type 0
Alike levels other d = (e : ℕ) → e < d → level_at other e ≡ level_at levels e

pub class_same : (levels other : List Level) (d : ℕ) → Alike levels other d → class_of other d ≡ class_of levels d
class_same levels other zero same = refl
class_same levels other (suc d) same =
    ap (λ (class : SiphonClass). side class (level_at other d).place (level_at other d).contained) (class_same levels other d (λ e less. same e (omega arith)))
    ∙ ap (λ (level : Level). side (class_of levels d) level.place level.contained) (same d (omega arith))

pub pending_same : (levels other : List Level) (d : ℕ) → Alike levels other d → pending_of other d ≡ pending_of levels d
pending_same levels other zero same = refl
pending_same levels other (suc d) same =
    ap (λ (class : SiphonClass). after_side class (level_at other d).place (level_at other d).contained (pending_of other d)) (class_same levels other d (λ e less. same e (omega arith)))
    ∙ ap (λ (level : Level). after_side (class_of levels d) level.place level.contained (pending_of other d)) (same d (omega arith))
    ∙ ap (λ (classes : List SiphonClass). after_side (class_of levels d) (level_at levels d).place (level_at levels d).contained classes) (pending_same levels other d (λ e less. same e (omega arith)))

-- here only the places count
pub used_same : (levels other : List Level) (d : ℕ) → ((e : ℕ) → e < d → (level_at other e).place ≡ (level_at levels e).place) → (q : ℕ) → used_of other d q ≡ used_of levels d q
used_same levels other zero same q = refl
used_same levels other (suc d) same q =
    ap (λ (p : ℕ). (q == p) || used_of other d q) (same d (omega arith))
    ∙ ap (λ (used : Bool). (q == (level_at levels d).place) || used) (used_same levels other d (λ e less. same e (omega arith)) q)

pub fresh_same : (net : Net) (levels other : List Level) (e : ℕ) → ((f : ℕ) → f < suc e → (level_at other f).place ≡ (level_at levels f).place) → IsFresh net levels e → IsFresh net other e
fresh_same net levels other e same fresh = record {
  place = let here : (level_at other e).place ≡ (level_at levels e).place = same e (omega arith) in let below = fresh.place in omega arith;
  unused = ap (used_of other e) (same e (omega arith)) ∙ used_same levels other e (λ f less. same f (omega arith)) (level_at levels e).place ∙ fresh.unused;
}

-- a place that none of the splits uses is neither contained nor avoided, and the other way round
side_unused : (class : SiphonClass) (p : ℕ) (b : Bool) (q : ℕ) → (q == p) ≡ false → (class.contains q ≡ false) × (class.avoids q ≡ false) → ((side class p b).contains q ≡ false) × ((side class p b).avoids q ≡ false)
side_unused class p true q other parts = (or_false (q == p) (class.contains q) other parts.0, parts.1)
side_unused class p false q other parts = (parts.0, or_false (q == p) (class.avoids q) other parts.1)

side_parts : (class : SiphonClass) (p : ℕ) (b : Bool) (q : ℕ) → (side class p b).contains q ≡ false → (side class p b).avoids q ≡ false → ((q == p) ≡ false) × (class.contains q ≡ false) × (class.avoids q ≡ false)
side_parts class p true q out free = let parts = or_parts (q == p) (class.contains q) out in (parts.0, parts.1, free)
side_parts class p false q out free = let parts = or_parts (q == p) (class.avoids q) free in (parts.0, out, parts.1)

pub unused_outside : (levels : List Level) (d q : ℕ) → used_of levels d q ≡ false → ((class_of levels d).contains q ≡ false) × ((class_of levels d).avoids q ≡ false)
unused_outside levels zero q unused = (refl, refl)
unused_outside levels (suc d) q unused =
    let parts = or_parts (q == (level_at levels d).place) (used_of levels d q) unused in
    side_unused (class_of levels d) (level_at levels d).place (level_at levels d).contained q parts.0 (unused_outside levels d q parts.1)

pub outside_unused : (levels : List Level) (d q : ℕ) → (class_of levels d).contains q ≡ false → (class_of levels d).avoids q ≡ false → used_of levels d q ≡ false
outside_unused levels zero q out free = refl
outside_unused levels (suc d) q out free =
    let parts = side_parts (class_of levels d) (level_at levels d).place (level_at levels d).contained q out free in
    or_false (q == (level_at levels d).place) (used_of levels d q) parts.0 (outside_unused levels d q parts.1 parts.2)

-- greatest siphons
pub greatest_same : (net : Net) (U V G : ℕ → Bool) → ((q : ℕ) → q < net.places → U q ≡ V q) → IsGreatestSiphon net U G → IsGreatestSiphon net V G
greatest_same net U V G same greatest = record {
  siphon = greatest.siphon;
  within = λ q below member. sym (same q below) ∙ greatest.within q below member;
  greatest = λ S siphon within. greatest.greatest S siphon (λ q below member. same q below ∙ within q below member);
}

-- without a place the greatest siphon in a set is the greatest one in the greatest siphon
pub greatest_except : (net : Net) (U G H : ℕ → Bool) (p : ℕ) → IsGreatestSiphon net U G → IsGreatestSiphon net (except G p) H → IsGreatestSiphon net (except U p) H
greatest_except net U G H p first second = record {
  siphon = second.siphon;
  within = λ q below member. let parts = and_parts (G q) (not (q == p)) (second.within q below member) in and_from (U q) (not (q == p)) (first.within q below parts.0) parts.1;
  greatest = λ S siphon within. second.greatest S siphon (λ q below member.
      and_from (G q) (not (q == p))
      (first.greatest S siphon (λ r here inside. (and_parts (U r) (not (r == p)) (within r here inside)).0) q below member)
      (and_parts (U q) (not (q == p)) (within q below member)).1);
}

pub not_or : (x y : Bool) → (not y && not x) ≡ not (x || y)
not_or true true = refl
not_or true false = refl
not_or false true = refl
not_or false false = refl

-- the lists of a walk after a write
pub level_here : (levels new : List Level) (d : ℕ) (level : Level) → new ≡ set levels d level → d < length levels → level_at new d ≡ level
level_here levels new d level is below = ap (λ (xs : List Level). level_at xs d) is ∙ get_or-set_same levels d level _ below

pub level_there : (levels new : List Level) (d e : ℕ) (level : Level) → new ≡ set levels d level → e ≢ d → level_at new e ≡ level_at levels e
level_there levels new d e level is other = ap (λ (xs : List Level). level_at xs e) is ∙ get_or-set_other levels d e level _ other

pub has_here : (old new : List Bool) (p : ℕ) (b : Bool) → new ≡ set old p b → p < length old → has new p ≡ b
has_here old new p b is below = ap (λ (xs : List Bool). has xs p) is ∙ get_or-set_same old p b false below

pub has_there : (old new : List Bool) (p q : ℕ) (b : Bool) → new ≡ set old p b → q ≢ p → has new q ≡ has old q
has_there old new p q b is other = ap (λ (xs : List Bool). has xs q) is ∙ get_or-set_other old p q b false other

pub saved_here : (old new : List (List Bool)) (d : ℕ) (x : List Bool) → new ≡ set old d x → d < length old → saved_at new d ≡ x
saved_here old new d x is below = ap (λ (xs : List (List Bool)). saved_at xs d) is ∙ get_or-set_same old d x [] below

pub saved_there : (old new : List (List Bool)) (d e : ℕ) (x : List Bool) → new ≡ set old d x → e ≢ d → saved_at new e ≡ saved_at old e
saved_there old new d e x is other = ap (λ (xs : List (List Bool)). saved_at xs e) is ∙ get_or-set_other old d e x [] other

pub length_set : {X : Type 0} (old new : List X) (p : ℕ) (x : X) → new ≡ set old p x → length new ≡ length old
length_set old new p x is = ap length is ∙ length-set old p x

kept_by : (x y : Bool) → IsTrue y → (x && y) ≡ x
kept_by true y holds = holds
kept_by false y holds = refl

-- a place put into a set, and taken out of it
pub put : (n : ℕ) (old new : List Bool) (p : ℕ) (S : ℕ → Bool) → new ≡ set old p true → p < length old → ((q : ℕ) → q < n → has old q ≡ S q) → (q : ℕ) → q < n → has new q ≡ ((q == p) || S q)
put n old new p S is below same q here =
    elim (cases_eq q p) [
      | inl equal ↦ ap (has new) equal ∙ has_here old new p true is below ∙ sym (or_left (q == p) (S q) (eq-eqb q p equal))
      | inr other ↦ has_there old new p q true is other ∙ same q here ∙ sym (ap (λ (b : Bool). b || S q) (ne_eqb q p other))
    ]

pub taken_out : (n : ℕ) (old new : List Bool) (p : ℕ) (S : ℕ → Bool) → new ≡ set old p false → p < length old → S p ≡ false → ((q : ℕ) → q < n → has old q ≡ ((q == p) || S q)) → (q : ℕ) → q < n → has new q ≡ S q
taken_out n old new p S is below lacks same q here =
    elim (cases_eq q p) [
      | inl equal ↦ ap (has new) equal ∙ has_here old new p false is below ∙ sym lacks ∙ ap S (sym equal)
      | inr other ↦ has_there old new p q false is other ∙ same q here ∙ ap (λ (b : Bool). b || S q) (ne_eqb q p other)
    ]

-- a set from which a place was taken
pub removed_except : (old new : List Bool) (p : ℕ) → new ≡ set old p false → p < length old → (q : ℕ) → has new q ≡ except (has old) p q
removed_except old new p is below q =
    elim (cases_eq q p) [
      | inl equal ↦ ap (has new) equal ∙ has_here old new p false is below ∙ sym (and_right (has old q) (not (q == p)) (ap not (eq-eqb q p equal)))
      | inr other ↦ has_there old new p q false is other ∙ sym (kept_by (has old q) (not (q == p)) (ap not (ne_eqb q p other)))
    ]
