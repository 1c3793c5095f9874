-- What the tests of a walk's sets say of its class.
use Rattle.std.proofs.Common.{◌≡◌, refl, sym, ap, ◌∙◌, subst, ℕ, ◌<◌, ◌↔◌, ◌&&◌, not, Bool, true, false, IsTrue, inl, inr, arith}
use Rattle.std.proofs.lemmas.Bool.{cases_lt, cases_Bool, both_ways, false≢true, and_from, and_parts, not-true, not_from_false}
use Rattle.std.proofs.lemmas.List.{get_or_past}
use Rattle.std.specs.Prelude.{MatchBool}
use Rattle.net_values.specs.Net.{Net}
use Rattle.net_values.specs.PlaceSets.{has, IsEmpty, IsSubset}
use Rattle.closed_sets.specs.ClosedSets.{any_below, IsGreatestSiphon}
use Rattle.closed_sets.specs.Commoner.{HasMarkedTrap}
use Rattle.closed_sets.proofs.Below.{any_at, any_from, none_from, pair_from}
use Rattle.closed_sets.proofs.SmallerSiphons.{nonempty_from}
use Rattle.certificates.specs.declared.certificate.TreeLine.TheVariants.{Split, Empty, Trap}
use Rattle.certificates.specs.Conditions.{SiphonClass, TreeLineHolds, all_siphons}
use Rattle.cert_check.specs.declared.walk.Walk.{Walk}
use Rattle.cert_check.specs.Walks.{IsAt, IsKnown, allowed_in, class_now, class_of}
use Rattle.cert_check.proofs.EmptyClasses.{none_there, place_lacking, one_there}
use Rattle.cert_check.proofs.WalkLaws.{unused_outside, outside_unused}

module _ (net : Net) (walk : Walk) (at : IsAt net walk) where
  pub split_holds : (p : ℕ) → p < net.places → has walk.used p ≡ false → TreeLineHolds net (class_now walk) (Split p)
  split_holds p below unused =
      let parts = unused_outside walk.levels.items walk.depth p (sym (at.way.used p below) ∙ unused) in
      (below, parts.0, parts.1)

  pub split_fails : (p : ℕ) → p < net.places → IsTrue (has walk.used p) → TreeLineHolds net (class_now walk) (Split p) → ⊥
  split_fails p below used holds =
      both_ways (has walk.used p) (at.way.used p below ∙ outside_unused walk.levels.items walk.depth p holds.1 holds.2) used

  pub known_empty : IsTrue walk.empty → TreeLineHolds net (class_now walk) Empty
  known_empty empty = subst (λ (b : Bool). IsKnown net (class_now walk) b walk.live) empty at.known

  greatest_now : walk.empty ≡ false → IsGreatestSiphon net (allowed_in (class_now walk)) (has walk.live)
  greatest_now some = subst (λ (b : Bool). IsKnown net (class_now walk) b walk.live) some at.known

  pub live_empty : walk.empty ≡ false → IsEmpty walk.live → TreeLineHolds net (class_now walk) Empty
  live_empty known empty = none_there net (class_now walk) (has walk.live) (greatest_now known) (none_from net.places (has walk.live) (λ p below. empty p))

  live_lacks : walk.empty ≡ false → (IsSubset walk.contained walk.live → ⊥) → TreeLineHolds net (class_now walk) Empty
  live_lacks known lacks =
      elim (cases_Bool (any_below net.places (λ q. has walk.contained q && not (has walk.live q)))) [
        | inl some ↦
            let found = any_from net.places (λ q. has walk.contained q && not (has walk.live q)) some in
            let parts = and_parts (has walk.contained found.0) (not (has walk.live found.0)) found.2 in
            place_lacking net (class_now walk) (has walk.live) found.0 (greatest_now known) found.1 (sym (at.way.contained found.0 found.1) ∙ parts.0) (not-true (has walk.live found.0) parts.1)
        | inr none ↦ absurd (lacks (λ p member. elim (cases_lt p net.places) [
          | inr past ↦ absurd (both_ways (has walk.contained p) (get_or_past walk.contained p false (let size = at.way.sizes.contained in omega arith)) member)
          | inl below ↦ elim (cases_Bool (has walk.live p)) [
            | inl inside ↦ inside
            | inr outside ↦ absurd (both_ways _ none (any_at net.places (λ q. has walk.contained q && not (has walk.live q)) p below (and_from (has walk.contained p) (not (has walk.live p)) member (not_from_false (has walk.live p) outside))))
          ]
        ]))
      ]

  live_full : walk.empty ≡ false → (IsEmpty walk.live → ⊥) → IsSubset walk.contained walk.live → TreeLineHolds net (class_now walk) Empty → ⊥
  live_full known some within =
      one_there net (class_now walk) (has walk.live) (greatest_now known) (nonempty_from net walk.live at.way.sizes.live some) (λ q below member. within q (at.way.contained q below ∙ member))

  pub live_decides : (within : Bool) → walk.empty ≡ false → (IsEmpty walk.live → ⊥) → IsTrue within ↔ IsSubset walk.contained walk.live → MatchBool (not within) (TreeLineHolds net (class_now walk) Empty) (TreeLineHolds net (class_now walk) Empty → ⊥)
  live_decides true known some decides = live_full known some (decides.0 refl)
  live_decides false known some decides = live_lacks known (λ within. false≢true (decides.1 within))

  -- the set that the walk keeps and the set that the class contains have the same traps
  pub trap_holds : HasMarkedTrap net (has walk.contained) → TreeLineHolds net (class_now walk) Trap
  trap_holds some = record {
    trap = some.trap;
    closed = some.closed;
    within = λ q below member. sym (at.way.contained q below) ∙ some.within q below member;
    marked = some.marked;
  }

  pub trap_given : TreeLineHolds net (class_now walk) Trap → HasMarkedTrap net (has walk.contained)
  trap_given some = record {
    trap = some.trap;
    closed = some.closed;
    within = λ q below member. at.way.contained q below ∙ some.within q below member;
    marked = some.marked;
  }

  -- above any split no place is contained
  pub no_trap_above : walk.depth ≡ 0 → TreeLineHolds net (class_now walk) Trap → ⊥
  no_trap_above none some =
      let there = pair_from net.places some.trap net.initial some.marked in
      both_ways (all_siphons.contains there.0) refl (subst (λ (class : SiphonClass). IsTrue (class.contains there.0)) (ap (class_of walk.levels.items) none) (some.within there.0 there.1 there.2))
