-- Where the lowest open transition has one input place only in the greatest siphon of a class, each siphon of the class has
-- that place: it has an output place of the transition, so it has an input place of it too.
use Rattle.std.proofs.Common.{◌≡◌, sym, ◌∙◌, subst, ℕ, ◌<◌, Bool, false, IsTrue, ltb, set, inl, inr, arith}
use Rattle.std.proofs.lemmas.Bool.{cases_Bool, cases_eq, both_ways, and_parts, ltb-true}
use Rattle.std.proofs.lemmas.List.{get_or-set_same, get_or-set_other}
use Rattle.net_values.specs.Net.{Net}
use Rattle.net_values.specs.PlaceSets.{has}
use Rattle.closed_sets.specs.ClosedSets.{has_output_in, IsSiphon, IsWithin}
use Rattle.closed_sets.specs.Growth.{IsFirst, is_input_in, is_open}
use Rattle.closed_sets.proofs.Below.{pair_at, pair_from}
use Rattle.closed_sets.proofs.Firsts.{first_same}
use Rattle.siphon_branch.specs.declared.live_class.LiveClass.{LiveClass}
use Rattle.siphon_branch.specs.LiveClasses.{branch_of, IsDead, IsHeld, IsNextPlace, part_without}
use Rattle.siphon_branch.specs.Held.{HasLoneNext}
use Rattle.siphon_branch.proofs.Halves.{next_below}
use Rattle.siphon_branch.proofs.HeldClasses.{dead_lost}

module _ (net : Net) (class : LiveClass) (held : IsHeld net class) where
  abbrev C : ℕ → Bool
  C = has class.contains

  abbrev G : ℕ → Bool
  G = has class.greatest

  module _ (lone : HasLoneNext net class.contains class.greatest) (p : ℕ) (next : IsNextPlace net C G p) where
    abbrev t : ℕ
    t = lone.transition

    -- the transition has an output place that is contained
    gives : (q : ℕ) × (q < net.places) × IsTrue (C q) × (0 < net.post q t)
    gives = pair_from net.places C (λ q. net.post q t) (and_parts (has_output_in net C t) _ lone.opens.passes).0

    is_lone : lone.place ≡ p
    is_lone =
        elim next [
          | inl lowest ↦ absurd (both_ways (C gives.0) (lowest.nothing gives.0) gives.2)
          | inr input ↦
              let same : input.transition ≡ t = first_same net.transitions (is_open net C) input.transition t input.opens lone.opens in
              let first : IsFirst net.places (is_input_in net G t) p = subst (λ (u : ℕ). IsFirst net.places (is_input_in net G u) p) same input.first in
              let parts = and_parts (G p) (ltb 0 (net.pre p t)) first.passes in
              sym (lone.lone.only p first.below parts.0 (ltb-true 0 (net.pre p t) parts.1))
        ]

    -- no siphon without the place has that output place
    lost : (S : ℕ → Bool) → IsSiphon net S → IsWithin net S (has (set class.greatest p false)) → S gives.0 ≡ false
    lost S siphon within =
        elim (cases_Bool (S gives.0)) [
          | inr out ↦ out
          | inl member ↦
              let takes = pair_from net.places S (λ q. net.pre q t) (siphon t lone.opens.below (pair_at net.places S (λ q. net.post q t) gives.0 gives.1 member gives.3)) in
              let left : IsTrue (has (set class.greatest p false) takes.0) = within takes.0 takes.1 takes.2 in
              elim (cases_eq takes.0 p) [
                | inl here ↦
                    let out : has (set class.greatest p false) takes.0 ≡ false =
                    subst (λ (r : ℕ). has (set class.greatest p false) r ≡ false) (sym here) (get_or-set_same class.greatest p false false (omega (arith, next_below net C G p next, held.room))) in
                    absurd (both_ways (has (set class.greatest p false) takes.0) out left)
                | inr other ↦ absurd (other (lone.lone.only takes.0 takes.1 (sym (get_or-set_other class.greatest p takes.0 false false other) ∙ left) takes.3 ∙ is_lone))
              ]
        ]

    pub lone_dead : IsDead net (part_without (branch_of class) p)
    lone_dead = dead_lost net class held p next record { place = gives.0; below = gives.1; kept = gives.2; lost = lost }
