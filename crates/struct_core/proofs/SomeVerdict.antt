-- Every net has Commoner's verdict: a set contains a marked trap exactly where the greatest trap in it is marked,
-- and each nonempty siphon contains a listed minimal one.
use Rattle.std.proofs.Common.{◌≡◌, ◌⊎◌, ℕ, zero, suc, ◌<◌, List, [], length, refl, sym, subst, ◌∙◌, arith, inl, inr}
use Rattle.std.specs.Prelude.{Bool, true, false, ◌&&◌, nat_lt, slice_index_or}
use Rattle.std.specs.Cmp.Lexicographic.{slice_cmp}
use Rattle.std.specs.Ordering.{bool_cmp}
use Rattle.std.proofs.lemmas.Bool.{cases_Bool, and_from, and_parts, cases_lt}
use Rattle.std.proofs.lemmas.List.{get_or_default}
use Rattle.net_values.specs.Net.{Net, reversed}
use Rattle.net_values.specs.PlaceSets.{has}
use Rattle.net_values.specs.TheList.{IsTheList}
use Rattle.closed_sets.specs.ClosedSets.{any_below, IsWithin}
use Rattle.closed_sets.specs.Commoner.{IsMarked, HasMarkedTrap, MeetsCommoner}
use Rattle.closed_sets.specs.MinimalSets.{IsMinimalSet}
use Rattle.closed_sets.proofs.Below.{any_at, any_from}
use Rattle.closed_sets.proofs.Covers.{covers}
use Rattle.closed_sets.proofs.GreatestSiphons.{greatest_there}
use Rattle.closed_sets.proofs.Traps.{traps_reversed}
use Rattle.net_class.specs.declared.verdict.Verdict.{Verdict}
use Rattle.net_class.specs.declared.verdict.Verdict.TheVariants.{Yes, No}
use Rattle.net_class.specs.Verdicts.{IsFirstWithoutTrap}
use Rattle.siphon_branch.proofs.Limits.{lists_there}
use Rattle.page_flatten.proofs.Decisions.{Decided}
use Rattle.struct_core.specs.Verdicts.{IsVerdict}
use Rattle.struct_core.proofs.Judging.{is_listed}

module _ (net : Net) where
  -- a marked set makes each set around it marked
  marked_around : (S U : ℕ → Bool) → IsWithin net S U → IsMarked net net.initial S → IsMarked net net.initial U
  marked_around S U within marked =
      let at = any_from net.places (λ p. S p && nat_lt 0 (net.initial p)) marked in
      let parts = and_parts (S at.0) (nat_lt 0 (net.initial at.0)) at.2 in
      any_at net.places (λ p. U p && nat_lt 0 (net.initial p)) at.0 at.1 (and_from (U at.0) (nat_lt 0 (net.initial at.0)) (within at.0 at.1 parts.0) parts.1)

  marked_trap_or_not : (S : ℕ → Bool) → Decided (HasMarkedTrap net S)
  marked_trap_or_not S =
      let greatest = greatest_there (reversed net) S in
      let G = greatest.0 in
      elim (cases_Bool (any_below net.places (λ p. G p && nat_lt 0 (net.initial p)))) [
        | inl marked ↦ inl record { trap = G; closed = (traps_reversed net G).trap.1 greatest.1.siphon; within = greatest.1.within; marked = marked }
        | inr unmarked ↦ inr (λ h.
            let around = marked_around h.trap G (greatest.1.greatest h.trap ((traps_reversed net h.trap).trap.0 h.closed) h.within) h.marked in
            let e : true ≡ false = sym around ∙ unmarked in cc)
      ]

  -- the first of the listed sets without one
  abbrev AllHave : List (List Bool) → ℕ → Type 0
  AllHave list n = (k : ℕ) → k < n → HasMarkedTrap net (has (slice_index_or list k []))

  have_more : (list : List (List Bool)) (n : ℕ) → AllHave list n → HasMarkedTrap net (has (slice_index_or list n [])) → AllHave list (suc n)
  have_more list n all last = λ k under. elim (cases_lt k n) [
    | inl before ↦ all k before
    | inr from ↦ subst (λ (j : ℕ). HasMarkedTrap net (has (slice_index_or list j []))) (let e : n ≡ k = omega (arith, from, under) in e) last
  ]

  first_unsafe : (list : List (List Bool)) (n : ℕ) → AllHave list n ⊎ ((k : ℕ) × (k < n) × (HasMarkedTrap net (has (slice_index_or list k [])) → ⊥) × AllHave list k)
  first_unsafe list zero = inl (λ k under. absurd (omega arith))
  first_unsafe list (suc n) = elim (first_unsafe list n) [
    | inl all ↦ elim (marked_trap_or_not (has (slice_index_or list n []))) [
      | inl has_one ↦ inl (have_more list n all has_one)
      | inr lacks ↦ inr (n, omega arith, lacks, all)
    ]
    | inr found ↦ inr (found.0, omega (arith, found.1), found.2, found.3)
  ]

  module _ (list : List (List Bool)) (is : IsTheList (slice_cmp bool_cmp) (IsMinimalSet net) list) where
    all_meet : AllHave list (length list) → MeetsCommoner net
    all_meet all = λ S siphon nonempty.
        let inner = covers net list is S siphon nonempty in
        let at : slice_index_or list inner.0 [] ≡ inner.1 = sym (get_or_default list inner.0 inner.1 [] inner.2) ∙ inner.3 in
        let holds : HasMarkedTrap net (has inner.1) = subst (λ (set : List Bool). HasMarkedTrap net (has set)) at (all inner.0 inner.2) in
        record { trap = holds.trap; closed = holds.closed; within = λ p under member. inner.4 p under (holds.within p under member); marked = holds.marked }

    not_met : (siphon : List Bool) → IsFirstWithoutTrap net list siphon → MeetsCommoner net → ⊥
    not_met siphon first meets =
        let minimal = (is.members siphon).0 (is_listed net list siphon first) in
        first.lacks (meets (has siphon) minimal.minimal.siphon minimal.minimal.nonempty)

    by_list : (one : Verdict) × IsVerdict net one
    by_list = elim (first_unsafe list (length list)) [
      | inl all ↦ (Yes, record { exact = (λ same. all_meet all, λ meets. refl); siphons = list; all = is; first = tt })
      | inr found ↦
          let siphon = slice_index_or list found.0 [] in
          let first : IsFirstWithoutTrap net list siphon = record { index = found.0; below = found.1; listed = refl; lacks = found.2; earlier = found.3 } in
          (No siphon, record { exact = (λ same. cc, λ meets. absurd (not_met siphon first meets)); siphons = list; all = is; first = first })
    ]

pub verdict_of : (net : Net) → (one : Verdict) × IsVerdict net one
verdict_of net = let lists = (lists_there net).siphons in by_list net lists.0 lists.1
