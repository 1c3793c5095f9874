-- Commoner's condition gives liveness in a free-choice net. Let some transitions be lost at a reachable
-- marking, and call an empty input place of them stuck. No firing list makes a place stuck. If the stuck
-- places are a siphon, Commoner's condition puts a marked trap into it, against their being empty. Else a
-- transition gives to a stuck place and takes from none; it isn't among the lost ones, as those have a stuck
-- input place. It is lost too: firing it would leave fewer stuck places. So there are more lost transitions,
-- and both numbers are bounded.
use Rattle.std.proofs.Common.{◌≡◌, refl, ℕ, zero, suc, ◌<◌, List, [], ◌∷◌, ◌++◌, Bool, false, IsTrue, ◌&&◌, ◌||◌, ◌==◌, not, ltb, inl, inr, arith}
use Rattle.std.proofs.lemmas.Bool.{cases_lt, eq-eqb, eqb-true, lt-ltb, ltb-true, and_from, and_parts, both_ways, cases_Bool, not-true, not_from_false, or_left, or_right, or_cases}
use Rattle.net_values.specs.Net.{Net}
use Rattle.net_values.specs.TokenGame.{after, Reach, IsReachable}
use Rattle.closed_sets.specs.ClosedSets.{any_below, has_input_in, IsSiphon}
use Rattle.closed_sets.specs.Commoner.{MeetsCommoner}
use Rattle.closed_sets.proofs.Below.{any_at, any_from, pair_at, pair_from}
use Rattle.closed_sets.proofs.Firing.{trap_along}
use Rattle.net_class.specs.Classes.{IsFreeChoice}
use Rattle.free_choice_live.specs.Live.{IsLost, IsLive, CommonerGivesLiveness}
use Rattle.free_choice_live.proofs.Counting.{count, fewer}
use Rattle.free_choice_live.proofs.Firing.{reach_then, reachable_on, lost_on, kept_along, lost_input}

-- an empty input place of a transition of the set
abbrev stuck : Net → (ℕ → ℕ) → (ℕ → Bool) → ℕ → Bool
stuck net M D p = (M p == 0) && any_below net.transitions (λ t. D t && ltb 0 (net.pre p t))

-- some transitions, at least one, are lost at a reachable marking
record AreLost (net : Net) (M : ℕ → ℕ) (D : ℕ → Bool) : Type 0 where
  pub reachable : IsReachable net M
  pub lost : (t : ℕ) → t < net.transitions → IsTrue (D t) → IsLost net M t
  pub one : ℕ
  pub within : one < net.transitions
  pub member : IsTrue (D one)

-- the test of the others
abbrev others : (ℕ → Bool) → ℕ → Bool
others D t = not (D t)

-- the set with one transition more
abbrev with_one : (ℕ → Bool) → ℕ → ℕ → Bool
with_one D t u = u == t || D u

module _ (net : Net) (choice : IsFreeChoice net) (commoner : MeetsCommoner net) where
  stuck_at : (M : ℕ → ℕ) (D : ℕ → Bool) (p t : ℕ) → M p ≡ 0 → t < net.transitions → IsTrue (D t) → 0 < net.pre p t → IsTrue (stuck net M D p)
  stuck_at M D p t empty below member input =
      and_from (M p == 0) (any_below net.transitions (λ t. D t && ltb 0 (net.pre p t))) (eq-eqb (M p) 0 empty)
      (any_at net.transitions (λ t. D t && ltb 0 (net.pre p t)) t below (and_from (D t) (ltb 0 (net.pre p t)) member (lt-ltb 0 (net.pre p t) input)))

  stuck_empty : (M : ℕ → ℕ) (D : ℕ → Bool) (p : ℕ) → IsTrue (stuck net M D p) → M p ≡ 0
  stuck_empty M D p here = eqb-true (M p) 0 ((and_parts (M p == 0) (any_below net.transitions (λ t. D t && ltb 0 (net.pre p t))) here).0)

  -- a transition of the set that takes from the stuck place
  stuck_by : (M : ℕ → ℕ) (D : ℕ → Bool) (p : ℕ) → IsTrue (stuck net M D p) → (t : ℕ) × (t < net.transitions) × IsTrue (D t) × (0 < net.pre p t)
  stuck_by M D p here =
      let at = any_from net.transitions (λ t. D t && ltb 0 (net.pre p t)) ((and_parts (M p == 0) (any_below net.transitions (λ t. D t && ltb 0 (net.pre p t))) here).1) in
      (at.0, at.1, (and_parts (D at.0) (ltb 0 (net.pre p at.0)) at.2).0, ltb-true 0 (net.pre p at.0) ((and_parts (D at.0) (ltb 0 (net.pre p at.0)) at.2).1))

  -- the stuck places are no siphon
  no_siphon : (M : ℕ → ℕ) (D : ℕ → Bool) → AreLost net M D → IsSiphon net (stuck net M D) → ⊥
  no_siphon M D all siphon =
      let input = lost_input net M all.one choice.ordinary all.within (all.lost all.one all.within all.member) in
      let some = any_at net.places (stuck net M D) input.0 input.1.within (stuck_at M D input.0 all.one input.1.empty all.within all.member input.1.input) in
      let trap = commoner (stuck net M D) siphon some in
      let marked = trap_along net trap.trap net.initial M all.reachable.0 trap.closed trap.marked all.reachable.1 in
      let at = pair_from net.places trap.trap M marked in
      let empty = stuck_empty M D at.0 (trap.within at.0 at.1 at.2) in
      omega (arith, at.3)

  -- a firing list from a marking makes no place stuck
  stuck_before : (M M' : ℕ → ℕ) (D : ℕ → Bool) (ts : List ℕ) → AreLost net M D → Reach net M ts M' → (p : ℕ) → p < net.places → IsTrue (stuck net M' D p) → IsTrue (stuck net M D p)
  stuck_before M M' D ts all reached p below here =
      let by = stuck_by M' D p here in
      elim (cases_lt 0 (M p)) [
        | inl marked ↦
            let kept = kept_along net ts M M' by.0 p choice by.1 below by.3 (all.lost by.0 by.1 by.2) marked reached in
            let empty = stuck_empty M' D p here in
            absurd (omega arith)
        | inr empty ↦ stuck_at M D p by.0 (omega arith) by.1 by.2 by.3
      ]

  lost_after : (M M' : ℕ → ℕ) (D : ℕ → Bool) (ts : List ℕ) → AreLost net M D → Reach net M ts M' → AreLost net M' D
  lost_after M M' D ts all reached = record {
    reachable = reachable_on net ts M M' all.reachable reached;
    lost = λ t below member. lost_on net ts M M' t (all.lost t below member) reached;
    one = all.one;
    within = all.within;
    member = all.member;
  }

  lost_with : (M : ℕ → ℕ) (D : ℕ → Bool) (t : ℕ) → AreLost net M D → IsLost net M t → AreLost net M (with_one D t)
  lost_with M D t all lost = record {
    reachable = all.reachable;
    lost = λ u below member. elim (or_cases (u == t) (D u) member) [
      | inl same ↦ rw (eqb-true u t same) lost
      | inr other ↦ all.lost u below other
    ];
    one = all.one;
    within = all.within;
    member = or_right (all.one == t) (D all.one) all.member;
  }

  others_fewer : (D : ℕ → Bool) (t : ℕ) → t < net.transitions → D t ≡ false → count net.transitions (others (with_one D t)) < count net.transitions (others D)
  others_fewer D t below outside =
      fewer net.transitions (others (with_one D t)) (others D) t
      (λ u _ out. elim (cases_Bool (D u)) [
        | inl member ↦ absurd (both_ways (with_one D t u) (not-true (with_one D t u) out) (or_right (u == t) (D u) member))
        | inr none ↦ not_from_false (D u) none
      ])
      below (elim (cases_Bool (others (with_one D t) t)) [
        | inl out ↦ absurd (both_ways (with_one D t t) (not-true (with_one D t t) out) (or_left (t == t) (D t) (eq-eqb t t refl)))
        | inr none ↦ none
      ]) (not_from_false (D t) outside)

  -- firing a transition that gives to a stuck place leaves fewer stuck places
  fewer_stuck : (M M' : ℕ → ℕ) (D : ℕ → Bool) (ts : List ℕ) (t p : ℕ) → AreLost net M D → Reach net M ts (after net M' t) → p < net.places → IsTrue (stuck net M D p) → 0 < net.post p t → count net.places (stuck net (after net M' t) D) < count net.places (stuck net M D)
  fewer_stuck M M' D ts t p all reached below here gives =
      fewer net.places (stuck net (after net M' t) D) (stuck net M D) p (stuck_before M (after net M' t) D ts all reached) below
      (elim (cases_Bool (stuck net (after net M' t) D p)) [
        | inl still ↦ let empty = stuck_empty (after net M' t) D p still in absurd (omega arith)
        | inr none ↦ none
      ]) here

  -- by the number of transitions that aren't known to be lost, and then by the number of stuck places
  inner : (n : ℕ) → ((M : ℕ → ℕ) (D : ℕ → Bool) → AreLost net M D → count net.transitions (others D) < n → ⊥) → (k : ℕ) (M : ℕ → ℕ) (D : ℕ → Bool) → AreLost net M D → count net.transitions (others D) < suc n → count net.places (stuck net M D) < k → ⊥
  inner n outer zero M D all few less = omega arith
  inner n outer (suc k) M D all few less =
      no_siphon M D all (
      λ t below gives. elim (cases_Bool (has_input_in net (stuck net M D) t)) [
        | inl takes ↦ takes
        | inr none ↦ absurd (
            elim (cases_Bool (D t)) [
              | inl member ↦
                  let input = lost_input net M t choice.ordinary below (all.lost t below member) in
                  both_ways (has_input_in net (stuck net M D) t) none
                  (pair_at net.places (stuck net M D) (λ p. net.pre p t) input.0 input.1.within (stuck_at M D input.0 t input.1.empty below member input.1.input) input.1.input)
              | inr outside ↦
                  let at = pair_from net.places (stuck net M D) (λ p. net.post p t) gives in
                  let lost : IsLost net M t = λ ts M' reached enabled.
                  let on = reach_then net ts M M' t reached below enabled in
                  let smaller = fewer_stuck M M' D (ts ++ t ∷ []) t at.0 all on at.1 at.2 at.3 in
                  inner n outer k (after net M' t) D (lost_after M (after net M' t) D (ts ++ t ∷ []) all on) few (omega arith) in
                  let fewer_left = others_fewer D t below outside in
                  outer M (with_one D t) (lost_with M D t all lost) (omega arith)
            ]
            )
      ]
      )

  by_count : (n : ℕ) (M : ℕ → ℕ) (D : ℕ → Bool) → AreLost net M D → count net.transitions (others D) < n → ⊥
  by_count zero M D all few = omega arith
  by_count (suc n) M D all few = inner n (by_count n) (suc (count net.places (stuck net M D))) M D all few (omega arith)

  none_lost : IsLive net
  none_lost M reachable t below lost =
      by_count (suc (count net.transitions (others (λ u. u == t)))) M (λ u. u == t) (record {
        reachable = reachable;
        lost = λ u _ same. rw (eqb-true u t same) lost;
        one = t;
        within = below;
        member = eq-eqb t t refl;
      }) (omega arith)

pub commoner_is_live : (net : Net) → CommonerGivesLiveness net
commoner_is_live net choice commoner = none_lost net choice commoner
