-- A table that has the lowest of the transitions from one on for each id has it from the one before on too, once that
-- one was put in last: it is the lowest with its own id, and changes no other.
use Rattle.std.proofs.Common.{◌≡◌, sym, ap, ◌∙◌, subst, ℕ, ◌+◌, ◌<◌, ◌≤◌, true≢false, cond, List, Option, Some, None, inl, inr, arith}
use Rattle.std.specs.Prelude.{bytes_eq}
use Rattle.std.proofs.lemmas.Bool.{cases_eq, cases_Bool}
use Rattle.std.proofs.lemmas.Slice.Eq.{bytes_eq-Decides}
use Rattle.net_replay.specs.Numbers.{IsFoundFrom}

module _ (count : ℕ) (ids : ℕ → List ℕ) where
  pub none_from_the_end : (id : List ℕ) → IsFoundFrom count ids count id None
  none_from_the_end id t from within = absurd (omega (arith, from, within))

  same_id : (first : ℕ) (id : List ℕ) → first < count → ids first ≡ id → IsFoundFrom count ids first id (Some first)
  same_id first id within named = record { from = omega arith; within = within; named = named; lowest = λ u from below. absurd (omega (arith, from, below)) }

  other_id : (first : ℕ) (id : List ℕ) (found : Option ℕ) → (ids first ≡ id → ⊥) → IsFoundFrom count ids (first + 1) id found → IsFoundFrom count ids first id found
  other_id first id (Some t) other is = let from : first + 1 ≤ t = is.from in record {
    from = omega arith;
    within = is.within;
    named = is.named;
    lowest = λ u low below. elim (cases_eq u first) [
      | inl here ↦ λ named. other (ap ids (sym here) ∙ named)
      | inr there ↦ is.lowest u (omega (arith, low, there)) below
    ];
  }
  other_id first id None other none = λ t low within. elim (cases_eq t first) [
    | inl here ↦ λ named. other (ap ids (sym here) ∙ named)
    | inr there ↦ none t (omega (arith, low, there)) within
  ]

  -- the table after the transition was put in
  pub one_before : (first : ℕ) (key id : List ℕ) (was now : Option ℕ) → first < count → key ≡ ids first → now ≡ cond (bytes_eq key id) (Some first) was → IsFoundFrom count ids (first + 1) id was → IsFoundFrom count ids first id now
  one_before first key id was now within key_is now_is is =
      elim (cases_Bool (bytes_eq key id)) [
        | inl same ↦ subst (IsFoundFrom count ids first id) (sym (now_is ∙ ap (λ b. cond b (Some first) was) same)) (same_id first id within (sym key_is ∙ (bytes_eq-Decides key id).0 same))
        | inr differs ↦ subst (IsFoundFrom count ids first id) (sym (now_is ∙ ap (λ b. cond b (Some first) was) differs))
            (other_id first id was (λ named. true≢false (sym ((bytes_eq-Decides key id).1 (key_is ∙ named)) ∙ differs)) is)
      ]
