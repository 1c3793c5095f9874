-- After tokens that begin a document a reason applies exactly at a faulty offset: a token without one goes on to more of
-- a document, and one with a reason to none.
use Rattle.std.proofs.Common.{◌≡◌, ℕ, List, [], ◌∷◌, ◌++◌, Option, Some, None, refl, sym, ap, subst, ◌∙◌, arith, inl, inr, drop}
use Rattle.std.specs.List.{AllByRecursion}
use Rattle.pnml_grammar.specs.declared.reason.Reason.{Reason}
use Rattle.pnml_grammar.specs.declared.token.Token.{Token}
use Rattle.pnml_grammar.specs.Tokens.{TokenAt, TokensTo, first_offset}
use Rattle.pnml_grammar.specs.LegalTexts.{HasLegalTexts}
use Rattle.pnml_grammar.specs.OpenElements.{State}
use Rattle.pnml_grammar.specs.Reasons.{reason_without_token, reason_after}
use Rattle.pnml_grammar.specs.Machine.{start, next, reached}
use Rattle.pnml_grammar.specs.FirstFault.{Begins, IsFaulty, HasBadToken, Applies, HasReason, RowsTellFaults}
use Rattle.pnml_grammar.proofs.LegalLaws.{token_is_legal}
use Rattle.pnml_grammar.proofs.TokenLaws.{one_token_occurs, token_or_none}
use Rattle.pnml_grammar.proofs.OffsetLaws.{token_end_inside, token_goes_on, tokens_then, one_list}
use Rattle.pnml_grammar.proofs.StepLaws.{step_taken, step_refused, front_or_later, reason_later}
use Rattle.pnml_grammar.proofs.ReadToLaws.{reached_one_more}
use Rattle.pnml_grammar.proofs.DocumentLaws.{reached_spot, begins_reached, reached_begins}
use Rattle.pnml_grammar.proofs.SpotLaws.{one_state_after}

-- the texts of tokens that occur are legal
pub tokens_are_legal : (bytes : List ℕ) (list : List Token) (k e : ℕ) → TokensTo bytes k list e → AllByRecursion HasLegalTexts list
tokens_are_legal bytes [] k e to = tt
tokens_are_legal bytes (token ∷ list) k e to = (token_is_legal bytes k token to.0 to.1, tokens_are_legal bytes list to.0 e to.2)

-- ---- one token more

-- a token without a reason goes on to more of a document
goes_on : (list : List Token) (state : State) (token : Token) → reached list ≡ Some state → reason_after list state token ≡ None
    → (after : State) × (reached (list ++ token ∷ []) ≡ Some after)
unfolding reached
goes_on list state token leads none =
    elim (front_or_later list token) [
      | inl front ↦ (start, ap (λ (l : List Token). reached (l ++ token ∷ [])) front.0 ∙ ap (λ (t : Token). reached (t ∷ [])) front.1)
      | inr later ↦ (next state token, reached_one_more list token state later leads ∙ step_taken state token (sym (reason_later list state token later) ∙ none))
    ]

-- and one with a reason to none
goes_nowhere : (list : List Token) (state : State) (token : Token) (reason : Reason) → reached list ≡ Some state → reason_after list state token ≡ Some reason
    → reached (list ++ token ∷ []) ≡ None
goes_nowhere list state token reason leads some =
    elim (front_or_later list token) [
      | inl front ↦
          let one = ap (λ (l : List Token). reason_after l state token) front.0 ∙ ap (λ (t : Token). reason_after [] state t) front.1 in
          let both = sym one ∙ some in
          absurd cc
      | inr later ↦ reached_one_more list token state later leads ∙ step_refused state token reason (sym (reason_later list state token later) ∙ some)
    ]

nothing_reached : (list : List Token) → reached list ≡ None → Begins list → ⊥
nothing_reached list none begins =
    let some = begins_reached list begins in
    let both = sym none ∙ some.1 in
    absurd cc

-- the token is refused that follows the list
pub bad_token : (bytes : List ℕ) (k : ℕ) (list : List Token) (state : State) (token : Token) (e : ℕ) (reason : Reason) → TokensTo bytes (first_offset bytes) list k
    → reached list ≡ Some state → TokenAt bytes k token e → reason_after list state token ≡ Some reason → HasBadToken bytes k reason
bad_token bytes k list state token e reason reaches leads there applies =
    let spot = reached_spot list state leads in
    record {
      list = list;
      reaches = reaches;
      spot = spot.0;
      after = spot.1;
      token = token;
      end = e;
      occurs = there;
      applies = ap (λ (s : State). reason_after list s token) spot.2 ∙ applies;
    }

-- ---- at a faulty offset a reason applies

token_reason : (bytes : List ℕ) (k : ℕ) (faulty : IsFaulty bytes k) (token : Token) (e : ℕ) → TokenAt bytes k token e → (state : State) → reached faulty.list ≡ Some state
    → (reason : Option Reason) → reason_after faulty.list state token ≡ reason → HasReason bytes k
token_reason bytes k faulty token e there state leads None is =
    let on = goes_on faulty.list state token leads is in
    let legal = tokens_are_legal bytes (faulty.list ++ token ∷ []) (first_offset bytes) e (tokens_then bytes faulty.list (first_offset bytes) k token e faulty.reaches there) in
    absurd (faulty.nothing_next token e there (reached_begins (faulty.list ++ token ∷ []) on.0 legal on.1))
token_reason bytes k faulty token e there state leads (Some reason) is = record {
  list = faulty.list;
  reaches = faulty.reaches;
  begins = faulty.begins;
  reason = reason;
  because = inr (bad_token bytes k faulty.list state token e reason faulty.reaches leads there is);
}

faulty_reason : (bytes : List ℕ) (k : ℕ) → IsFaulty bytes k → HasReason bytes k
faulty_reason bytes k faulty =
    elim (token_or_none bytes k) [
      | inl found ↦
          let reads = begins_reached faulty.list faulty.begins in
          token_reason bytes k faulty found.0 found.1 found.2 reads.0 reads.1 (reason_after faulty.list reads.0 found.0) refl
      | inr none ↦ record {
        list = faulty.list;
        reaches = faulty.reaches;
        begins = faulty.begins;
        reason = reason_without_token (drop k bytes);
        because = inl record { inside = faulty.inside; nothing_there = none; reason_is = refl };
      }
    ]

-- ---- where a reason applies, the offset is faulty

bad_ends : (bytes : List ℕ) (k : ℕ) (list : List Token) (reason : Reason) → TokensTo bytes (first_offset bytes) list k → Begins list → (bad : HasBadToken bytes k reason)
    → Begins (list ++ bad.token ∷ []) → ⊥
bad_ends bytes k list reason reaches begins bad more =
    let same = one_list bytes bad.list list (first_offset bytes) k bad.reaches reaches in
    let reads = begins_reached list begins in
    let spot = reached_spot list reads.0 reads.1 in
    let states = one_state_after bad.spot spot.0 list (sym same ∙ bad.after) spot.1 ∙ spot.2 in
    let applies = ap (λ (l : List Token). reason_after l reads.0 bad.token) (sym same) ∙ ap (λ (s : State). reason_after bad.list s bad.token) (sym states) ∙ bad.applies in
    nothing_reached (list ++ bad.token ∷ []) (goes_nowhere list reads.0 bad.token reason reads.1 applies) more

pub reason_faulty : (bytes : List ℕ) (k : ℕ) (list : List Token) (reason : Reason) → TokensTo bytes (first_offset bytes) list k → Begins list → Applies bytes k reason → IsFaulty bytes k
reason_faulty bytes k list reason reaches begins (inl missing) = record {
  list = list;
  reaches = reaches;
  begins = begins;
  inside = missing.inside;
  nothing_next = λ token e at more. missing.nothing_there token e at;
}
reason_faulty bytes k list reason reaches begins (inr bad) = record {
  list = list;
  reaches = reaches;
  begins = begins;
  inside = omega (arith, token_goes_on bytes k bad.token bad.end bad.occurs, token_end_inside bytes k bad.token bad.end bad.occurs);
  nothing_next = λ token e at more.
      bad_ends bytes k list reason reaches begins bad
      (subst (λ (t : Token). Begins (list ++ t ∷ [])) (one_token_occurs bytes k token bad.token e bad.end at bad.occurs).0 more);
}

pub rows_tell_faults : RowsTellFaults
rows_tell_faults bytes k =
    (faulty_reason bytes k, λ has. reason_faulty bytes k has.list has.reason has.reaches has.begins has.because)
