-- Bytes spell a document or have a fault: the tokens are taken one after the other until none is there or a reason
-- applies to the next.
use Rattle.std.proofs.Common.{◌≡◌, ℕ, zero, suc, ◌+◌, ◌<◌, ◌≤◌, List, [], ◌∷◌, Option, Some, None, refl, sym, ap, subst, ◌∙◌, arith, inl, inr, length, take, drop}
use Rattle.std.specs.Prelude.{◌⊎◌, ◌==◌, nat_eq, IsUtf8}
use Rattle.std.specs.List.{starts_with}
use Rattle.std.specs.Str.{is_utf8}
use Rattle.std.proofs.lemmas.Bool.{cases_Bool, cases_lt, eqb-true, eqb-false, true≢false}
use Rattle.std.proofs.lemmas.Str.{IsUtf8-from_is_utf8, is_utf8-from_IsUtf8, IsUtf8-nil}
use Rattle.net_values.specs.declared.document.Document.{Document}
use Rattle.pnml_grammar.specs.declared.reason.Reason.{Reason}
use Rattle.pnml_grammar.specs.declared.token.Token.{Token}
use Rattle.pnml_grammar.specs.declared.token.Token.TheVariants as tokens
use Rattle.pnml_grammar.specs.Tokens.{TokenAt, first_offset}
use Rattle.pnml_grammar.specs.Documents.{DocBytes}
use Rattle.pnml_grammar.specs.OpenElements.{State}
use Rattle.pnml_grammar.specs.Reasons.{reason_without_token}
use Rattle.pnml_grammar.specs.Machine.{start, reason_of, next, finish}
use Rattle.pnml_grammar.specs.FirstFault.{IsUtf8UpTo, Fault, not_utf8, at, truncated, FirstFault, HaveSomeAnswer}
use Rattle.pnml_grammar.specs.ReadTo.{IsReadTo}
use Rattle.pnml_grammar.proofs.RunLaws.{past_text_found}
use Rattle.pnml_grammar.proofs.TokenLaws.{one_token_occurs, token_or_none}
use Rattle.pnml_grammar.proofs.OffsetLaws.{token_end_inside, token_goes_on}
use Rattle.pnml_grammar.proofs.StepLaws.{front_or_later}
use Rattle.pnml_grammar.proofs.ReadToLaws.{nothing_is_read, declaration_is_read, token_is_read}
use Rattle.pnml_grammar.proofs.FaultLaws.{missing_token_is_faulty, refused_token_is_faulty, whole_is_spelled, whole_is_truncated}

-- ---- a document, or a fault

Answered : List ℕ → Type 0
Answered bytes = ((document : Document) × DocBytes document bytes) ⊎ ((fault : Fault) × FirstFault bytes fault)

finished : (bytes : List ℕ) (state : State) (end : Option Document) → IsUtf8 bytes → IsReadTo bytes (length bytes) state → finish state ≡ end → Answered bytes
unfolding Answered
finished bytes state None text read e = inr (truncated (length bytes), whole_is_truncated bytes state text read e)
finished bytes state (Some document) text read e = inl (document, whole_is_spelled bytes state document read e)

missing_answered : (bytes : List ℕ) (k : ℕ) (state : State) → IsUtf8 bytes → k < length bytes → IsReadTo bytes k state → ((token : Token) (e : ℕ) → TokenAt bytes k token e → ⊥)
    → Answered bytes
unfolding Answered
missing_answered bytes k state text inside read none =
    let reason = reason_without_token (drop k bytes) in
    inr (at k reason, (text, missing_token_is_faulty bytes k state reason read inside (record { inside = inside; nothing_there = none; reason_is = refl })))

-- a token to which a reason applies, or one that is read
token_answered : (bytes : List ℕ) (k : ℕ) (state : State) (token : Token) (e : ℕ) (reason : Option Reason) → IsUtf8 bytes → IsReadTo bytes k state → TokenAt bytes k token e
    → reason_of state token ≡ reason → (IsReadTo bytes e (next state token) → Answered bytes) → Answered bytes
unfolding Answered
token_answered bytes k state token e None text read occurs none more = more (token_is_read bytes k state token e read occurs none)
token_answered bytes k state token e (Some reason) text read occurs some more =
    inr (at k reason, (text, refused_token_is_faulty bytes k state token e reason read occurs some))

-- what was read to an offset, with so many bytes after it at most
from_there : (n : ℕ) (bytes : List ℕ) (k : ℕ) (state : State) → IsUtf8 bytes → k ≤ length bytes → length bytes ≤ k + n → IsReadTo bytes k state → Answered bytes
from_there zero bytes k state text inside near read =
    finished bytes state (finish state) text (subst (λ (p : ℕ). IsReadTo bytes p state) (omega (arith, inside, near)) read) refl
from_there (suc n) bytes k state text inside near read =
    elim (cases_lt k (length bytes)) [
      | inl less ↦ elim (token_or_none bytes k) [
        | inl found ↦
            token_answered bytes k state found.0 found.1 (reason_of state found.0) text read found.2 refl
            (λ on. from_there n bytes found.1 (next state found.0) text (token_end_inside bytes k found.0 found.1 found.2)
            (omega (arith, near, token_goes_on bytes k found.0 found.1 found.2)) on)
        | inr none ↦ missing_answered bytes k state text less read none
      ]
      | inr end ↦ finished bytes state (finish state) text (subst (λ (p : ℕ). IsReadTo bytes p state) (omega (arith, inside, end)) read) refl
    ]

-- the first token is a declaration, or what is in front of it is nothing
first_inside : (bytes : List ℕ) → first_offset bytes ≤ length bytes
first_inside bytes =
    elim (cases_Bool (starts_with nat_eq bytes (0xEF ∷ 0xBB ∷ 0xBF ∷ []))) [
      | inl marked ↦
          let parts = past_text_found (0xEF ∷ 0xBB ∷ 0xBF ∷ []) bytes (drop 3 bytes) (rw marked refl) in
          rw marked (omega (arith, ap length parts))
      | inr plain ↦ rw plain (omega arith)
    ]

from_start : (bytes : List ℕ) → IsUtf8 bytes → IsReadTo bytes (first_offset bytes) start → Answered bytes
from_start bytes text read = from_there (length bytes) bytes (first_offset bytes) start text (first_inside bytes) (omega arith) read

text_answered : (bytes : List ℕ) → IsUtf8 bytes → Answered bytes
text_answered bytes text =
    elim (token_or_none bytes (first_offset bytes)) [
      | inl found ↦ elim (front_or_later [] found.0) [
        | inl front ↦
            let at = subst (λ (t : Token). TokenAt bytes (first_offset bytes) t found.1) front.1 found.2 in
            from_there (length bytes) bytes found.1 start text (token_end_inside bytes (first_offset bytes) found.0 found.1 found.2) (omega arith)
            (declaration_is_read bytes found.1 at)
        | inr later ↦ from_start bytes text (nothing_is_read bytes (λ e at. later refl (one_token_occurs bytes (first_offset bytes) found.0 tokens.Declaration found.1 e found.2 at).0))
      ]
      | inr none ↦ from_start bytes text (nothing_is_read bytes (λ e at. none tokens.Declaration e at))
    ]

-- the longest front that is text, where no longer one than n is
longest_text : (n : ℕ) (bytes : List ℕ) → n ≤ length bytes → ((m : ℕ) → n < m → m ≤ length bytes → IsUtf8 (take m bytes) → ⊥) → (k : ℕ) × IsUtf8UpTo bytes k
longest_text zero bytes inside beyond = (0, record { inside = inside; front = IsUtf8-nil; longest = beyond })
longest_text (suc n) bytes inside beyond =
    elim (cases_Bool (is_utf8 (take (suc n) bytes))) [
      | inl text ↦ (suc n, record { inside = inside; front = IsUtf8-from_is_utf8 (take (suc n) bytes) text; longest = beyond })
      | inr other ↦ longest_text n bytes (omega (arith, inside)) (λ m more within text. elim (cases_Bool (m == suc n)) [
        | inl same ↦
            let is = is_utf8-from_IsUtf8 (take (suc n) bytes) (subst (λ (p : ℕ). IsUtf8 (take p bytes)) (eqb-true m (suc n) same) text) in
            absurd (true≢false (sym is ∙ other))
        | inr apart ↦ beyond m (omega (arith, more, eqb-false m (suc n) apart)) within text
      ])
    ]

not_text : (bytes : List ℕ) → (IsUtf8 bytes → ⊥) → Answered bytes
unfolding Answered
not_text bytes none =
    let up_to = longest_text (length bytes) bytes (omega arith) (λ m more within text. absurd (omega (arith, more, within))) in
    inr (not_utf8 up_to.0, (none, up_to.1))

pub some_answer : HaveSomeAnswer
unfolding Answered
some_answer bytes =
    elim (cases_Bool (is_utf8 bytes)) [
      | inl text ↦ text_answered bytes (IsUtf8-from_is_utf8 bytes text)
      | inr other ↦ not_text bytes (λ text. true≢false (sym (is_utf8-from_IsUtf8 bytes text) ∙ other))
    ]
