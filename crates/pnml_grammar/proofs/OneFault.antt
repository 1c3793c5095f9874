-- Bytes have at most one fault: one faulty offset lies before no other, and what is there tells the reason.
-- They have none where they spell a document: they are text then, and each front of its tokens begins it.
use Rattle.std.proofs.Common.{◌≡◌, ℕ, ◌+◌, ◌<◌, ◌≤◌, Bool, true, false, cond, List, [], ◌∷◌, ◌++◌, refl, sym, ap, subst, ◌∙◌, arith, inl, inr, length, drop, drop-drop, append_assoc}
use Rattle.std.specs.Prelude.{IsUtf8, nat_eq}
use Rattle.std.specs.List.{starts_with}
use Rattle.std.proofs.lemmas.Str.{IsUtf8-append, IsUtf8-nil}
use Rattle.std.proofs.Math.Seq.{drop-append_seam, drop-length}
use Rattle.net_values.specs.declared.document.Document.{Document}
use Rattle.pnml_grammar.specs.declared.reason.Reason.{Reason}
use Rattle.pnml_grammar.specs.declared.token.Token.{Token}
use Rattle.pnml_grammar.specs.Tokens.{TokensTo, first_offset}
use Rattle.pnml_grammar.specs.Documents.{Spells, DocBytes}
use Rattle.pnml_grammar.specs.OpenElements.{State, state_of}
use Rattle.pnml_grammar.specs.Reasons.{reason_after}
use Rattle.pnml_grammar.specs.FirstFault.{IsFaulty, HasBadToken, Applies, IsFirstFaulty, IsUtf8UpTo, Fault, not_utf8, at, truncated, FirstFault, HaveOneAnswer}
use Rattle.pnml_grammar.proofs.RunLaws.{some_is, past_text_found}
use Rattle.pnml_grammar.proofs.TextLaws.{legal_utf8}
use Rattle.pnml_grammar.proofs.OffsetLaws.{tokens_ascend, one_goes_on, one_list}
use Rattle.pnml_grammar.proofs.TokenLaws.{one_token_occurs}
use Rattle.pnml_grammar.proofs.SpotLaws.{one_state_after}

-- ---- one reason at an offset

bad_reason : (bytes : List ℕ) (k : ℕ) (reason other : Reason) → HasBadToken bytes k reason → HasBadToken bytes k other → reason ≡ other
bad_reason bytes k reason other one two =
    let lists = one_list bytes one.list two.list (first_offset bytes) k one.reaches two.reaches in
    let states = one_state_after one.spot two.spot one.list one.after (lists ∙ two.after) in
    let tokens = (one_token_occurs bytes k one.token two.token one.end two.end one.occurs two.occurs).0 in
    some_is reason other
    (sym one.applies ∙ ap (λ (list : List Token). reason_after list (state_of one.spot) one.token) lists
    ∙ ap (λ (s : State). reason_after two.list s one.token) states ∙ ap (reason_after two.list (state_of two.spot)) tokens ∙ two.applies)

one_reason : (bytes : List ℕ) (k : ℕ) (reason other : Reason) → Applies bytes k reason → Applies bytes k other → reason ≡ other
one_reason bytes k reason other (inl one) (inl two) = one.reason_is ∙ sym two.reason_is
one_reason bytes k reason other (inl one) (inr two) = absurd (one.nothing_there two.token two.end two.occurs)
one_reason bytes k reason other (inr one) (inl two) = absurd (two.nothing_there one.token one.end one.occurs)
one_reason bytes k reason other (inr one) (inr two) = bad_reason bytes k reason other one two

-- ---- one fault

one_place : (bytes : List ℕ) (k j : ℕ) (reason other : Reason) → IsFirstFaulty bytes k reason → IsFirstFaulty bytes j other → k ≡ j
one_place bytes k j reason other one two = omega (arith, one.lowest j two.faulty, two.lowest k one.faulty)

same_at : (bytes : List ℕ) (k j : ℕ) (reason other : Reason) → IsFirstFaulty bytes k reason → IsFirstFaulty bytes j other → at k reason ≡ at j other
same_at bytes k j reason other one two =
    let places = one_place bytes k j reason other one two in
    let there = subst (λ (p : ℕ). Applies bytes p other) (sym places) two.because in
    ap (λ (p : ℕ). at p reason) places ∙ ap (at j) (one_reason bytes k reason other one.because there)

one_front : (bytes : List ℕ) (k j : ℕ) → IsUtf8UpTo bytes k → IsUtf8UpTo bytes j → k ≤ j
one_front bytes k j one two = omega (arith, λ (less : j < k). two.longest k less one.inside one.front)

one_fault : (bytes : List ℕ) (fault other : Fault) → FirstFault bytes fault → FirstFault bytes other → fault ≡ other
one_fault bytes (not_utf8 k) (not_utf8 j) one two = ap not_utf8 (omega (arith, one_front bytes k j one.1 two.1, one_front bytes j k two.1 one.1))
one_fault bytes (not_utf8 k) (at j other) one two = absurd (one.0 two.0)
one_fault bytes (not_utf8 k) (truncated j) one two = absurd (one.0 two.0)
one_fault bytes (at k reason) (not_utf8 j) one two = absurd (two.0 one.0)
one_fault bytes (at k reason) (at j other) one two = same_at bytes k j reason other one.1 two.1
one_fault bytes (at k reason) (truncated j) one two = absurd (two.1 k one.1.faulty)
one_fault bytes (truncated k) (not_utf8 j) one two = absurd (two.0 one.0)
one_fault bytes (truncated k) (at j other) one two = absurd (one.1 j two.1.faulty)
one_fault bytes (truncated k) (truncated j) one two = ap truncated (one.3 ∙ sym two.3)

-- ---- none where a document is spelled

no_fault : (bytes : List ℕ) (document : Document) → DocBytes document bytes → (k : ℕ) → IsFaulty bytes k → ⊥
no_fault bytes document is k faulty =
    elim (one_goes_on bytes is.list faulty.list (first_offset bytes) (length bytes) k is.tokens_are faulty.reaches) [
      | inl on ↦ absurd (omega (arith, tokens_ascend bytes on.more (length bytes) k on.reaches, faulty.inside))
      | inr longer ↦
          let whole : is.list ≡ (faulty.list ++ longer.token ∷ []) ++ longer.more = longer.parts ∙ sym (append_assoc faulty.list (longer.token ∷ []) longer.more) in
          faulty.nothing_next longer.token longer.end longer.occurs
          (record { rest = longer.more; document = document; spells = subst (λ (list : List Token). Spells document list) whole is.spells })
    ]

after_token : (bytes : List ℕ) (k n : ℕ) (spelling rest : List ℕ) → drop k bytes ≡ spelling ++ rest → n ≡ k + length spelling → drop n bytes ≡ rest
after_token bytes k n spelling rest parts end =
    ap (λ (m : ℕ). drop m bytes) end ∙ sym (drop-drop (length spelling) k bytes) ∙ ap (drop (length spelling)) parts ∙ drop-append_seam spelling rest

-- tokens to the end are text
text_of_tokens : (bytes : List ℕ) (list : List Token) (k : ℕ) → TokensTo bytes k list (length bytes) → IsUtf8 (drop k bytes)
text_of_tokens bytes [] k to = subst IsUtf8 (sym (ap (λ (m : ℕ). drop m bytes) to ∙ drop-length bytes)) IsUtf8-nil
text_of_tokens bytes (token ∷ list) k to =
    let occurs = to.1.occurs in
    let rest = subst IsUtf8 (after_token bytes k to.0 to.1.spelling to.1.rest occurs.parts to.1.end_is) (text_of_tokens bytes list to.0 to.2) in
    subst IsUtf8 (sym occurs.parts) (IsUtf8-append to.1.spelling to.1.rest (legal_utf8 to.1.spelling occurs.legal) rest)

mark : List ℕ
mark = 0xEF ∷ 0xBB ∷ 0xBF ∷ []

mark_is_text : IsUtf8 mark
unfolding mark lib.Utf8.encode
mark_is_text = (0xFEFF ∷ [], (refl, refl))

text_after_mark : (bytes : List ℕ) → IsUtf8 (drop (first_offset bytes) bytes) → IsUtf8 bytes
unfolding mark
text_after_mark bytes text = cases (starts_with nat_eq bytes mark) refl
  where
    cases : (marked : Bool) → starts_with nat_eq bytes mark ≡ marked → IsUtf8 bytes
    cases true e =
        let rest : IsUtf8 (drop 3 bytes) = subst (λ (b : Bool). IsUtf8 (drop (cond b 3 0) bytes)) e text in
        subst IsUtf8 (sym (past_text_found mark bytes (drop 3 bytes) (rw e refl))) (IsUtf8-append mark (drop 3 bytes) mark_is_text rest)
    cases false e = subst (λ (b : Bool). IsUtf8 (drop (cond b 3 0) bytes)) e text

no_document : (bytes : List ℕ) (fault : Fault) → FirstFault bytes fault → (document : Document) → DocBytes document bytes → ⊥
no_document bytes (not_utf8 k) first document is = first.0 (text_after_mark bytes (text_of_tokens bytes is.list (first_offset bytes) is.tokens_are))
no_document bytes (at k reason) first document is = no_fault bytes document is k first.1.faulty
no_document bytes (truncated k) first document is = first.2 document is

pub one_answer : HaveOneAnswer
one_answer bytes fault first = (λ other also. one_fault bytes fault other first also, no_document bytes fault first)
