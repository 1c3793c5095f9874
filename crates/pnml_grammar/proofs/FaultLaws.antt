-- Reading token by token tells the document, or the first offset that is faulty and why: a faulty offset isn't
-- before what was read, since the tokens up to it would go on by one of those that were. So what is read to
-- the end has no faulty offset, and one that stops a reading is the first.
use Rattle.std.proofs.Common.{◌≡◌, ℕ, ◌<◌, ◌≤◌, List, [], ◌∷◌, ◌++◌, Option, Some, None, refl, sym, ap, subst, ◌∙◌, arith, inl, inr, length, append_assoc}
use Rattle.std.specs.Prelude.{IsUtf8}
use Rattle.std.specs.List.{AllByRecursion}
use Rattle.std.specs.Str.{IsValidUpTo}
use Rattle.net_values.specs.declared.document.Document.{Document}
use Rattle.pnml_grammar.specs.declared.reason.Reason.{Reason}
use Rattle.pnml_grammar.specs.declared.token.Token.{Token}
use Rattle.pnml_grammar.specs.Tokens.{TokenAt, first_offset}
use Rattle.pnml_grammar.specs.LegalTexts.{HasLegalTexts}
use Rattle.pnml_grammar.specs.Runs.{◌>>=◌}
use Rattle.pnml_grammar.specs.Documents.{DocBytes}
use Rattle.pnml_grammar.specs.OpenElements.{State}
use Rattle.pnml_grammar.specs.Machine.{reason_of, finish, reached, read}
use Rattle.pnml_grammar.specs.FirstFault.{Begins, IsFaulty, HasNoToken, Applies, IsFirstFaulty, FirstFault, not_utf8, truncated}
use Rattle.pnml_grammar.specs.ReadTo.{IsReadTo}
use Rattle.pnml_grammar.proofs.EachLaws.{each_front}
use Rattle.pnml_grammar.proofs.OffsetLaws.{tokens_ascend, one_goes_on, one_list}
use Rattle.pnml_grammar.proofs.StepLaws.{reason_later}
use Rattle.pnml_grammar.proofs.ReadToLaws.{not_in_front}
use Rattle.pnml_grammar.proofs.ReasonLaws.{tokens_are_legal, bad_token, reason_faulty}
use Rattle.pnml_grammar.proofs.DocumentLaws.{spells_read, reached_front, read_spells, reached_begins}

-- ---- what was read begins a document

read_is_legal : (bytes : List ℕ) (k : ℕ) (state : State) (read : IsReadTo bytes k state) → AllByRecursion HasLegalTexts read.list
read_is_legal bytes k state read = tokens_are_legal bytes read.list (first_offset bytes) k read.reaches

read_begins : (bytes : List ℕ) (k : ℕ) (state : State) (read : IsReadTo bytes k state) → Begins read.list
read_begins bytes k state read = reached_begins read.list state (read_is_legal bytes k state read) read.leads

-- so does a front of it
front_begins : (list more : List Token) (state : State) → AllByRecursion HasLegalTexts (list ++ more) → reached (list ++ more) ≡ Some state → Begins list
front_begins list more state legal leads =
    let front = reached_front list more state leads in
    reached_begins list front.0 (each_front HasLegalTexts list more legal) front.1

one_more_begins : (list other more : List Token) (token : Token) (state : State) → list ≡ other ++ token ∷ more → AllByRecursion HasLegalTexts list → reached list ≡ Some state
    → Begins (other ++ token ∷ [])
one_more_begins list other more token state parts legal leads =
    let whole : list ≡ (other ++ token ∷ []) ++ more = parts ∙ sym (append_assoc other (token ∷ []) more) in
    front_begins (other ++ token ∷ []) more state (subst (AllByRecursion HasLegalTexts) whole legal) (ap reached (sym whole) ∙ leads)

-- ---- no offset before what was read is faulty

faulty_after : (bytes : List ℕ) (k : ℕ) (state : State) → IsReadTo bytes k state → (j : ℕ) → IsFaulty bytes j → k ≤ j
faulty_after bytes k state read j faulty =
    elim (one_goes_on bytes read.list faulty.list (first_offset bytes) k j read.reaches faulty.reaches) [
      | inl on ↦ tokens_ascend bytes on.more k j on.reaches
      | inr longer ↦
          absurd (faulty.nothing_next longer.token longer.end longer.occurs
          (one_more_begins read.list faulty.list longer.more longer.token state longer.parts (read_is_legal bytes k state read) read.leads))
    ]

first_faulty : (bytes : List ℕ) (k : ℕ) (state : State) (reason : Reason) → IsReadTo bytes k state → Applies bytes k reason → IsFirstFaulty bytes k reason
first_faulty bytes k state reason read because = record {
  faulty = reason_faulty bytes k read.list reason read.reaches (read_begins bytes k state read) because;
  lowest = faulty_after bytes k state read;
  because = because;
}

-- where no token occurs, the reading stops at the first faulty offset
pub missing_token_is_faulty : (bytes : List ℕ) (k : ℕ) (state : State) (reason : Reason) → IsReadTo bytes k state → k < length bytes → HasNoToken bytes k reason → IsFirstFaulty bytes k reason
missing_token_is_faulty bytes k state reason read inside missing = first_faulty bytes k state reason read (inl missing)

-- where a reason applies to the token that is there, too
pub refused_token_is_faulty : (bytes : List ℕ) (k : ℕ) (state : State) (token : Token) (e : ℕ) (reason : Reason) → IsReadTo bytes k state → TokenAt bytes k token e
    → reason_of state token ≡ Some reason → IsFirstFaulty bytes k reason
refused_token_is_faulty bytes k state token e reason read at some =
    let applies = reason_later read.list state token (not_in_front bytes k state token e read at) ∙ some in
    first_faulty bytes k state reason read (inr (bad_token bytes k read.list state token e reason read.reaches read.leads at applies))

-- ---- what was read to the end

read_whole : (bytes : List ℕ) (k : ℕ) (state : State) (read_to : IsReadTo bytes k state) → read read_to.list ≡ finish state
unfolding read
read_whole bytes k state read_to = ap (λ (o : Option State). o >>= finish) read_to.leads

-- spells the document that it comes to
pub whole_is_spelled : (bytes : List ℕ) (state : State) (document : Document) → IsReadTo bytes (length bytes) state → finish state ≡ Some document → DocBytes document bytes
whole_is_spelled bytes state document read_to is = record {
  list = read_to.list;
  tokens_are = read_to.reaches;
  spells = read_spells document read_to.list (read_is_legal bytes (length bytes) state read_to) (read_whole bytes (length bytes) state read_to ∙ is);
}

no_document : (bytes : List ℕ) (state : State) → IsReadTo bytes (length bytes) state → finish state ≡ None → (document : Document) → DocBytes document bytes → ⊥
no_document bytes state read_to none document is =
    let same = one_list bytes is.list read_to.list (first_offset bytes) (length bytes) is.tokens_are read_to.reaches in
    let spelled = spells_read document is.list is.spells in
    let both = sym (ap read same ∙ read_whole bytes (length bytes) state read_to ∙ none) ∙ spelled in
    absurd cc

-- or is cut
pub whole_is_truncated : (bytes : List ℕ) (state : State) → IsUtf8 bytes → IsReadTo bytes (length bytes) state → finish state ≡ None → FirstFault bytes (truncated (length bytes))
whole_is_truncated bytes state text read_to none =
    (text, λ j faulty. absurd (omega (arith, faulty_after bytes (length bytes) state read_to j faulty, faulty.inside)), no_document bytes state read_to none, refl)

-- ---- text

-- bytes that aren't UTF-8 stop to be so where their longest front that is ends
pub text_stops : (bytes : List ℕ) (k : ℕ) → (IsUtf8 bytes → ⊥) → IsValidUpTo bytes k → FirstFault bytes (not_utf8 k)
text_stops bytes k none valid = (
  none,
  record {
    inside = omega (arith, valid.short);
    front = valid.front;
    longest = λ j beyond inside text. valid.longest j beyond text;
  },
)
