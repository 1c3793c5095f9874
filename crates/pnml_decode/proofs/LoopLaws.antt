-- What was read goes on by a token that is taken. Where the reading stops the first fault is named: what was read makes the
-- offset at which it stops the first that is faulty.
use Rattle.std.proofs.Common.{◌≡◌, ℕ, ◌<◌, ◌≤◌, List, None, sym, subst, length}
use Rattle.std.specs.Prelude.{IsUtf8}
use Rattle.pnml_grammar.specs.declared.token.Token.{Token}
use Rattle.pnml_grammar.specs.declared.token.Token.TheVariants as tokens
use Rattle.pnml_grammar.specs.Tokens.{TokenAt, first_offset}
use Rattle.pnml_grammar.specs.FirstFault.{HasNoToken}
use Rattle.pnml_grammar.specs.OpenElements.{State}
use Rattle.pnml_grammar.specs.Machine.{start, reason_of, next}
use Rattle.pnml_grammar.specs.ReadTo.{IsReadTo}
use Rattle.pnml_grammar.proofs.OffsetLaws.{token_end_inside}
use Rattle.pnml_grammar.proofs.ReadToLaws.{nothing_is_read, token_is_read}
use Rattle.pnml_grammar.proofs.FaultLaws.{missing_token_is_faulty, refused_token_is_faulty}
use Rattle.pnml_decode.specs.declared.fault.DocFault.{DocFault}
use Rattle.pnml_decode.specs.declared.fault.DocFault.TheVariants as refusals
use Rattle.pnml_decode.specs.declared.reader_fault.ReaderFault.{ReaderFault}
use Rattle.pnml_decode.specs.declared.reader_fault.ReaderFault.TheVariants as faults
use Rattle.pnml_decode.specs.Taking.{reason_named}
use Rattle.pnml_decode.specs.Faults.{NamesFirstFault, IsMissing, refusal_at}

-- ---- where no token occurs

pub missing_is_first : (refusal : DocFault) (bytes : List ℕ) (k : ℕ) (state : State) → IsUtf8 bytes → IsReadTo bytes k state → IsMissing refusal bytes k → NamesFirstFault refusal bytes
missing_is_first refusals.NoMemory bytes k state text read missing = tt
missing_is_first (refusals.At offset reason) bytes k state text read missing = (
  text,
  missing_token_is_faulty bytes offset state reason (subst (λ (p : ℕ). IsReadTo bytes p state) (sym missing.0) read)
      (subst (λ (p : ℕ). p < length bytes) (sym missing.0) missing.1.inside) (subst (λ (p : ℕ). HasNoToken bytes p reason) (sym missing.0) missing.1),
)
missing_is_first _ bytes k state text read missing = absurd missing

-- at the first offset nothing was read before
nothing_before : (bytes : List ℕ) (k : ℕ) → k ≡ first_offset bytes → ((e : ℕ) → TokenAt bytes k tokens.Declaration e → ⊥) → IsReadTo bytes k start
nothing_before bytes k first none =
    subst (λ (p : ℕ). IsReadTo bytes p start) (sym first) (nothing_is_read bytes (λ e at. none e (subst (λ (p : ℕ). TokenAt bytes p tokens.Declaration e) (sym first) at)))

pub missing_in_front : (refusal : DocFault) (bytes : List ℕ) (k : ℕ) → IsUtf8 bytes → k ≡ first_offset bytes → IsMissing refusal bytes k → NamesFirstFault refusal bytes
missing_in_front refusals.NoMemory bytes k text first missing = tt
missing_in_front (refusals.At offset reason) bytes k text first missing =
    missing_is_first (refusals.At offset reason) bytes k start text (nothing_before bytes k first (λ e at. missing.1.nothing_there tokens.Declaration e at)) missing
missing_in_front _ bytes k text first missing = absurd missing

-- ---- where one occurs

-- a token that is taken goes on with what was read
pub token_goes_on_read : (bytes : List ℕ) (k : ℕ) (state after : State) (token : Token) (e : ℕ) → IsReadTo bytes k state → TokenAt bytes k token e
    → (reason_of state token ≡ None) × (after ≡ next state token) → IsReadTo bytes e after × (e ≤ length bytes)
token_goes_on_read bytes k state after token e read at taken =
    (subst (λ (s : State). IsReadTo bytes e s) (sym taken.1) (token_is_read bytes k state token e read at taken.0), token_end_inside bytes k token e at)

-- one that isn't makes its offset the first that is faulty
pub refusal_is_first : (fault : ReaderFault) (bytes : List ℕ) (k : ℕ) (state : State) (token : Token) (e : ℕ) → IsUtf8 bytes → IsReadTo bytes k state → TokenAt bytes k token e
    → reason_named fault ≡ reason_of state token → NamesFirstFault (refusal_at k fault) bytes
refusal_is_first faults.NoMemory bytes k state token e text read at named = tt
refusal_is_first (faults.Because reason) bytes k state token e text read at named = (text, refused_token_is_faulty bytes k state token e reason read at (sym named))
