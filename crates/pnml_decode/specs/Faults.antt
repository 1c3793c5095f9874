-- What a refusal says of the bytes.
use Rattle.std.specs.Prelude.{◌≡◌, ℕ, List, Option, Some, None, IfSome}
use Rattle.pnml_grammar.specs.FirstFault.{Fault, not_utf8, at, truncated, FirstFault, HasNoToken}
use Rattle.pnml_decode.specs.declared.reader_fault.ReaderFault.{ReaderFault}
use Rattle.pnml_decode.specs.declared.reader_fault.ReaderFault.TheVariants as faults
use Rattle.pnml_decode.specs.declared.fault.DocFault.{DocFault}
use Rattle.pnml_decode.specs.declared.fault.DocFault.TheVariants as refusals

-- the fault that is named; out of memory names none
abbrev pub fault_of : DocFault → Option Fault
fault_of refusals.NoMemory = None
fault_of (refusals.NotUtf8 k) = Some (not_utf8 k)
fault_of (refusals.At k reason) = Some (at k reason)
fault_of (refusals.Truncated k) = Some (truncated k)

-- the fault that is named is that of the bytes
abbrev pub NamesFirstFault : DocFault → List ℕ → Type 0
NamesFirstFault refusal bytes = IfSome (fault_of refusal) (λ fault. FirstFault bytes fault)

-- where the answer is out of memory
abbrev pub IfNoMemory : DocFault → Type 0 → Type 0
IfNoMemory refusals.NoMemory P = P
IfNoMemory _ P = Unit

-- bytes occur at the offset and no token does, and this is said
abbrev pub IsMissing : DocFault → List ℕ → ℕ → Type 0
IsMissing refusals.NoMemory bytes k = Unit
IsMissing (refusals.At offset reason) bytes k = (offset ≡ k) × HasNoToken bytes k reason
IsMissing _ bytes k = ⊥

-- what is answered where the reader doesn't take the token at the offset
abbrev pub refusal_at : ℕ → ReaderFault → DocFault
refusal_at k faults.NoMemory = refusals.NoMemory
refusal_at k (faults.Because reason) = refusals.At k reason
