-- A run that ends with a refusal tells it by its line, whole or in part; no refusal has the status 0.
use Rattle.std.proofs.Common.{◌≡◌, ℕ, List, sym, subst, arith, inl, inr}
use Rattle.std.specs.Prelude.{Result, Ok, Err}
use Rattle.page_flatten.specs.declared.fault.FlatFault.TheVariants as rules
use Rattle.pnml_decode.specs.declared.fault.DocFault.TheVariants as documents
use Rattle.pnml_source.specs.Writing.{IsWritten}
use Rattle.report.specs.declared.refusal.Refusal.{Refusal}
use Rattle.report.specs.declared.refusal.Refusal.TheVariants.{Usage, Document, Rule, Excess as Exceeds, Malformed, Rejected, MalformedPending, RejectedPending, MalformedFiring, RejectedFiring, TooLong, ReadFault, WriteFault, NoMemory}
use Rattle.report.specs.declared.refusal.Excess.TheVariants.{WideSum, WideRow, WideBound, WideCheck, WideMarking, RowBudget, SetLimit}
use Rattle.report.specs.Refusals.{status_of, line_of}
use Rattle.struct_core.specs.Run.{Device, Ran, Says, HasRun}

fails : (refusal : Refusal) → status_of refusal ≡ 0 → ⊥
fails Usage is = absurd (omega (arith, is))
fails (Document documents.NoMemory) is = absurd (omega (arith, is))
fails (Document (documents.NotUtf8 offset)) is = absurd (omega (arith, is))
fails (Document (documents.At offset reason)) is = absurd (omega (arith, is))
fails (Document (documents.Truncated length)) is = absurd (omega (arith, is))
fails (Rule k rules.NoMemory) is = absurd (omega (arith, is))
fails (Rule k (rules.DuplicateId id)) is = absurd (omega (arith, is))
fails (Rule k (rules.UnknownId id by)) is = absurd (omega (arith, is))
fails (Rule k (rules.RefKind id)) is = absurd (omega (arith, is))
fails (Rule k (rules.RefCycle id)) is = absurd (omega (arith, is))
fails (Rule k (rules.ArcEnds id)) is = absurd (omega (arith, is))
fails (Rule k (rules.NoNet count)) is = absurd (omega (arith, is))
fails (Exceeds (WideSum id)) is = absurd (omega (arith, is))
fails (Exceeds (WideRow id)) is = absurd (omega (arith, is))
fails (Exceeds (WideBound row)) is = absurd (omega (arith, is))
fails (Exceeds (WideCheck row id)) is = absurd (omega (arith, is))
fails (Exceeds (WideMarking member id)) is = absurd (omega (arith, is))
fails (Exceeds (RowBudget budget id count)) is = absurd (omega (arith, is))
fails (Exceeds (SetLimit limit)) is = absurd (omega (arith, is))
fails (Malformed number) is = absurd (omega (arith, is))
fails (Rejected number) is = absurd (omega (arith, is))
fails (MalformedPending number) is = absurd (omega (arith, is))
fails (RejectedPending number) is = absurd (omega (arith, is))
fails (MalformedFiring number) is = absurd (omega (arith, is))
fails (RejectedFiring member id) is = absurd (omega (arith, is))
fails TooLong is = absurd (omega (arith, is))
fails ReadFault is = absurd (omega (arith, is))
fails WriteFault is = absurd (omega (arith, is))
fails NoMemory is = absurd (omega (arith, is))

says : {T E : Type 0} (old new : Device) (line : List ℕ) (result : Result T E) → IsWritten old.bytes new.bytes old.faults new.faults line result → Says old new line
says old new line (Ok value) is = inl is.whole
says old new line (Err error) is = inr (is.cause.failed, is.cut)

-- a run that ends with a refusal, whose line was written to the sink for faults, or in part
pub refusal_told : {T E : Type 0} (words : List (List ℕ)) (source source' out out' err err' : Device) (refusal : Refusal) (status : ℕ) (result : Result T E)
    → Ran words source source' out out' (status_of refusal) (line_of refusal) → IsWritten err.bytes err'.bytes err.faults err'.faults (line_of refusal) result
    → status ≡ status_of refusal → HasRun words source source' out out' err err' status
refusal_told words source source' out out' err err' refusal status result ran is same =
    subst (HasRun words source source' out out' err err') (sym same) record {
      line = line_of refusal;
      ran = ran;
      tells = record {
        silent = λ zero_is. absurd (fails refusal zero_is);
        told = λ other. says err err' (line_of refusal) result is;
      };
    }
