-- The ways in which a run ends, one lemma each, over what the devices told: the facts of the last call are
-- put beside the fields of the run that speak of its status, and the others are void.
use Rattle.std.proofs.Common.{IsErrAnd, IfOk, IfErr, Result, Ok, Err, ◌≡◌, ◌≢◌, ℕ, ◌+◌, ◌≤◌, List, [], refl, sym, subst, arith, inl, inr, ◌⊎◌}
use Rattle.std.proofs.KnownBytes.{Keeps-refl, Consumes-nil}
use Rattle.std.specs.Io.KnownBytes.{Appends}
use Rattle.net_values.specs.declared.limits.TheConstants.{MAX_INPUT_BYTES}
use Rattle.pnml_source.specs.Causes.{Rose}
use Rattle.pnml_source.specs.Streams.{AppendsFront, TakesAtMost, TakesExactly}
use Rattle.struct_core.specs.declared.order.Task.{Task}
use Rattle.struct_core.specs.declared.order.Budgets.{Budgets}
use Rattle.struct_core.specs.declared.order.Order.{Order}
use Rattle.struct_core.specs.declared.order.Order.TheVariants.{Run, Sample}
use Rattle.report.specs.declared.refusal.Refusal.{Refusal}
use Rattle.report.specs.declared.refusal.Refusal.TheVariants.{NoMemory}
use Rattle.report.specs.Refusals.{status_of, line_of}
use Rattle.struct_core.specs.Answers.{IsMemory, IsTold, FailsWith, status_after, line_after}
use Rattle.struct_core.specs.Words.{Means}
use Rattle.report.specs.FaultLines.{usage_line, length_line, read_line, write_line, memory_line}
use Rattle.struct_core.specs.Outcome.{Outcome}
use Rattle.struct_core.specs.Run.{Device, IsUntouched, HasOwnLine, OwnLine, usage, too_long, read_fault, write_fault, no_memory, Reads, ReadsNothing, ReadsFor, Writes, Ran}
use Rattle.struct_core.specs.Obtaining.{HasRead, HasText, EndsBy}
use Rattle.struct_core.proofs.Orders.{one_order}

untouched : (one : Device) → IsUntouched one one
untouched one = record { bytes = Keeps-refl one.bytes; faults = refl }

-- ---- the source

-- it wasn't read
nothing_read : (source : Device) → Reads source source 2
nothing_read source = record {
  unread = λ is. untouched source;
  fault = λ rose. absurd (omega arith);
  cause = λ is. absurd (omega (arith, is));
  too_long = λ is. absurd (omega (arith, is));
  at_most = λ other. ([], Consumes-nil source.bytes, omega arith);
}

-- a read failed
failing_read : (source source' : Device) → Rose source.faults source'.faults → Reads source source' 8
failing_read source source' rose = record {
  unread = λ is. absurd (omega (arith, is));
  fault = λ more. refl;
  cause = λ is. rose;
  too_long = λ is. absurd (omega (arith, is));
  at_most = λ other. absurd (other refl);
}

-- one byte more was taken than may be read
overlong_read : (source source' : Device) → source'.faults ≡ source.faults
    → TakesExactly source.bytes source'.bytes (MAX_INPUT_BYTES + 1) → Reads source source' 7
overlong_read source source' kept taken = record {
  unread = λ is. absurd (omega (arith, is));
  fault = λ more. absurd (omega arith);
  cause = λ is. absurd (omega (arith, is));
  too_long = λ is. taken;
  at_most = λ other. (taken.0, taken.1, omega (arith, taken.2));
}

-- no read failed, and no byte more was taken
quiet_read : (source source' : Device) (status : ℕ) → source'.faults ≡ source.faults
    → TakesAtMost source.bytes source'.bytes MAX_INPUT_BYTES → status ≢ 2 → status ≢ 7 → status ≢ 8 → Reads source source' status
quiet_read source source' status kept taken not_usage not_long not_failed = record {
  unread = λ is. absurd (not_usage is);
  fault = λ more. absurd (omega arith);
  cause = λ is. absurd (not_failed is);
  too_long = λ is. absurd (not_long is);
  at_most = λ other. (taken.0, taken.1, omega (arith, taken.2));
}

-- ---- `sample`

-- words that mean a task mean no sample
no_sample : (words : List (List ℕ)) (task : Task) (k : ℕ) (budgets : Budgets) (source source' : Device) (status n : ℕ) → Means words (Run task k budgets) → Means words (Sample n)
    → ReadsNothing source source' status
no_sample words task k budgets source source' status n means also = absurd (let same = one_order words (Run task k budgets) (Sample n) means also in cc)

-- and those that mean a sample read what it reads
sample_reads : (words : List (List ℕ)) (order : Order) (source source' : Device) (input : List ℕ) (status n : ℕ) → Means words order → ReadsFor order source source' input
    → status ≢ 7 → status ≢ 8 → Means words (Sample n) → ReadsNothing source source' status
sample_reads words order source source' input status n means reads not_long not_failed also = record {
  untouched = subst (λ (o : Order). ReadsFor o source source' input) (one_order words order (Sample n) means also) reads;
  no_read_fault = not_failed;
  not_too_long = not_long;
}

-- ---- `out`

nothing_written : (out : Device) (status : ℕ) → Writes out out status
nothing_written out status = record { fault = λ rose. absurd (omega arith); kept = λ other another. untouched out }

-- ---- runs that have no outcome

-- the words mean nothing
pub no_order : (words : List (List ℕ)) (source out : Device) → ((order : Order) → Means words order → ⊥) → Ran words source source out out 2 usage_line
no_order words source out void = record {
  meant = λ other. absurd (other refl);
  usage = λ is. void;
  reads = nothing_read source;
  sample = λ n means. absurd (void (Sample n) means);
  answered = λ other. absurd (other.0 refl);
  writes = nothing_written out 2;
  own = λ is. usage;
}

pub read_failed : (words : List (List ℕ)) (task : Task) (k : ℕ) (budgets : Budgets) (source source' out : Device) → Means words (Run task k budgets) → Rose source.faults source'.faults → Ran words source source' out out 8 read_line
read_failed words task k budgets source source' out means rose = record {
  meant = λ other. (Run task k budgets, means);
  usage = λ is. absurd (omega (arith, is));
  sample = λ n also. no_sample words task k budgets source source' 8 n means also;
  reads = failing_read source source' rose;
  answered = λ other. absurd (other.2 refl);
  writes = nothing_written out 8;
  own = λ is. read_fault;
}

pub input_too_long : (words : List (List ℕ)) (task : Task) (k : ℕ) (budgets : Budgets) (source source' out : Device) → Means words (Run task k budgets) → source'.faults ≡ source.faults
    → TakesExactly source.bytes source'.bytes (MAX_INPUT_BYTES + 1) → Ran words source source' out out 7 length_line
input_too_long words task k budgets source source' out means kept taken = record {
  meant = λ other. (Run task k budgets, means);
  usage = λ is. absurd (omega (arith, is));
  sample = λ n also. no_sample words task k budgets source source' 7 n means also;
  reads = overlong_read source source' kept taken;
  answered = λ other. absurd (other.1 refl);
  writes = nothing_written out 7;
  own = λ is. too_long;
}

-- the system refused memory
pub out_of_memory : (words : List (List ℕ)) (order : Order) (source source' out : Device) → Means words order → source'.faults ≡ source.faults
    → TakesAtMost source.bytes source'.bytes MAX_INPUT_BYTES → ((n : ℕ) → Means words (Sample n) → ReadsNothing source source' 10)
    → Ran words source source' out out 10 memory_line
out_of_memory words order source source' out means kept taken nothing = record {
  meant = λ other. (order, means);
  usage = λ is. absurd (omega (arith, is));
  sample = nothing;
  reads = quiet_read source source' 10 kept taken (λ is. omega (arith, is)) (λ is. omega (arith, is)) (λ is. omega (arith, is));
  answered = λ other. absurd (other.3 refl);
  writes = nothing_written out 10;
  own = λ is. no_memory;
}

-- ---- runs with an outcome: what the order reads was read without a fault

pub read_nothing : (n : ℕ) (source : Device) (input : List ℕ) → HasRead (Sample n) source source input
read_nothing n source input = record {
  reads = untouched source;
  taken = ([], Consumes-nil source.bytes, omega arith);
  kept = refl;
}

-- what became of the outcome: its line was told, its text was written, or a write failed
pub record Ends (out out' : Device) (outcome : ℕ) (text : List ℕ) (status : ℕ) (line : List ℕ) : Type 0 where
  pub refused : outcome ≢ 0 → (status ≡ outcome) × (line ≡ text)
  pub follows : outcome ≡ 0 → (status ≡ 0) ⊎ (status ≡ 9)
  pub done : status ≡ 0 → Appends out.bytes out'.bytes text
  pub cut : status ≡ 9 → Rose out.faults out'.faults × AppendsFront out.bytes out'.bytes text
  pub writes : Writes out out' status
  pub own : HasOwnLine status → OwnLine status line

-- a run that ends so
ended : (words : List (List ℕ)) (order : Order) (source source' out out' : Device) (input : List ℕ) (outcome : ℕ) (text : List ℕ) (status : ℕ) (line : List ℕ)
    → Means words order → HasRead order source source' input → Outcome order input outcome text → status ≢ 2 → status ≢ 7 → status ≢ 8
    → Ends out out' outcome text status line → Ran words source source' out out' status line
ended words order source source' out out' input outcome text status line means reads comes not_usage not_long not_failed ends = record {
  meant = λ other. (order, means);
  usage = λ is. absurd (not_usage is);
  reads = quiet_read source source' status reads.kept reads.taken not_usage not_long not_failed;
  sample = λ n also. sample_reads words order source source' input status n means reads.reads not_long not_failed also;
  answered = λ other. record {
    order = order;
    input = input;
    outcome = outcome;
    text = text;
    means = means;
    reads = reads.reads;
    comes = comes;
    refused = ends.refused;
    follows = ends.follows;
    done = ends.done;
    cut = ends.cut;
  };
  writes = ends.writes;
  own = ends.own;
}

-- a status in the middle has no line of its own, and neither has 0
middle : (status : ℕ) → status ≢ 2 → status ≤ 6 → (line : List ℕ) → HasOwnLine status → OwnLine status line
middle status not_usage high line (inl is) = absurd (not_usage is)
middle status not_usage high line (inr late) = absurd (omega arith)

no_own_line : {line : List ℕ} → HasOwnLine 0 → OwnLine 0 line
no_own_line (inl is) = absurd (omega (arith, is))
no_own_line (inr late) = absurd (omega arith)

-- the outcome is a status in the middle, with its line
pub refused : (words : List (List ℕ)) (order : Order) (source source' out : Device) (input : List ℕ) (status : ℕ) (line : List ℕ) → 1 ≤ status → status ≢ 2 → status ≤ 6 → Means words order → HasRead order source source' input → Outcome order input status line → Ran words source source' out out status line
refused words order source source' out input status line low not_usage high means reads comes =
    ended words order source source' out out input status line status line means reads comes not_usage (λ is. omega (arith, is)) (λ is. omega (arith, is)) record {
      refused = λ another. (refl, refl);
      follows = λ is. absurd (omega (arith, is));
      done = λ is. absurd (omega (arith, is));
      cut = λ is. absurd (omega (arith, is));
      writes = nothing_written out status;
      own = middle status not_usage high line;
    }

-- the text was written
pub written : (words : List (List ℕ)) (order : Order) (source source' out out' : Device) (input text : List ℕ) → Means words order → HasRead order source source' input → Outcome order input 0 text → Appends out.bytes out'.bytes text → out'.faults ≡ out.faults → Ran words source source' out out' 0 []
written words order source source' out out' input text means reads comes appends kept =
    ended words order source source' out out' input 0 text 0 [] means reads comes (λ is. omega (arith, is)) (λ is. omega (arith, is)) (λ is. omega (arith, is)) record {
      refused = λ another. absurd (another refl);
      follows = λ is. inl refl;
      done = λ is. appends;
      cut = λ is. absurd (omega (arith, is));
      writes = record { fault = λ more. absurd (omega arith); kept = λ other another. absurd (other refl) };
      own = no_own_line;
    }

-- the text was written in part
pub write_failed : (words : List (List ℕ)) (order : Order) (source source' out out' : Device) (input text : List ℕ) → Means words order → HasRead order source source' input → Outcome order input 0 text → AppendsFront out.bytes out'.bytes text → Rose out.faults out'.faults → Ran words source source' out out' 9 write_line
write_failed words order source source' out out' input text means reads comes appends rose =
    ended words order source source' out out' input 0 text 9 write_line means reads comes (λ is. omega (arith, is)) (λ is. omega (arith, is)) (λ is. omega (arith, is)) record {
      refused = λ another. absurd (another refl);
      follows = λ is. inr refl;
      done = λ is. absurd (omega (arith, is));
      cut = λ is. (rose, appends);
      writes = record { fault = λ more. refl; kept = λ other another. absurd (another refl) };
      own = λ is. write_fault;
    }

-- the answer is a refusal of one kind or the other
pub not_answered : (words : List (List ℕ)) (order : Order) (source source' out : Device) (input : List ℕ) (refusal : Refusal) → Means words order → HasRead order source source' input → IsMemory refusal ⊎ IsTold (Outcome order input) refusal → Ran words source source' out out (status_of refusal) (line_of refusal)
not_answered words order source source' out input refusal means reads (inl memory) =
    subst (λ (n : ℕ). Ran words source source' out out n (line_of refusal)) (sym memory.status)
    (subst (λ (line : List ℕ). Ran words source source' out out 10 line) (sym memory.line)
    (out_of_memory words order source source' out means reads.kept reads.taken
    (λ n also. sample_reads words order source source' input 10 n means reads.reads (λ is. omega (arith, is)) (λ is. omega (arith, is)) also)))
not_answered words order source source' out input refusal means reads (inr told) =
    refused words order source source' out input (status_of refusal) (line_of refusal) told.low told.not_usage told.high means reads told.outcome

-- a result that is the refusal ends so
pub refused_so : {T : Type 0} (words : List (List ℕ)) (source source' out out' : Device) (result : Result T Refusal) (refusal : Refusal) → IsErrAnd result (λ x. x ≡ refusal)
    → Ran words source source' out out' (status_of refusal) (line_of refusal) → Ran words source source' out out' (status_after result) (line_after result)
refused_so words source source' out out' (Ok done) refusal same ran = absurd same
refused_so words source source' out out' (Err error) refusal same ran =
    subst (λ (r : Refusal). Ran words source source' out out' (status_of r) (line_of r)) (sym same) ran

-- ---- the text of an order

-- memory was refused before the input was read whole
pub no_room : (task : Task) (k : ℕ) (budgets : Budgets) (source source' : Device) → source'.faults ≡ source.faults
    → TakesAtMost source.bytes source'.bytes MAX_INPUT_BYTES → EndsBy (Run task k budgets) source source' NoMemory
no_room task k budgets source source' kept taken = λ words out means.
    out_of_memory words (Run task k budgets) source source' out means kept taken (λ n also. no_sample words task k budgets source source' 10 n means also)

-- it was read, and the answer is a text or a refusal
pub text_there : (order : Order) (source source' : Device) (input : List ℕ) (result : Result (List ℕ) Refusal) → HasRead order source source' input
    → IfOk result (Outcome order input 0) → IfOk result (HasText order source source')
text_there order source source' input (Ok text) read is = record { input = input; read = read; outcome = is }
text_there order source source' input (Err refusal) read is = tt

pub no_text : (order : Order) (source source' : Device) (input : List ℕ) (result : Result (List ℕ) Refusal) → HasRead order source source' input
    → IfErr result (FailsWith (Outcome order input)) → IfErr result (EndsBy order source source')
no_text order source source' input (Ok text) read is = tt
no_text order source source' input (Err refusal) read is = λ words out means. not_answered words order source source' out input refusal means read is
