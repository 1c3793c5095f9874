-- What is told of a pending token: each fault by its line, and a run from its classes by its text. One status comes for each
-- net and bytes, and it is 0 where the token is read.
use Rattle.std.proofs.Common.{◌≡◌, ◌⊎◌, refl, sym, ap, subst, ℕ, ◌≤◌, List, inl, inr, arith}
use Rattle.net_values.specs.declared.document.Document.{Document}
use Rattle.net_values.specs.Net.{Net}
use Rattle.net_values.specs.declared.limits.TheConstants.{MAX_PLACES}
use Rattle.siphon_branch.specs.declared.branch.Branch.{Branch}
use Rattle.branch_resume.specs.declared.fault.PendingFault.{PendingFault}
use Rattle.branch_resume.specs.declared.fault.PendingFault.TheVariants as readings
use Rattle.branch_resume.specs.declared.resumed.Resumed.{Resumed}
use Rattle.branch_resume.specs.Pending.{ReadsPending, IsMalformedAt, IsRejectedAt}
use Rattle.branch_resume.specs.Runs.{IsResumed}
use Rattle.branch_resume.specs.Texts.{resume_text}
use Rattle.branch_resume.proofs.SomeReading.{some_reading}
use Rattle.branch_resume.proofs.SomeRun.{some_run}
use Rattle.branch_resume.proofs.Unique.{one_reading}
use Rattle.report.specs.declared.refusal.Refusal.TheVariants.{MalformedPending, RejectedPending}
use Rattle.report.specs.FaultLines.{pending_malformed_line, pending_rejected_line}
use Rattle.struct_core.specs.Answers.{FailsWith}
use Rattle.struct_core.specs.Determined.{DifferInRun}
use Rattle.struct_core.specs.Resuming.{ResumeOutcome, malformed_token, rejected_token, resumed}

module _ (document : Document) (net : Net) (ids : ℕ → List ℕ) (leaves : ℕ) (bytes : List ℕ) where
  abbrev Told : ℕ → List ℕ → Type 0
  Told = ResumeOutcome document net ids leaves bytes

  pub malformed_told : (number : ℕ) (fault : PendingFault) → fault ≡ readings.BadLine number
      → ((line : ℕ) → fault ≡ readings.BadLine line → IsMalformedAt bytes line) → FailsWith Told (MalformedPending number)
  malformed_told number fault is bad =
      inr record { low = omega arith; not_usage = λ same. omega (arith, same); high = omega arith; outcome = malformed_token number (bad number is) }

  pub rejected_told : (number : ℕ) (fault : PendingFault) → fault ≡ readings.Rejected number
      → ((line : ℕ) → fault ≡ readings.Rejected line → IsRejectedAt net.places bytes line) → FailsWith Told (RejectedPending number)
  rejected_told number fault is bad =
      inr record { low = omega arith; not_usage = λ same. omega (arith, same); high = omega arith; outcome = rejected_token number (bad number is) }

  pub resumed_told : (classes : List Branch) (run : Resumed) (text : List ℕ) → ReadsPending net.places bytes classes → IsResumed net leaves classes run
      → text ≡ resume_text document ids run → Told 0 text
  resumed_told classes run text read is same = subst (λ (t : List ℕ). Told 0 t) (sym same) (resumed classes run read is)

  -- ---- some outcome, and one but for the run

  pub some_resume_outcome : net.places ≤ MAX_PLACES → (status : ℕ) × (text : List ℕ) × Told status text
  some_resume_outcome fits = elim (some_reading net.places bytes fits) [
    | inl read ↦ let run = some_run net read.0 leaves in (0, resume_text document ids run.0, resumed read.0 run.0 read.1 run.1)
    | inr fault ↦ elim fault [
      | inl malformed ↦ (1, pending_malformed_line malformed.0, malformed_token malformed.0 malformed.1)
      | inr rejected ↦ (1, pending_rejected_line rejected.0, rejected_token rejected.0 rejected.1)
    ]
  ]

  pub one_resume_outcome : (status other : ℕ) (text line : List ℕ) → Told status text → Told other line → (status ≡ other) × ((text ≡ line) ⊎ DifferInRun text line)
  one_resume_outcome _ _ _ _ (malformed_token one bad) (malformed_token another also) = (refl, inl (ap pending_malformed_line ((one_reading net.places bytes).malformed one another bad also)))
  one_resume_outcome _ _ _ _ (malformed_token one bad) (rejected_token another refused) = absurd ((one_reading net.places bytes).malformed_or_rejected one another bad refused)
  one_resume_outcome _ _ _ _ (malformed_token one bad) (resumed classes run read is) = absurd ((one_reading net.places bytes).read_or_malformed classes one read bad)
  one_resume_outcome _ _ _ _ (rejected_token one refused) (malformed_token another bad) = absurd ((one_reading net.places bytes).malformed_or_rejected another one bad refused)
  one_resume_outcome _ _ _ _ (rejected_token one refused) (rejected_token another also) = (refl, inl (ap pending_rejected_line ((one_reading net.places bytes).rejected one another refused also)))
  one_resume_outcome _ _ _ _ (rejected_token one refused) (resumed classes run read is) = absurd ((one_reading net.places bytes).read_or_rejected classes one read refused)
  one_resume_outcome _ _ _ _ (resumed classes run read is) (malformed_token another bad) = absurd ((one_reading net.places bytes).read_or_malformed classes another read bad)
  one_resume_outcome _ _ _ _ (resumed classes run read is) (rejected_token another refused) = absurd ((one_reading net.places bytes).read_or_rejected classes another read refused)
  one_resume_outcome _ _ _ _ (resumed classes one read is) (resumed others other also goes) =
      let same : others ≡ classes = (one_reading net.places bytes).classes others classes also read in (
        refl,
        inr record {
          document = document;
          ids = ids;
          net = net;
          classes = classes;
          one = one;
          other = other;
          one_is = is.is_run;
          other_is = (subst (λ (cs : List Branch). IsResumed net leaves cs other) same goes).is_run;
          text_is = refl;
          line_is = refl;
        },
      )

  -- ---- where the token is read

  pub resume_completes : (status : ℕ) (text : List ℕ) (classes : List Branch) → ReadsPending net.places bytes classes → Told status text → status ≡ 0
  resume_completes _ _ classes read (malformed_token number bad) = absurd ((one_reading net.places bytes).read_or_malformed classes number read bad)
  resume_completes _ _ classes read (rejected_token number refused) = absurd ((one_reading net.places bytes).read_or_rejected classes number read refused)
  resume_completes _ _ classes read (resumed others run also is) = refl
