-- What `resume` tells of a document, its net and the bytes that follow the document.
use Rattle.std.specs.Prelude.{ℕ, List}
use Rattle.net_values.specs.declared.document.Document.{Document}
use Rattle.net_values.specs.Net.{Net}
use Rattle.siphon_branch.specs.declared.branch.Branch.{Branch}
use Rattle.branch_resume.specs.declared.resumed.Resumed.{Resumed}
use Rattle.branch_resume.specs.Pending.{ReadsPending, IsMalformedAt, IsRejectedAt}
use Rattle.branch_resume.specs.Runs.{IsResumed}
use Rattle.branch_resume.specs.Texts.{resume_text}
use Rattle.report.specs.FaultLines.{pending_malformed_line, pending_rejected_line}

-- for the bytes: the first line that begins no token, or whose class is refused; or a run from the classes that are read
pub data ResumeOutcome (document : Document) (net : Net) (ids : ℕ → List ℕ) (leaves : ℕ) (bytes : List ℕ) : ℕ → List ℕ → Type 0 where
  malformed_token : (number : ℕ) → IsMalformedAt bytes number → ResumeOutcome document net ids leaves bytes 1 (pending_malformed_line number)
  rejected_token : (number : ℕ) → IsRejectedAt net.places bytes number → ResumeOutcome document net ids leaves bytes 1 (pending_rejected_line number)
  resumed : (classes : List Branch) (run : Resumed) → ReadsPending net.places bytes classes → IsResumed net leaves classes run
      → ResumeOutcome document net ids leaves bytes 0 (resume_text document ids run)
