-- Whether an order has an outcome for an input, and whether it has one only.
use Rattle.std.specs.Prelude.{◌≡◌, ◌⊎◌, ℕ, List, ◌++◌}
use Rattle.net_values.specs.Net.{Net}
use Rattle.siphon_branch.specs.declared.branch.Branch.{Branch}
use Rattle.branch_resume.specs.declared.resumed.Resumed.{Resumed}
use Rattle.branch_resume.specs.Runs.{IsRun}
use Rattle.branch_resume.specs.Texts.{resume_text}
use Rattle.net_values.specs.declared.document.Document.{Document}
use Rattle.net_values.specs.FlatNets.{NetLists, net_of}
use Rattle.incidence.specs.Matrix.{Matrix, incidence_of, extended_of, transposed}
use Rattle.semiflow_elim.specs.declared.fault.ElimFault.{ElimFault}
use Rattle.semiflow_elim.specs.Generated.{IsGenerated}
use Rattle.semiflow_elim.specs.FirstFail.{IsFirstFail}
use Rattle.incidence.specs.Semiflow.{all_columns, IsSemiflow}
use Rattle.page_flatten.specs.Flat.{Flat}
use Rattle.pnml_grammar.specs.Canon.{canon}
use Rattle.certificates.specs.declared.certificate.Certificate.TheVariants.{Commoner}
use Rattle.certificates.specs.declared.certificate.TreeLine.{TreeLine}
use Rattle.certificates.specs.Spelling.{certificate_text}
use Rattle.struct_core.specs.declared.order.Task.{Task}
use Rattle.struct_core.specs.declared.order.Task.TheVariants as tasks
use Rattle.struct_core.specs.declared.order.Budgets.{Budgets}
use Rattle.struct_core.specs.declared.order.Order.{Order}
use Rattle.struct_core.specs.declared.order.Order.TheVariants.{Run, Sample}
use Rattle.struct_core.specs.Enumerations.{AreListed}
use Rattle.struct_core.specs.Inputs.{front_of}
use Rattle.struct_core.specs.Outcome.{Outcome, Profile, sample_tasks}
use Rattle.std.specs.List.{AllByRecursion}
use Rattle.struct_core.specs.Words.{default_budgets, IsInRange}
use Rattle.struct_core.specs.Sample.{sample_document}

-- two texts that begin with the same canonical text and go on with a certificate for Commoner's condition each
pub record DifferInTree (text line : List ℕ) : Type 0 where
  pub document : Document
  pub one : List TreeLine
  pub other : List TreeLine
  pub text_is : text ≡ canon document ++ certificate_text (Commoner one)
  pub line_is : line ≡ canon document ++ certificate_text (Commoner other)

-- the order is for the certificate of Commoner's verdict
abbrev pub AsksForATree : Order → Type 0
AsksForATree order = (k : ℕ) × (budgets : Budgets) × (order ≡ Run tasks.CertCommoner k budgets)

-- two texts of `resume` for a document, by runs from the same classes
pub record DifferInRun (text line : List ℕ) : Type 0 where
  pub document : Document
  pub ids : ℕ → List ℕ
  pub net : Net
  pub classes : List Branch
  pub one : Resumed
  pub other : Resumed
  pub one_is : IsRun net classes one
  pub other_is : IsRun net classes other
  pub text_is : text ≡ resume_text document ids one
  pub line_is : line ≡ resume_text document ids other

-- the order is for a run of a search
abbrev pub AsksForARun : Order → Type 0
AsksForARun order = (k : ℕ) × (budgets : Budgets) × (order ≡ Run tasks.Resume k budgets)

-- the same text, or for that certificate another tree, or for `resume` another run
abbrev pub IsSameText : Order → List ℕ → List ℕ → Type 0
IsSameText order text line = (text ≡ line) ⊎ ((AsksForATree order × DifferInTree text line) ⊎ (AsksForARun order × DifferInRun text line))

-- an order has at most one status for an input, and one text but for the tree of a certificate and the run of `resume`
abbrev pub HasOneOutcome : Type 0
HasOneOutcome =
    (order : Order) (input : List ℕ) (status other : ℕ) (text line : List ℕ) → Outcome order input status text → Outcome order input other line
    → (status ≡ other) × IsSameText order text line

-- every step passes and a list has the semiflows of minimal support, which generate all, or a step fails first
abbrev pub IsEliminationDecided : Matrix → ℕ → Type 0
IsEliminationDecided m budget =
    ((list : List (List ℕ)) × AreListed m budget list × ((y : ℕ → ℕ) → IsSemiflow m all_columns y → IsGenerated m list y))
    ⊎ ((fault : ElimFault) × IsFirstFail m budget fault)

-- what has to be decided for a task: nothing but the elimination
abbrev pub IsDecided : Task → Budgets → NetLists → Type 0
IsDecided tasks.Places budgets net = IsEliminationDecided (incidence_of (net_of net)) budgets.rows
IsDecided tasks.Transitions budgets net = IsEliminationDecided (transposed (incidence_of (net_of net))) budgets.rows
IsDecided tasks.Bounds budgets net = IsEliminationDecided (incidence_of (net_of net)) budgets.rows
IsDecided tasks.CertBounds budgets net = IsEliminationDecided (incidence_of (net_of net)) budgets.rows
IsDecided tasks.Sub budgets net = IsEliminationDecided (extended_of (net_of net)) budgets.rows
IsDecided _ budgets net = Unit

-- of a task every input has an outcome, where what it needs is decided
abbrev pub HasSomeTaskOutcome : Type 0
HasSomeTaskOutcome =
    (task : Task) (k : ℕ) (budgets : Budgets) (input : List ℕ)
    → ((document : Document) (net : NetLists) → Profile (front_of task input) document → Flat document k net → IsDecided task budgets net)
    → (status : ℕ) × (text : List ℕ) × Outcome (Run task k budgets) input status text

-- and each sample has one, where those of its net are
abbrev pub HasSomeSampleOutcome : Type 0
HasSomeSampleOutcome =
    (n : ℕ) (input : List ℕ) → IsInRange (Sample n)
    → ((net : NetLists) → Flat (sample_document n) 1 net → AllByRecursion (λ task. IsDecided task default_budgets net) sample_tasks)
    → (status : ℕ) × (text : List ℕ) × Outcome (Sample n) input status text

abbrev pub HasSomeOutcome : Type 0
HasSomeOutcome = HasSomeTaskOutcome × HasSomeSampleOutcome
