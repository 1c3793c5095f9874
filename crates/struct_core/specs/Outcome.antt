-- What an order gives for an input: a status and a text, or a status and the line that tells it.
use Rattle.std.specs.Prelude.{◌≡◌, ◌≢◌, ◌↔◌, ℕ, List, [], ◌∷◌, IsTrue, codes}
use Rattle.net_values.specs.declared.document.Document.{Document}
use Rattle.net_values.specs.Net.{Net}
use Rattle.net_values.specs.FlatNets.{NetLists, net_of}
use Rattle.closed_sets.specs.Commoner.{IsOrdinary}
use Rattle.closed_sets.specs.MinimalSets.{IsMinimalSet, IsMinimalTrapSet}
use Rattle.siphon_branch.specs.Limits.{IsGrownSet, IsGrownTrapSet}
use Rattle.net_class.specs.declared.membership.Class.{Class}
use Rattle.net_class.specs.Classes.{IsStateMachine, IsMarkedGraph, IsFreeChoice}
use Rattle.incidence.specs.Matrix.{incidence_of, transposed}
use Rattle.net_values.specs.Nodes.{place_id, transition_id}
use Rattle.report.specs.Texts.{check_text, class_text}
use Rattle.pnml_grammar.specs.Canon.{canon}
use Rattle.pnml_grammar.specs.Documents.{DocBytes}
use Rattle.pnml_grammar.specs.FirstFault.{Fault, FirstFault}
use Rattle.page_flatten.specs.declared.fault.FlatFault.{FlatFault}
use Rattle.page_flatten.specs.Rules.{FirstBroken, BreaksNoRule}
use Rattle.page_flatten.specs.Flat.{Flat, LacksNet}
use Rattle.struct_core.specs.declared.order.Task.{Task}
use Rattle.struct_core.specs.declared.order.Task.TheVariants as tasks
use Rattle.struct_core.specs.declared.order.Budgets.{Budgets}
use Rattle.struct_core.specs.declared.order.Order.{Order}
use Rattle.struct_core.specs.declared.order.Order.TheVariants.{Run, Sample}
use Rattle.report.specs.FaultLines.{document_line, rule_line, no_net_line}
use Rattle.report.specs.declared.summary.Summary.{Summary}
use Rattle.report.specs.SummaryText.{summary_text}
use Rattle.struct_core.specs.Words.{default_budgets, IsInRange}
use Rattle.struct_core.specs.Sample.{sample_document}
use Rattle.struct_core.specs.Summaries.{IsSummary}
use Rattle.struct_core.specs.Enumerations.{SemiflowOutcome, SetOutcome}
use Rattle.struct_core.specs.Inputs.{front_of, rest_of}
use Rattle.struct_core.specs.Verdicts.{BoundOutcome, CommonerOutcome, LiveOutcome}
use Rattle.struct_core.specs.Certificates.{CertBoundOutcome, CertVerdictOutcome, VerifyOutcome}
use Rattle.struct_core.specs.Resuming.{ResumeOutcome}
use Rattle.struct_core.specs.FiringLists.{ReplayOutcome}
use Rattle.struct_core.specs.SubSemiflows.{SubOutcome}

-- the classes to which a net belongs (Murata 1989)
pub record HasClass (net : Net) (class : Class) : Type 0 where
  pub ordinary : IsTrue class.ordinary ↔ IsOrdinary net
  pub state_machine : IsTrue class.state_machine ↔ IsStateMachine net
  pub marked_graph : IsTrue class.marked_graph ↔ IsMarkedGraph net
  pub free_choice : IsTrue class.free_choice ↔ IsFreeChoice net

-- what a task gives for a document that breaks no rule, for its flat net, and for what follows its bytes
abbrev pub TaskOutcome : Task → Budgets → Document → NetLists → List ℕ → ℕ → List ℕ → Type 0
TaskOutcome tasks.Check budgets document net rest status text =
    (status ≡ 0) × (text ≡ check_text (net_of net).places (net_of net).transitions net.arcs)
TaskOutcome tasks.Canon budgets document net rest status text = (status ≡ 0) × (text ≡ canon document)
TaskOutcome tasks.Class budgets document net rest status text =
    (status ≡ 0) × (class : Class) × HasClass (net_of net) class × (text ≡ class_text class)
TaskOutcome tasks.Places budgets document net rest status text =
    SemiflowOutcome (incidence_of (net_of net)) (place_id net) (transition_id net) budgets.rows status text
TaskOutcome tasks.Transitions budgets document net rest status text =
    SemiflowOutcome (transposed (incidence_of (net_of net))) (transition_id net) (place_id net) budgets.rows status text
TaskOutcome tasks.Siphons budgets document net rest status text =
    SetOutcome (IsMinimalSet (net_of net)) (IsGrownSet (net_of net)) (codes "siphons") (place_id net) budgets.sets status text
TaskOutcome tasks.Traps budgets document net rest status text =
    SetOutcome (IsMinimalTrapSet (net_of net)) (IsGrownTrapSet (net_of net)) (codes "traps") (place_id net) budgets.sets status text
TaskOutcome tasks.Bounds budgets document net rest status text =
    BoundOutcome (net_of net) (place_id net) (transition_id net) budgets.rows status text
TaskOutcome tasks.Commoner budgets document net rest status text = CommonerOutcome (net_of net) (place_id net) budgets.sets status text
TaskOutcome tasks.CertBounds budgets document net rest status text =
    CertBoundOutcome (net_of net) (canon document) (place_id net) (transition_id net) budgets.rows status text
TaskOutcome tasks.CertCommoner budgets document net rest status text = CertVerdictOutcome (net_of net) (canon document) budgets.sets status text
TaskOutcome tasks.Verify budgets document net rest status text = VerifyOutcome (net_of net) rest status text
TaskOutcome tasks.Live budgets document net rest status text = LiveOutcome (net_of net) (place_id net) budgets.sets status text
TaskOutcome tasks.Sub budgets document net rest status text = SubOutcome (net_of net) (place_id net) (transition_id net) budgets.rows status text
TaskOutcome tasks.Resume budgets document net rest status text = ResumeOutcome document (net_of net) (place_id net) budgets.sets rest status text
TaskOutcome tasks.Replay budgets document net rest status text = ReplayOutcome (net_of net) (place_id net) (transition_id net) rest status text

-- what `sample` computes of its net
abbrev pub sample_tasks : List Task
sample_tasks = tasks.Places ∷ tasks.Transitions ∷ tasks.Siphons ∷ tasks.Bounds ∷ tasks.Commoner ∷ []

-- what it gives: the line of the first task that is refused, within the default budgets, or else the summary
pub data SampleOutcome (document : Document) (net : NetLists) : List Task → ℕ → List ℕ → Type 0 where
  refused : (task : Task) (later : List Task) (status : ℕ) (line : List ℕ) → status ≢ 0
      → TaskOutcome task default_budgets document net [] status line → SampleOutcome document net (task ∷ later) status line
  goes_on : (task : Task) (later : List Task) (report : List ℕ) (status : ℕ) (text : List ℕ)
      → TaskOutcome task default_budgets document net [] 0 report → SampleOutcome document net later status text
      → SampleOutcome document net (task ∷ later) status text
  summary : (numbers : Summary) → IsSummary (net_of net) net.arcs numbers → SampleOutcome document net [] 0 (summary_text numbers)

-- the bytes spell the document, and it breaks no rule
pub record Profile (bytes : List ℕ) (document : Document) : Type 0 where
  pub spelled : DocBytes document bytes
  pub rules : BreaksNoRule document

-- what an order gives for an input, by the bytes of its document and the number of the net, from 1
pub data Outcome : Order → List ℕ → ℕ → List ℕ → Type 0 where
  -- the bytes spell no document
  no_document : (task : Task) (k : ℕ) (budgets : Budgets) (bytes : List ℕ) (fault : Fault) → FirstFault (front_of task bytes) fault
      → Outcome (Run task k budgets) bytes 3 (document_line fault)
  -- they spell one that breaks a rule
  broken : (task : Task) (k : ℕ) (budgets : Budgets) (bytes : List ℕ) (document : Document) (fault : FlatFault)
      → DocBytes document (front_of task bytes) → FirstBroken document fault → Outcome (Run task k budgets) bytes 3 (rule_line k fault)
  -- they spell one that breaks none and has no net k
  no_net : (task : Task) (k : ℕ) (budgets : Budgets) (bytes : List ℕ) (document : Document)
      → Profile (front_of task bytes) document → LacksNet document k → Outcome (Run task k budgets) bytes 3 (no_net_line k)
  -- they spell one that breaks none and has net k
  answer : (task : Task) (k : ℕ) (budgets : Budgets) (bytes : List ℕ) (document : Document) (net : NetLists) (status : ℕ) (text : List ℕ)
      → Profile (front_of task bytes) document → Flat document k net → TaskOutcome task budgets document net (rest_of task bytes) status text
      → Outcome (Run task k budgets) bytes status text
  -- the sample net, which is in the profile, whatever the input
  sample : (n : ℕ) (bytes : List ℕ) (net : NetLists) (status : ℕ) (text : List ℕ) → IsInRange (Sample n) → Flat (sample_document n) 1 net
      → SampleOutcome (sample_document n) net sample_tasks status text → Outcome (Sample n) bytes status text
