-- When a run is sure to write its text: no device fails, the document is in the profile, the numbers of its
-- elimination stay narrow, its search has few sets to meet, a certificate to be verified is accepted, a token to
-- be resumed is read, and a list to be replayed fires.
use Rattle.std.specs.Prelude.{◌≡◌, ◌⊎◌, ℕ, ◌-◌, ◌^◌, ◌≤◌, ◌<◌, List, Option, Some, length}
use Rattle.std.specs.Io.KnownBytes.{Appends}
use Rattle.net_values.specs.declared.document.Document.{Document}
use Rattle.net_values.specs.declared.limits.TheConstants.{MAX_INPUT_BYTES}
use Rattle.net_values.specs.FlatNets.{NetLists, net_of}
use Rattle.net_values.specs.Net.{Net}
use Rattle.net_values.specs.TheList.{IsTheList}
use Rattle.page_flatten.specs.Flat.{Flat}
use Rattle.bounds.specs.declared.place_bound.PlaceBound.{PlaceBound}
use Rattle.bounds.specs.Listed.{IsFirstWideRow, NameFirstRows}
use Rattle.cert_make.specs.BoundCertificates.{is_named, IsFirstWideCheck}
use Rattle.certificates.specs.declared.certificate.Certificate.{Certificate}
use Rattle.certificates.specs.BadLines.{Spells}
use Rattle.certificates.specs.Conditions.{IsAccepted}
use Rattle.incidence.specs.Semiflow.{all_columns}
use Rattle.semiflow_elim.specs.Bases.{IsMinimalRow}
use Rattle.std.specs.Cmp.Lexicographic.{slice_cmp}
use Rattle.std.specs.Ordering.{nat_cmp}
use Rattle.incidence.specs.Matrix.{Matrix, incidence_of, extended_of, transposed}
use Rattle.semiflow_elim.specs.declared.fault.ElimFault.{ElimFault}
use Rattle.semiflow_elim.specs.FirstFail.{IsFirstFail}
use Rattle.siphon_branch.specs.Limits.{HasAtMostGrown, HasAtMostGrownTraps}
use Rattle.struct_core.specs.declared.order.Task.{Task}
use Rattle.struct_core.specs.declared.order.Task.TheVariants as tasks
use Rattle.struct_core.specs.declared.order.Budgets.{Budgets}
use Rattle.struct_core.specs.declared.order.Order.{Order}
use Rattle.struct_core.specs.declared.order.Order.TheVariants.{Run, Sample}
use Rattle.free_choice_live.specs.Answers.{IsAsked}
use Rattle.siphon_branch.specs.declared.branch.Branch.{Branch}
use Rattle.branch_resume.specs.Pending.{ReadsPending}
use Rattle.net_replay.specs.FiringLists.{ListsFirings}
use Rattle.net_replay.specs.Replays.{FiresWithinRange}
use Rattle.net_values.specs.Nodes.{transition_id}
use Rattle.struct_core.specs.Inputs.{front_of, rest_of}
use Rattle.struct_core.specs.Outcome.{Outcome, Profile, sample_tasks}
use Rattle.std.specs.List.{AllByRecursion}
use Rattle.struct_core.specs.Sample.{sample_document}
use Rattle.struct_core.specs.Run.{Device, HasRun}
use Rattle.struct_core.specs.Words.{Means, default_budgets}

-- the count of a device neither rose nor is at its last value
pub record IsQuiet (old new : Device) : Type 0 where
  pub steady : new.faults ≤ old.faults
  pub below : new.faults < 2 ^ 64 - 1

-- the input is no longer than may be read, and the bytes of its document spell this one, which breaks no rule
pub record IsShort (task : Task) (bytes : List ℕ) (document : Document) : Type 0 where
  pub length_is : length bytes ≤ MAX_INPUT_BYTES
  pub profile : Profile (front_of task bytes) document

-- no step of the elimination fails
abbrev pub NoStepFails : Matrix → ℕ → Type 0
NoStepFails m budget = (fault : ElimFault) → IsFirstFail m budget fault → ⊥

-- no listed semiflow of places is wide
abbrev pub NoBoundIsWide : Net → Type 0
NoBoundIsWide net = (list : List (List ℕ)) (row : ℕ) → IsTheList (slice_cmp nat_cmp) (IsMinimalRow (incidence_of net) all_columns) list
    → IsFirstWideRow net list row → ⊥

-- no semiflow that gives a bound has a wide sum
abbrev pub NoCheckIsWide : Net → Type 0
NoCheckIsWide net =
    (list : List (List ℕ)) (bounds : List (Option PlaceBound)) (row column : ℕ)
    → IsTheList (slice_cmp nat_cmp) (IsMinimalRow (incidence_of net) all_columns) list → NameFirstRows net list bounds
    → IsFirstWideCheck net list (is_named bounds) row column → ⊥

-- no number of the task is wide, and no step has more candidates than the budget
abbrev pub IsNarrow : Task → Budgets → NetLists → Type 0
IsNarrow tasks.Places budgets net = NoStepFails (incidence_of (net_of net)) budgets.rows
IsNarrow tasks.Transitions budgets net = NoStepFails (transposed (incidence_of (net_of net))) budgets.rows
IsNarrow tasks.Bounds budgets net = NoStepFails (incidence_of (net_of net)) budgets.rows × NoBoundIsWide (net_of net)
IsNarrow tasks.CertBounds budgets net =
    NoStepFails (incidence_of (net_of net)) budgets.rows × NoBoundIsWide (net_of net) × NoCheckIsWide (net_of net)
IsNarrow tasks.Sub budgets net = NoStepFails (extended_of (net_of net)) budgets.rows
IsNarrow _ budgets net = Unit

-- the sets that the task's search meets are no more than the limit
abbrev pub IsFew : Task → Budgets → NetLists → Type 0
IsFew tasks.Siphons budgets net = HasAtMostGrown (net_of net) budgets.sets
IsFew tasks.Traps budgets net = HasAtMostGrownTraps (net_of net) budgets.sets
IsFew tasks.Commoner budgets net = HasAtMostGrown (net_of net) budgets.sets
IsFew tasks.CertCommoner budgets net = HasAtMostGrown (net_of net) budgets.sets
IsFew tasks.Live budgets net = IsAsked (net_of net) → HasAtMostGrown (net_of net) budgets.sets
IsFew _ budgets net = Unit

-- the bytes after the document are what the task asks for: for `verify` a certificate that the net accepts, for
-- `resume` pending classes of the net, for `replay` a firing list that fires within range
abbrev pub IsFollowed : Task → NetLists → List ℕ → Type 0
IsFollowed tasks.Verify net rest = (certificate : Certificate) × Spells certificate rest × IsAccepted (net_of net) certificate
IsFollowed tasks.Resume net rest = (classes : List Branch) × ReadsPending (net_of net).places rest classes
IsFollowed tasks.Replay net rest =
    (ts : List ℕ) × ListsFirings (net_of net) (transition_id net) rest ts × FiresWithinRange (net_of net) ts
IsFollowed _ net rest = Unit

-- the status is 0, and the text of the order for the input was written
pub record WritesText (order : Order) (input : List ℕ) (out out' : Device) (status : ℕ) : Type 0 where
  pub text : List ℕ
  pub comes : Outcome order input 0 text
  pub done : status ≡ 0
  pub written : Appends out.bytes out'.bytes text

-- where the words mean a task, no device fails and the source tells a short input, whose net k is narrow and
-- has few sets, and what follows the document is as the task asks, the defined text is written, or memory was
-- refused
abbrev pub QuietTasksComplete : Type 0
QuietTasksComplete =
    (words : List (List ℕ)) (task : Task) (k : ℕ) (budgets : Budgets) (source source' out out' err err' : Device) (status : ℕ)
    (input : List ℕ) (document : Document) (net : NetLists)
    → HasRun words source source' out out' err err' status → Means words (Run task k budgets)
    → IsQuiet source source' → IsQuiet out out' → source.bytes ≡ Some input → IsShort task input document
    → Flat document k net → IsNarrow task budgets net → IsFew task budgets net → IsFollowed task net (rest_of task input)
    → WritesText (Run task k budgets) input out out' status ⊎ (status ≡ 10)

-- `sample` needs neither a quiet source nor a short input, but that its net is narrow and has few sets
abbrev pub QuietSamplesComplete : Type 0
QuietSamplesComplete =
    (words : List (List ℕ)) (n : ℕ) (source source' out out' err err' : Device) (status : ℕ) (input : List ℕ) (net : NetLists)
    → HasRun words source source' out out' err err' status → Means words (Sample n) → IsQuiet out out' → Flat (sample_document n) 1 net
    → AllByRecursion (λ task. IsNarrow task default_budgets net × IsFew task default_budgets net) sample_tasks
    → WritesText (Sample n) input out out' status ⊎ (status ≡ 10)

abbrev pub QuietRunsComplete : Type 0
QuietRunsComplete = QuietTasksComplete × QuietSamplesComplete
