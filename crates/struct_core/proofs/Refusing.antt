-- A fault of a call is a refusal that its outcome tells.
use Rattle.std.proofs.Common.{◌≡◌, ◌≤◌, ℕ, suc, List, length, refl, sym, subst, arith, inl, inr, IfOk}
use Rattle.std.specs.Prelude.{Result, Ok, Err, IfErr}
use Rattle.net_values.specs.declared.document.Document.{Document as Read}
use Rattle.net_values.specs.FlatNets.{NetLists}
use Rattle.pnml_grammar.specs.Documents.{DocBytes}
use Rattle.pnml_grammar.specs.FirstFault.{not_utf8, at, truncated}
use Rattle.page_flatten.specs.declared.fault.FlatFault.{FlatFault}
use Rattle.page_flatten.specs.declared.fault.FlatFault.TheVariants as rules
use Rattle.page_flatten.specs.Rules.{IsAnswered, BreaksNoRule}
use Rattle.page_flatten.specs.Flat.{Flat, LacksNet}
use Rattle.page_flatten.proofs.Lists.{within}
use Rattle.pnml_decode.specs.declared.fault.DocFault.{DocFault}
use Rattle.pnml_decode.specs.declared.fault.DocFault.TheVariants as documents
use Rattle.pnml_decode.specs.Faults.{NamesFirstFault}
use Rattle.struct_core.specs.declared.order.Task.{Task}
use Rattle.struct_core.specs.declared.order.Budgets.{Budgets}
use Rattle.struct_core.specs.declared.order.Order.TheVariants.{Run}
use Rattle.report.specs.declared.refusal.Refusal.{Refusal}
use Rattle.report.specs.declared.refusal.Refusal.TheVariants.{Document, Rule}
use Rattle.struct_core.specs.Inputs.{front_of, rest_of}
use Rattle.struct_core.specs.Outcome.{Outcome, TaskOutcome, no_document, broken, no_net, answer}
use Rattle.struct_core.specs.Answers.{FailsWith, IsRefusedNet}
use Rattle.struct_core.proofs.Listing.{fails_so}

pub document_refused : (task : Task) (k : ℕ) (budgets : Budgets) (bytes : List ℕ) (fault : DocFault) → NamesFirstFault fault (front_of task bytes)
    → FailsWith (Outcome (Run task k budgets) bytes) (Document fault)
document_refused task k budgets bytes documents.NoMemory is = inl record { status = refl; line = refl }
document_refused task k budgets bytes (documents.NotUtf8 offset) is =
    inr record { low = omega arith; not_usage = λ is. omega (arith, is); high = omega arith; outcome = no_document task k budgets bytes (not_utf8 offset) is }
document_refused task k budgets bytes (documents.At offset reason) is =
    inr record { low = omega arith; not_usage = λ is. omega (arith, is); high = omega arith; outcome = no_document task k budgets bytes (at offset reason) is }
document_refused task k budgets bytes (documents.Truncated length) is =
    inr record { low = omega arith; not_usage = λ is. omega (arith, is); high = omega arith; outcome = no_document task k budgets bytes (truncated length) is }

-- a document that ends before net k lacks it
lacks : (document : Read) (k n : ℕ) → k ≡ suc n → length document.nets ≤ n → LacksNet document k
lacks document k n same few = subst (LacksNet document) (sym same) (λ tree at. omega (arith, within document.nets n tree at, few))

rule_fails : (task : Task) (k : ℕ) (budgets : Budgets) (bytes : List ℕ) (document : Read) (fault : FlatFault) (n : ℕ)
    → DocBytes document (front_of task bytes) → k ≡ suc n → IsAnswered document n fault → FailsWith (Outcome (Run task k budgets) bytes) (Rule k fault)
rule_fails task k budgets bytes document rules.NoMemory n spelled same is = inl record { status = refl; line = refl }
rule_fails task k budgets bytes document (rules.DuplicateId id) n spelled same is =
    inr record { low = omega arith; not_usage = λ is. omega (arith, is); high = omega arith; outcome = broken task k budgets bytes document (rules.DuplicateId id) spelled is }
rule_fails task k budgets bytes document (rules.UnknownId id by) n spelled same is =
    inr record { low = omega arith; not_usage = λ is. omega (arith, is); high = omega arith; outcome = broken task k budgets bytes document (rules.UnknownId id by) spelled is }
rule_fails task k budgets bytes document (rules.RefKind id) n spelled same is =
    inr record { low = omega arith; not_usage = λ is. omega (arith, is); high = omega arith; outcome = broken task k budgets bytes document (rules.RefKind id) spelled is }
rule_fails task k budgets bytes document (rules.RefCycle id) n spelled same is =
    inr record { low = omega arith; not_usage = λ is. omega (arith, is); high = omega arith; outcome = broken task k budgets bytes document (rules.RefCycle id) spelled is }
rule_fails task k budgets bytes document (rules.ArcEnds id) n spelled same is =
    inr record { low = omega arith; not_usage = λ is. omega (arith, is); high = omega arith; outcome = broken task k budgets bytes document (rules.ArcEnds id) spelled is }
rule_fails task k budgets bytes document (rules.NoNet count) n spelled same is = inr record {
  low = omega arith;
  not_usage = λ is. omega (arith, is);
  high = omega arith;
  outcome = no_net task k budgets bytes document (record { spelled = spelled; rules = is.0 }) (lacks document k n same is.2);
}

pub rules_broken : (task : Task) (k : ℕ) (budgets : Budgets) (bytes : List ℕ) (document : Read) (refusal : Refusal)
    → DocBytes document (front_of task bytes) → IsRefusedNet document k refusal → FailsWith (Outcome (Run task k budgets) bytes) refusal
rules_broken task k budgets bytes document refusal spelled is =
    subst (FailsWith (Outcome (Run task k budgets) bytes)) (sym is.1) (rule_fails task k budgets bytes document is.0 is.2 spelled is.3 is.4)

-- what holds of a value, or of a fault, gives what follows from it
pub if_ok : {T E : Type 0} {P Q : T → Type 0} (result : Result T E) → ((value : T) → P value → Q value) → IfOk result P → IfOk result Q
if_ok (Ok value) so is = so value is
if_ok (Err fault) so is = tt

pub if_err : {T E : Type 0} {P Q : E → Type 0} (result : Result T E) → ((fault : E) → P fault → Q fault) → IfErr result P → IfErr result Q
if_err (Ok value) so is = tt
if_err (Err fault) so is = so fault is

-- the answer of the task is the outcome, and so is a refusal of the task
module _ (task : Task) (k : ℕ) (budgets : Budgets) (bytes rest : List ℕ) (document : Read) (net : NetLists)
    (rest_is : rest ≡ rest_of task bytes) (spelled : DocBytes document (front_of task bytes))
    (flat : BreaksNoRule document × Flat document k net) where
  pub task_answers : (status : ℕ) (text : List ℕ) → TaskOutcome task budgets document net rest status text → Outcome (Run task k budgets) bytes status text
  task_answers status text is =
      answer task k budgets bytes document net status text (record { spelled = spelled; rules = flat.0 }) flat.1
      (subst (λ (r : List ℕ). TaskOutcome task budgets document net r status text) rest_is is)

  pub task_fails : (refusal : Refusal) → FailsWith (TaskOutcome task budgets document net rest) refusal → FailsWith (Outcome (Run task k budgets) bytes) refusal
  task_fails refusal = fails_so _ _ refusal task_answers
