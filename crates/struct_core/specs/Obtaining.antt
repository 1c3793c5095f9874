-- What became of an order's text before it is written. Only proofs rest on these words.
use Rattle.std.specs.Prelude.{◌≡◌, ℕ, List}
use Rattle.net_values.specs.declared.limits.TheConstants.{MAX_INPUT_BYTES}
use Rattle.pnml_source.specs.Streams.{TakesAtMost}
use Rattle.report.specs.declared.refusal.Refusal.{Refusal}
use Rattle.report.specs.Refusals.{status_of, line_of}
use Rattle.struct_core.specs.declared.intake.Intake.{Intake}
use Rattle.struct_core.specs.declared.order.Budgets.{Budgets}
use Rattle.struct_core.specs.declared.order.Order.{Order}
use Rattle.struct_core.specs.declared.order.Order.TheVariants.{Run}
use Rattle.struct_core.specs.declared.order.Task.{Task}
use Rattle.struct_core.specs.Words.{Means}
use Rattle.struct_core.specs.Outcome.{Outcome}
use Rattle.struct_core.specs.Intaking.{HasTaken}
use Rattle.struct_core.specs.Run.{Device, IsReadWhole, ReadsFor, Ran}

-- what the order reads was read, without a fault
pub record HasRead (order : Order) (source source' : Device) (input : List ℕ) : Type 0 where
  pub reads : ReadsFor order source source' input
  pub taken : TakesAtMost source.bytes source'.bytes MAX_INPUT_BYTES
  pub kept : source'.faults ≡ source.faults

-- the input of a task was read whole, without a fault, and this was taken of it
pub record HasTakenAll (task : Task) (source source' : Device) (intake : Intake) : Type 0 where
  pub input : List ℕ
  pub read : IsReadWhole source source' input
  pub kept : source'.faults ≡ source.faults
  pub taken : HasTaken task intake input

-- and it has this text
pub record HasText (order : Order) (source source' : Device) (text : List ℕ) : Type 0 where
  pub input : List ℕ
  pub read : HasRead order source source' input
  pub outcome : Outcome order input 0 text

-- each run of words that mean the order ends by the refusal, with nothing written
abbrev pub EndsBy : Order → Device → Device → Refusal → Type 0
EndsBy order source source' refusal =
    (words : List (List ℕ)) (out : Device) → Means words order → Ran words source source' out out (status_of refusal) (line_of refusal)

-- and so for whichever net and budgets the task is asked
abbrev pub StopsBy : Task → Device → Device → Refusal → Type 0
StopsBy task source source' refusal = (k : ℕ) (budgets : Budgets) → EndsBy (Run task k budgets) source source' refusal
