-- The bytes read so far were taken, and no fault was counted.
use Rattle.std.proofs.Common.{◌+◌, ◌-◌, length}
use Rattle.net_values.specs.declared.limits.TheConstants.{MAX_INPUT_BYTES}
use Rattle.struct_core.specs.Run.{device}
use Rattle.struct_core.proofs.InputReads.{HasReadOn}
use Rattle.struct_core.proofs.reading.read_input.Given as goal

abbrev pub invariant-pieces : goal.invariant-pieces
invariant-pieces g l =
    HasReadOn l.fn.task (device (g.S.Source.left l.initial.source) (g.S.Source.faults l.initial.source))
    (device (g.S.Source.left l.source) (g.S.Source.faults l.source)) l.intake l.taken (length l.buffer)

abbrev pub decreases-pieces : goal.decreases-pieces
decreases-pieces g l = MAX_INPUT_BYTES + 1 - l.taken
