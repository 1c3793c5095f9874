use Rattle.std.proofs.Common.{◌≡◌, ◌<◌, ◌^◌, All, take}
use Rattle.net_values.specs.FlatNets.{initial_marking}
use Rattle.net_values.proofs.marking.Marking.initial.Given as goal

abbrev pub invariant-loop-p : goal.invariant-loop-p
invariant-loop-p l = (l.counts.items ≡ take l.p (initial_marking l.net)) × All (λ count. count < 2 ^ 127) l.counts.items
