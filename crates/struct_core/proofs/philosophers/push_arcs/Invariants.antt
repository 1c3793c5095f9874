use Rattle.std.proofs.Common.{◌≡◌, ◌++◌}
use Rattle.std.specs.List.{flat_map, range_with_len}
use Rattle.struct_core.specs.Sample.{arcs_of}
use Rattle.struct_core.proofs.philosophers.push_arcs.Given as goal

abbrev pub invariant-loop-i : goal.invariant-loop-i
invariant-loop-i l = l.items ≡ l.fn.items ++ flat_map (arcs_of l.n) (range_with_len 0 l.i)
