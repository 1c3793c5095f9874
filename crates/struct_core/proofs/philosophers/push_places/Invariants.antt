use Rattle.std.proofs.Common.{◌≡◌, ◌++◌, map}
use Rattle.std.specs.List.{range_with_len}
use Rattle.struct_core.specs.Sample.{place}
use Rattle.struct_core.proofs.philosophers.push_places.Given as goal

abbrev pub invariant-loop-i : goal.invariant-loop-i
invariant-loop-i l = l.items ≡ l.fn.items ++ map (place l.word l.initial') (range_with_len 0 l.i)
