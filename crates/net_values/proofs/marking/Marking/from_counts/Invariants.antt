use Rattle.std.proofs.Common.{◌≡◌, ◌<◌, ◌^◌, All, take, map}
use Rattle.net_values.specs.Vectors.{positive_part}
use Rattle.net_values.proofs.marking.Marking.from_counts.Given as goal

abbrev pub invariant-loop-count : goal.invariant-loop-count
invariant-loop-count l = (l.copies.items ≡ map positive_part (take l.count-index l.counts)) × All (λ count. count < 2 ^ 127) l.copies.items
