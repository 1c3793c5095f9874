use Rattle.std.proofs.Common.{ℕ, ◌<◌, slice_index}
use Rattle.net_values.specs.FlatNets.{net_of}
use Rattle.incidence.specs.Matrix.{AreNarrow, incidence_of}
use Rattle.cert_make.proofs.flows.first_wide_column.Given as goal

abbrev pub invariant-loop-column : goal.invariant-loop-column
invariant-loop-column l = (t : ℕ) → t < l.column → AreNarrow (incidence_of (net_of l.net)) t (slice_index l.y)
