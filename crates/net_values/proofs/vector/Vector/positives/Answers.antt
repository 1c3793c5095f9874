use Rattle.std.proofs.Common.{◌≡◌, ◌∙◌, ap, length, arith}
use Rattle.net_values.specs.Vectors.{unpacked, positive_count}
use Rattle.net_values.proofs.PackedPlaces.{count_is}
use Rattle.net_values.proofs.vector.Vector.positives.Goals as goal

pub returns : goal.returns
returns c =
    let size : c.self.inside.numbers.len ≡ length c.self.inside.numbers.items = omega (arith, c.self.inside.numbers.ok.0) in
    c.len.ensures ∙ size
    ∙ count_is (unpacked c.self.inside.support c.self.inside.numbers.items) c.self.inside.support c.self.inside.numbers.items c.self.invariant.kept
    ∙ ap positive_count c.self.view_is
