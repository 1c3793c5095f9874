use Rattle.std.proofs.Common.{◌≡◌, ◌∙◌, true, sym, arith}
use Rattle.net_values.specs.PlaceSets.{has}
use Rattle.net_values.proofs.PackedPlaces.{index_below, number_here, number_narrow, held}
use Rattle.net_values.proofs.vector.Vector.entry_at.Goals as goal

pub index-requires : goal.index-requires
index-requires c =
    let kept = held _ _ _ _ c.self.invariant c.self.view_is in
    let is : has c.self.inside.support c.args.i ≡ true = sym c.contains.ensures ∙ c.if-contains.true in
    omega (arith, c.self.inside.numbers.ok.0, index_below _ _ _ kept _ _ c.count_below.ensures is)

pub returns-then-contains-clause-value : goal.returns-then-contains-clause-value
returns-then-contains-clause-value c =
    let kept = held _ _ _ _ c.self.invariant c.self.view_is in
    let is : has c.self.inside.support c.args.i ≡ true = sym c.contains.ensures ∙ c.if-contains.true in
    c.index.ensures ∙ number_here _ _ _ kept _ _ c.count_below.ensures c.index.result.now is

pub returns-then-contains-clause-bound : goal.returns-then-contains-clause-bound
returns-then-contains-clause-bound c =
    let kept = held _ _ _ _ c.self.invariant c.self.view_is in
    let is : has c.self.inside.support c.args.i ≡ true = sym c.contains.ensures ∙ c.if-contains.true in
    omega (arith, c.index.ensures, number_narrow _ _ _ kept _ _ c.count_below.ensures c.index.result.now c.requires is)
