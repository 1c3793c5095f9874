use Rattle.std.proofs.Common.{rules}
use Rattle.std.proofs.lemmas.Int.{to_z-of_z}
use mir.Syntax.{w128}
use mir.Val.{SFits}
use Rattle.struct_core.proofs.Greatest.{greatest_none, greatest_more}
use Rattle.struct_core.proofs.sample.greatest.Goals as goal

pub loop-p-init : goal.loop-p-init
loop-p-init c = greatest_none _

pub loop-p-preserved : goal.loop-p-preserved
loop-p-preserved c =
    let fits : SFits w128 c.greater-greatest.result = search (rules, c.greater-greatest.type_inv) in
    rw (to_z-of_z w128 c.greater-greatest.result fits) (greatest_more _ _ _ _ _ c.get.ensures c.greater-greatest.ensures c.loop-p.invariant)
