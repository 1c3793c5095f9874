use Rattle.std.proofs.Common.{ℕ, replicate, arith}
use Rattle.std.proofs.lemmas.List.{length-replicate}
use Rattle.net_values.proofs.PackedPlaces.{zeros_kept, stored, shown}
use Rattle.net_values.proofs.vector.Vector.zeros.Goals as goal

pub invariant_of-result : goal.invariant_of-result
invariant_of-result c =
    let size = length-replicate {A = ℕ} c.args.length 0 in
    let room = c.in_ok-with_capacity.ensures.capacity in
    stored (replicate c.args.length 0) _ _ _ _ c.in_ok-new.ensures c.in_ok-with_capacity.ensures.items (zeros_kept c.args.length c.requires) _ (omega arith)

pub returns : goal.returns
returns c = shown (replicate c.args.length 0) _ _ _ _ c.in_ok-new.ensures c.in_ok-with_capacity.ensures.items (zeros_kept c.args.length c.requires)
