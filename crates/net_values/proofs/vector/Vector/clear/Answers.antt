use Rattle.std.proofs.Common.{◌∙◌, ℕ, ap, sym, length, replicate, arith}
use Rattle.std.proofs.lemmas.List.{length-replicate}
use Rattle.net_values.proofs.Packed.{unpacked_size}
use Rattle.net_values.proofs.PackedPlaces.{zeros_kept, stored, shown, short_support}
use Rattle.net_values.proofs.vector.Vector.clear.Goals as goal

pub invariant_of-self : goal.invariant_of-self
invariant_of-self c =
    let none = zeros_kept (length c.self.inside.support) (short_support _ _ _ c.self.invariant) in
    let count = length-replicate {A = ℕ} (length c.self.inside.support) 0 in
    stored _ _ _ _ _ c.clear-2.ensures c.clear.ensures.items none _ (omega (arith, c.clear.ensures.capacity, c.self.invariant.enough))

pub returns : goal.returns
returns c =
    let none = zeros_kept (length c.self.inside.support) (short_support _ _ _ c.self.invariant) in
    shown _ _ _ _ _ c.clear-2.ensures c.clear.ensures.items none
    ∙ ap (λ (n : ℕ). replicate {A = ℕ} n 0) (sym (unpacked_size c.self.inside.support c.self.inside.numbers.items) ∙ ap length c.self.view_is)
