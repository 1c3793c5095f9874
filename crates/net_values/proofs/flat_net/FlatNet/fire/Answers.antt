-- At a place of the net the new count is that of the marking after firing, and past the places all is 0.
use Rattle.std.proofs.Common.{◌≡◌, ℕ, ap, inl, inr, slice_index, List, arith}
use Rattle.std.proofs.lemmas.Bool.{cases_lt}
use Rattle.std.proofs.lemmas.List.{get_or_past}
use Rattle.net_values.specs.declared.column.WeightedPlace.{WeightedPlace}
use Rattle.net_values.specs.Columns.{weight_at}
use Rattle.net_values.specs.FlatNets.{net_of}
use Rattle.net_values.proofs.Lowest.{listed_within}
use Rattle.net_values.proofs.flat_net.FlatNet.fire.Goals as goal

pub put-requires-clause-narrow : goal.put-requires-clause-narrow
put-requires-clause-narrow c =
    let net = net_of c.args.self.now in
    λ p.
    let takes : weight_at c.inputs.result.now p ≡ net.pre p c.args.t = ap (λ (column : List WeightedPlace). weight_at column p) c.inputs.ensures.value in
    let gives : weight_at c.outputs.result.now p ≡ net.post p c.args.t = ap (λ (column : List WeightedPlace). weight_at column p) c.outputs.ensures.value in
    elim (cases_lt p net.places) [
      | inl within ↦ omega (arith, c.take.ensures.taken p, c.in_default-overflowing_place.ensures p within, c.in_default.ensures p within)
      | inr past ↦
          let nothing : slice_index c.take.new.self p ≡ 0 = get_or_past c.take.new.self p 0 (omega (arith, c.take.ensures.size)) in
          elim (cases_lt 0 (net.post p c.args.t)) [
            | inl some ↦ let within = listed_within net (λ (p : ℕ). net.post p c.args.t) _ c.outputs.ensures.lists p some in absurd (omega arith)
            | inr none ↦ omega arith
          ]
    ]
