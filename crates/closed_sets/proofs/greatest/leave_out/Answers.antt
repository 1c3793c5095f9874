use Rattle.std.proofs.Common.{◌≡◌, ◌∙◌, ◌++◌, ◌∷◌, [], ap, ℕ, List, Bool, IsTrue, arith, rules}
use Rattle.std.proofs.lemmas.List.Sums.{count_by-le-length}
use Rattle.net_values.specs.FlatNets.{net_of}
use Rattle.net_values.specs.PlaceSets.{has}
use Rattle.closed_sets.proofs.Settling.{falling_one}
use Rattle.closed_sets.proofs.greatest.leave_out.Goals as goal

pub propagate-requires-clause-falling : goal.propagate-requires-clause-falling
propagate-requires-clause-falling c =
    let net = net_of c.args.net.now in
    let member : IsTrue (has c.args.set.now c.args.p) = search rules in
    let list : c.push.new.self ≡ c.args.p ∷ [] = c.push.ensures ∙ ap (λ (l : List ℕ). l ++ c.args.p ∷ []) c.clear.ensures in
    rw (c.remove.ensures, list)
    (falling_one net c.args.guard c.args.set.now c.args.p c.requires.size (omega (arith, c.places.ensures.limits.places)) (count_by-le-length (λ (b : Bool). b) c.args.set.now) c.requires.siphon member)
