use Rattle.std.proofs.Common.{◌≡◌, ◌&&◌, ◌||◌, sym, subst, ℕ, List, Bool, not, ltb}
use Rattle.net_values.specs.FlatNets.{net_of}
use Rattle.net_values.specs.PlaceSets.{has}
use Rattle.closed_sets.specs.ClosedSets.{has_input_in}
use Rattle.closed_sets.specs.Opens.{AreOpen}
use Rattle.closed_sets.proofs.OpenSets.{open_more}
use Rattle.closed_sets.proofs.opens.add_place.Goals as goal

pub returns-clause-open : goal.returns-clause-open
returns-clause-open c =
    let net = net_of c.args.net.now in
    let old = c.args.opens.now in
    let mid = c.open_givers.new.opens in
    let new = c.close_takers.new.opens in
    let p = c.args.p in
    subst (λ (s : List Bool). AreOpen net s new) (sym c.insert.ensures)
    (open_more net c.args.set.now old mid new p c.requires.size c.requires.place c.requires.open c.open_givers.ensures.size c.close_takers.ensures.size
    (subst (λ (s : List Bool). (t : ℕ) → has mid t ≡ (has old t || (ltb 0 (net.post p t) && not (has_input_in net (has s) t)))) c.insert.ensures c.open_givers.ensures.opened) c.close_takers.ensures.closed)
