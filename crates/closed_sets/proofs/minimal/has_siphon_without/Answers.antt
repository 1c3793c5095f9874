use Rattle.std.proofs.Common.{◌≡◌, ◌∙◌, subst, List, Bool, false, length, set, length-set}
use Rattle.std.proofs.lemmas.Bool.{both_ways}
use Rattle.net_values.specs.FlatNets.{net_of}
use Rattle.closed_sets.specs.Falling.{LosesGuarded, Settles}
use Rattle.closed_sets.proofs.SmallerSiphons.{without_exact, none_guarded}
use Rattle.closed_sets.proofs.minimal.has_siphon_without.Goals as goal

pub returns-then-leave_out-clause-exact : goal.returns-then-leave_out-clause-exact
returns-then-leave_out-clause-exact c =
    let net = net_of c.args.net.now in
    let members = c.args.set.now in
    let found = c.leave_out.new.set in
    let same : length (set members c.args.p false) ≡ length members = simp length-set in
    let settles : Settles net c.args.guard (set members c.args.p false) found = subst (λ (s : List Bool). Settles net c.args.guard (set s c.args.p false) found) c.copy_from.ensures c.if-leave_out.ensures.left in
    without_exact net members c.args.p c.requires.set c.requires.place found c.is_empty.result (settles.size ∙ same ∙ c.requires.set) settles.greatest c.is_empty.ensures

pub returns-else-leave_out-clause-exact : goal.returns-else-leave_out-clause-exact
returns-else-leave_out-clause-exact c =
    let net = net_of c.args.net.now in
    let members = c.args.set.now in
    let loses : LosesGuarded net c.args.guard (set members c.args.p false) = subst (λ (s : List Bool). LosesGuarded net c.args.guard (set s c.args.p false)) c.copy_from.ensures c.if-leave_out.ensures.left in (
      λ never. absurd (both_ways c.leave_out.result c.if-leave_out.false never),
      λ smaller. absurd (none_guarded net c.args.guard members c.args.p c.requires.set c.requires.place loses c.requires.guarded smaller),
    )
