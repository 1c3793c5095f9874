use Rattle.std.proofs.Common.{◌≡◌, ◌∙◌, sym, subst, List, Bool, length}
use Rattle.net_values.specs.FlatNets.{net_of}
use Rattle.closed_sets.specs.Kept.{KeepsWithout, LosesWithout}
use Rattle.siphon_branch.proofs.HeldClasses.{dead_lost, part_decided}
use Rattle.siphon_branch.proofs.live_class.LiveClass.is_live_without.Goals as goal

pub returns-then-not-keeps_without-clause-part : goal.returns-then-not-keeps_without-clause-part
returns-then-not-keeps_without-clause-part c =
    let class = c.args.self.now in
    dead_lost (net_of c.args.net.now) class c.requires.held c.args.p c.requires.next
    (subst (λ (s : List Bool). LosesWithout (net_of c.args.net.now) class.contains c.args.p s) c.copy_from.ensures c.if-not-keeps_without.ensures.left)

pub returns-clause-part : goal.returns-clause-part
returns-clause-part c =
    let net = net_of c.args.net.now in
    let class = c.args.self.now in
    let found = c.keeps_without.new.set in
    let size : length found ≡ net.places = c.keeps_without.ensures.size ∙ subst (λ (s : List Bool). length s ≡ net.places) (sym c.copy_from.ensures) c.requires.held.room in
    part_decided net class c.requires.held c.args.p c.requires.next found c.is_empty.result size
    (subst (λ (s : List Bool). KeepsWithout net class.contains c.args.p s found) c.copy_from.ensures c.if-not-keeps_without.ensures.left) c.is_empty.ensures
