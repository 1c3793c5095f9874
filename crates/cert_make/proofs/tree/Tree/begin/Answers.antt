use Rattle.std.proofs.Common.{◌∙◌, ap, subst, MatchOption, Option}
use Rattle.std.proofs.lemmas.Result.{on_ok_weaker}
use Rattle.net_values.specs.FlatNets.{net_of}
use Rattle.siphon_branch.specs.declared.live_class.LiveClass.{LiveClass}
use Rattle.siphon_branch.specs.Classes.{every_set}
use Rattle.siphon_branch.specs.LiveClasses.{IsDead, IsLiveOf}
use Rattle.cert_make.proofs.GrowingTrees.{begins_live, begins_dead}
use Rattle.cert_make.proofs.tree.Tree.begin.Goals as goal

pub returns-in-Some-clause-underway : goal.returns-in-Some-clause-underway
returns-in-Some-clause-underway c =
    let all = c.in_ok-all.ensures ∙ ap every_set c.places.ensures.value in
    let nothing = c.requires.nothing in
    let net = net_of c.args.net.now in
    let live : IsLiveOf net c.in_ok-all.all c.in-Some.class = subst (λ (found : Option LiveClass). MatchOption found (IsDead net c.in_ok-all.all) (IsLiveOf net c.in_ok-all.all)) c.in-Some.is c.in_ok-class.ensures in
    on_ok_weaker c.push.result
    (λ pushed. begins_live net c.in_ok-all.all all c.in-Some.class live c.args.self.now.classes c.push.new.self c.args.self.now.lines c.args.self.now.met nothing.classes pushed nothing.lines nothing.met)
    c.push.ensures.ok

pub returns-clause-underway : goal.returns-clause-underway
returns-clause-underway c =
    let all = c.in_ok-all.ensures ∙ ap every_set c.places.ensures.value in
    let nothing = c.requires.nothing in
    let net = net_of c.args.net.now in
    let dead : IsDead net c.in_ok-all.all = subst (λ (found : Option LiveClass). MatchOption found (IsDead net c.in_ok-all.all) (IsLiveOf net c.in_ok-all.all)) c.in-None.is c.in_ok-class.ensures in
    on_ok_weaker c.push-in-None.result
    (λ pushed. begins_dead net c.in_ok-all.all all dead c.args.self.now.classes c.args.self.now.lines c.push-in-None.new.self c.args.self.now.met nothing.classes nothing.lines pushed nothing.met)
    c.push-in-None.ensures.ok
