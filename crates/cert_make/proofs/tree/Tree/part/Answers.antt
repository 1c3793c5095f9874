use Rattle.std.proofs.Common.{subst, MatchOption, Option}
use Rattle.net_values.specs.FlatNets.{net_of}
use Rattle.siphon_branch.specs.declared.live_class.LiveClass.{LiveClass}
use Rattle.siphon_branch.specs.LiveClasses.{branch_of, IsDead, IsLiveOf, part_without}
use Rattle.cert_make.proofs.GrowingTrees.{in_hand, containing_less, dead_part, live_part, without_less}
use Rattle.cert_make.proofs.tree.Tree.part.Goals as goal

pub without-requires-clause-held : goal.without-requires-clause-held
without-requires-clause-held c = in_hand (net_of c.args.net.now) c.args.self.now.classes c.args.class c.args.self.now.lines c.args.self.now.met c.requires.underway

pub take-requires-clause-held : goal.take-requires-clause-held
take-requires-clause-held c = in_hand (net_of c.args.net.now) c.args.self.now.classes c.args.class c.args.self.now.lines c.args.self.now.met c.requires.underway

pub returns-in_default-clause-underway : goal.returns-in_default-clause-underway
returns-in_default-clause-underway c =
    let net = net_of c.args.net.now in
    let without = part_without (branch_of c.args.class) c.args.p in
    let dead : IsDead net without = subst (λ (found : Option LiveClass). MatchOption found (IsDead net without) (IsLiveOf net without)) c.in_default.is c.in_ok-without.ensures.part in
    dead_part (net_of c.args.net.now) c.args.self.now.classes c.args.class c.args.self.now.lines c.args.self.now.met c.requires.underway c.requires.places c.args.p c.requires.next c.push.new.self c.in_ok-push.ensures.ok
    c.take.new.self c.take.ensures.held c.take.ensures.contains c.take.ensures.avoids dead c.push-in_default.new.self c.in_ok-push-2.ensures.ok

pub returns-in_default-clause-less : goal.returns-in_default-clause-less
returns-in_default-clause-less c =
    containing_less (net_of c.args.net.now) c.args.self.now.classes c.args.class c.args.self.now.lines c.args.self.now.met c.requires.underway c.requires.places c.args.p c.requires.next c.push.new.self c.in_ok-push.ensures.ok
    c.take.new.self c.take.ensures.held c.take.ensures.contains c.take.ensures.avoids

pub returns-clause-underway : goal.returns-clause-underway
returns-clause-underway c =
    let net = net_of c.args.net.now in
    let without = part_without (branch_of c.args.class) c.args.p in
    let live : IsLiveOf net without c.in-Some.part = subst (λ (found : Option LiveClass). MatchOption found (IsDead net without) (IsLiveOf net without)) c.in-Some.is c.in_ok-without.ensures.part in
    live_part (net_of c.args.net.now) c.args.self.now.classes c.args.class c.args.self.now.lines c.args.self.now.met c.requires.underway c.requires.places c.args.p c.requires.next c.push.new.self c.in_ok-push.ensures.ok
    c.take.new.self c.take.ensures.held c.take.ensures.contains c.take.ensures.avoids c.in-Some.part live c.push-2.new.self c.in_ok-push-3.ensures.ok

pub returns-clause-less : goal.returns-clause-less
returns-clause-less c =
    let net = net_of c.args.net.now in
    let without = part_without (branch_of c.args.class) c.args.p in
    let live : IsLiveOf net without c.in-Some.part = subst (λ (found : Option LiveClass). MatchOption found (IsDead net without) (IsLiveOf net without)) c.in-Some.is c.in_ok-without.ensures.part in
    without_less (net_of c.args.net.now) c.args.self.now.classes c.args.class c.args.self.now.lines c.args.self.now.met c.requires.underway c.requires.places c.args.p c.requires.next c.push.new.self c.in_ok-push.ensures.ok
    c.take.new.self c.take.ensures.held c.take.ensures.contains c.take.ensures.avoids c.in-Some.part live
