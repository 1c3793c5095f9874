use Rattle.std.proofs.Common.{◌<◌, ◌≤◌, sym, subst, List, [], AllPairs, length, arith}
use Rattle.net_values.specs.FlatNets.{net_of}
use Rattle.siphon_branch.specs.declared.branch.Branch.{Branch}
use Rattle.siphon_branch.specs.declared.live_class.LiveClass.{LiveClass}
use Rattle.siphon_branch.specs.Classes.{AreDisjoint}
use Rattle.siphon_branch.specs.Held.{IsUnderway}
use Rattle.siphon_branch.proofs.Beginning.{IsBeginning, beginning_none, beginning_more, beginning_all}
use Rattle.siphon_branch.proofs.stack.live_classes.Goals as goal

pub loop-class-init : goal.loop-class-init
loop-class-init c =
    let net = net_of c.args.net.now in
    subst (λ (classes : List LiveClass). IsBeginning net c.as_slice-branches.result.now 0 classes) (sym c.new-classes.ensures) (beginning_none net c.as_slice-branches.result.now)

pub loop-class-preserved : goal.loop-class-preserved
loop-class-preserved c =
    let branches = c.as_slice-branches.result.now in
    let within : c.loop-class.class-index < length branches = omega arith in
    let disjoint : AllPairs AreDisjoint branches = subst (λ (xs : List Branch). AllPairs AreDisjoint xs) (sym c.as_slice-branches.ensures) c.requires.disjoint in
    beginning_more (net_of c.args.net.now) branches c.loop-class.class-index c.class-item.result c.loop-class.classes c.keep_live.new.classes disjoint within c.class-item.is c.in_ok-keep_live.ensures c.loop-class.invariant

pub returns-clause-underway : goal.returns-clause-underway
returns-clause-underway c =
    let net = net_of c.args.net.now in
    let branches = c.as_slice-branches.result.now in
    let past : length branches ≤ c.loop-class.class-index = omega arith in
    subst (λ (xs : List Branch). IsUnderway net xs c.loop-class.classes [] []) c.as_slice-branches.ensures (beginning_all net branches c.loop-class.class-index c.loop-class.classes past c.loop-class.invariant)
