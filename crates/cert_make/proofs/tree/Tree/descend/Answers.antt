use Rattle.std.proofs.Common.{refl, ap, ◌∙◌, length, arith}
use Rattle.std.proofs.lemmas.List.{length_push}
use Rattle.std.proofs.lemmas.Result.{on_ok_weaker}
use Rattle.net_values.specs.FlatNets.{net_of}
use Rattle.cert_make.proofs.GrowingTrees.{in_hand, leaf_met, sizes_met}
use Rattle.cert_make.proofs.tree.Tree.descend.Goals as goal

pub class-init : goal.class-init
class-init c = record { underway = c.requires.underway; met = refl; left = refl }

pub next_place-requires : goal.next_place-requires
next_place-requires c = in_hand (net_of c.args.net.now) c.class.self.classes c.class.class c.class.self.lines c.class.self.met c.class.invariant.underway

pub part-requires-clause-underway : goal.part-requires-clause-underway
part-requires-clause-underway c = c.class.invariant.underway

pub part-requires-clause-left : goal.part-requires-clause-left
part-requires-clause-left c = c.class.invariant.left ∙ c.requires.left

pub returns-in_err-class-clause-left : goal.returns-in_err-class-clause-left
returns-in_err-class-clause-left c = c.in_err-class.ensures.left ∙ c.class.invariant.left

pub class-smaller : goal.class-smaller
class-smaller c = c.in_ok-class.ensures.less

pub class-preserved : goal.class-preserved
class-preserved c = record {
  underway = c.in_ok-class.ensures.underway;
  met = c.in_ok-class.ensures.met ∙ c.class.invariant.met;
  left = c.in_ok-class.ensures.left ∙ c.class.invariant.left;
}

pub returns-in_err-push-clause-left : goal.returns-in_err-push-clause-left
returns-in_err-push-clause-left c = c.class.invariant.left

pub push-requires-2 : goal.push-requires-2
push-requires-2 c = sizes_met (net_of c.args.net.now) c.class.self.classes c.class.class c.class.self.lines c.class.self.met c.class.invariant.underway

pub returns-clause-underway : goal.returns-clause-underway
returns-clause-underway c =
    on_ok_weaker c.push-2.result
    (leaf_met (net_of c.args.net.now) c.class.self.classes c.class.class c.class.self.lines c.class.self.met c.class.invariant.underway c.requires.commoner c.in_default.ensures c.push.new.self c.push-2.new.self c.in_ok-push.ensures.ok)
    c.push-2.ensures.ok

pub returns-clause-met : goal.returns-clause-met
returns-clause-met c =
    on_ok_weaker c.push-2.result (λ pushed. omega (arith, ap length pushed, length_push c.class.self.met c.class.class.contains, ap length c.class.invariant.met)) c.push-2.ensures.ok

pub returns-clause-left : goal.returns-clause-left
returns-clause-left c = c.class.invariant.left
