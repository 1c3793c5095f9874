use Rattle.std.proofs.Common.{◌≡◌, ◌∙◌, [], ap, length, arith}
use Rattle.std.proofs.lemmas.Bool.{false≢true}
use Rattle.net_values.specs.FlatNets.{net_of}
use Rattle.cert_make.proofs.GrowingTrees.{empty_from, one_class, passes_limit, whole_met, whole_tree}
use Rattle.cert_make.proofs.TreeMaking.{tree_accepted, tree_formed}
use Rattle.cert_make.proofs.commoner.commoner_certificate.Goals as goal

pub siphons-init : goal.siphons-init
siphons-init c =
    let none : length c.in_ok-tree.tree.met ≡ 0 = ap length c.in_ok-tree.ensures.met in
    record { underway = c.in_ok-tree.ensures.underway; few = omega (arith, none); left = c.in_ok-tree.ensures.left }

pub descend-requires-clause-places : goal.descend-requires-clause-places
descend-requires-clause-places c = c.in_ok-tree.ensures.places

pub descend-requires-clause-underway : goal.descend-requires-clause-underway
descend-requires-clause-underway c =
    one_class (net_of c.args.net.now) c.siphons.tree.classes c.pop.new.self c.in-Some.class c.siphons.tree.lines c.siphons.tree.met c.in-Some.ensures.last c.siphons.invariant.underway

pub descend-requires-clause-left : goal.descend-requires-clause-left
descend-requires-clause-left c = c.siphons.invariant.left

pub returns-then-len-sets-clause-fault : goal.returns-then-len-sets-clause-fault
returns-then-len-sets-clause-fault c =
    passes_limit (net_of c.args.net.now) c.descend.new.self.classes c.descend.new.self.lines c.descend.new.self.met c.args.sets c.in_ok-descend.ensures.underway (omega (arith, c.in_ok-descend.ensures.met, c.siphons.invariant.few))

pub siphons-smaller : goal.siphons-smaller
siphons-smaller c = omega (arith, c.in_ok-descend.ensures.met, c.siphons.invariant.few)

pub siphons-preserved : goal.siphons-preserved
siphons-preserved c = record {
  underway = c.in_ok-descend.ensures.underway;
  few = omega (arith, c.in_ok-descend.ensures.met, c.siphons.invariant.few);
  left = c.in_ok-descend.ensures.left ∙ c.siphons.invariant.left;
}

pub returns-clause-well_formed : goal.returns-clause-well_formed
returns-clause-well_formed c =
    let none : c.siphons.tree.classes ≡ [] = empty_from c.siphons.tree.classes (λ some. false≢true (c.in_default.ensures.some.1 some)) in
    tree_formed (net_of c.args.net.now) c.siphons.tree.lines (whole_tree (net_of c.args.net.now) c.siphons.tree.classes c.siphons.tree.lines c.siphons.tree.met c.siphons.invariant.underway none)

pub returns-clause-accepted : goal.returns-clause-accepted
returns-clause-accepted c =
    let none : c.siphons.tree.classes ≡ [] = empty_from c.siphons.tree.classes (λ some. false≢true (c.in_default.ensures.some.1 some)) in
    tree_accepted (net_of c.args.net.now) c.siphons.tree.lines (whole_tree (net_of c.args.net.now) c.siphons.tree.classes c.siphons.tree.lines c.siphons.tree.met c.siphons.invariant.underway none)

pub returns-clause-few : goal.returns-clause-few
returns-clause-few c =
    let none : c.siphons.tree.classes ≡ [] = empty_from c.siphons.tree.classes (λ some. false≢true (c.in_default.ensures.some.1 some)) in
    whole_met (net_of c.args.net.now) c.siphons.tree.classes c.siphons.tree.lines c.siphons.tree.met c.siphons.invariant.underway none c.args.sets c.siphons.invariant.few
