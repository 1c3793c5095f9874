use Rattle.std.proofs.Common.{◌∙◌, sym, ap, subst, List, length, inr, All, arith}
use Rattle.std.proofs.lemmas.Bool.{false≢true}
use Rattle.std.proofs.lemmas.List.{append-nil}
use Rattle.net_values.specs.FlatNets.{net_of}
use Rattle.siphon_branch.specs.declared.live_class.LiveClass.{LiveClass}
use Rattle.siphon_branch.specs.Held.{IsSized, IsUnderway}
use Rattle.siphon_branch.proofs.Underway.{popped_none, walking_some, walking_more, last_held, met_sizes, found_sizes}
use Rattle.siphon_branch.proofs.walk.walk.Goals as goal

pub returns-in_default-clause-kept : goal.returns-in_default-clause-kept
returns-in_default-clause-kept c =
    λ origin underway.
    subst (λ (classes : List LiveClass). IsUnderway (net_of c.args.net.now) origin classes c.siphons.met c.siphons.found) (c.in_default.ensures.last ∙ append-nil c.pop.new.self)
    (c.siphons.invariant.0.kept origin underway)

pub returns-in_default-clause-ended : goal.returns-in_default-clause-ended
returns-in_default-clause-ended c = inr (popped_none c.siphons.classes c.pop.new.self c.in_default.ensures.last (λ some. false≢true (c.in_default.ensures.some.1 some)))

pub descend-requires-clause-held : goal.descend-requires-clause-held
descend-requires-clause-held c =
    let net = net_of c.args.net.now in
    last_held net c.siphons.classes c.pop.new.self c.in-Some.class c.siphons.met c.siphons.found c.in-Some.ensures.last
    (walking_some net c.args.classes.now c.siphons.classes c.args.met.now c.siphons.met c.args.found.now c.siphons.found c.siphons.scratch.left c.args.end c.siphons.invariant.0 c.requires.underway)

pub add-requires-clause-met : goal.add-requires-clause-met
add-requires-clause-met c =
    let net = net_of c.args.net.now in
    met_sizes net c.siphons.classes c.siphons.met c.siphons.found
    (walking_some net c.args.classes.now c.siphons.classes c.args.met.now c.siphons.met c.args.found.now c.siphons.found c.siphons.scratch.left c.args.end c.siphons.invariant.0 c.requires.underway)

pub add-requires-clause-found : goal.add-requires-clause-found
add-requires-clause-found c =
    let net = net_of c.args.net.now in
    found_sizes net c.siphons.classes c.siphons.met c.siphons.found
    (walking_some net c.args.classes.now c.siphons.classes c.args.met.now c.siphons.met c.args.found.now c.siphons.found c.siphons.scratch.left c.args.end c.siphons.invariant.0 c.requires.underway)

pub siphons-preserved : goal.siphons-preserved
siphons-preserved c = (
  walking_more (net_of c.args.net.now) c.args.classes.now c.siphons.classes c.args.met.now c.siphons.met c.args.found.now c.siphons.found c.siphons.scratch.left c.args.end c.siphons.invariant.0
      c.pop.new.self c.in-Some.class c.descend.new.classes c.in_ok-siphon.siphon c.add.new.met c.add.new.found c.add.new.scratch.left (omega arith) c.in-Some.ensures.last c.in_ok-siphon.ensures.siphon
      c.in_ok-add.ensures.met c.in_ok-add.ensures.found c.in_ok-add.ensures.extends (c.in_ok-add.ensures.left ∙ c.in_ok-siphon.ensures.left ∙ c.siphons.invariant.0.room),
  c.in_ok-add.ensures.needed ∙ ap length c.in_ok-siphon.ensures.needed ∙ c.siphons.invariant.1,
  subst (λ (spares : List LiveClass). All (IsSized (net_of c.args.net.now)) spares) (sym c.in_ok-add.ensures.spares) c.in_ok-siphon.ensures.spares,
)
