use Rattle.std.proofs.Common.{◌∙◌, refl, sym, subst, List, Bool, All}
use Rattle.std.proofs.lemmas.List.Elements.{All-push}
use Rattle.net_values.specs.FlatNets.{net_of}
use Rattle.siphon_branch.specs.declared.live_class.LiveClass.{LiveClass}
use Rattle.siphon_branch.specs.Held.{Descends, IsSized}
use Rattle.siphon_branch.proofs.Descending.{descending_none, descending_more, descending_less, descending_over}
use Rattle.siphon_branch.proofs.Spares.{held_sized, spares_alike, spares_sized}
use Rattle.siphon_branch.proofs.walk.descend.Goals as goal

pub class-init : goal.class-init
class-init c = (descending_none (net_of c.args.net.now) c.args.class c.args.classes.now c.args.scratch.now.left c.requires.held c.requires.left, refl, c.requires.spares)

pub keep_without-requires-clause-spares : goal.keep_without-requires-clause-spares
keep_without-requires-clause-spares c = spares_alike (net_of c.args.net.now) c.class.class c.class.invariant.0.held c.class.scratch.spares c.class.invariant.2

pub class-preserved : goal.class-preserved
class-preserved c = (
  descending_more (net_of c.args.net.now) c.args.class c.args.classes.now c.class.class c.class.classes c.class.scratch.left c.class.invariant.0 c.in-Some.p c.in-Some.ensures c.take.new.self c.take.ensures.contains
      c.keep_without.new.classes c.keep_without.new.scratch.left c.in_ok-keep_without.ensures.left c.in_ok-keep_without.ensures.kept c.take.ensures.avoids c.take.ensures.held,
  c.in_ok-keep_without.ensures.needed ∙ c.class.invariant.1,
  spares_sized (net_of c.args.net.now) c.class.class c.class.invariant.0.held c.keep_without.new.scratch.spares c.in_ok-keep_without.ensures.spares,
)

pub class-smaller : goal.class-smaller
class-smaller c =
    descending_less (net_of c.args.net.now) c.args.class c.args.classes.now c.class.class c.class.classes c.class.scratch.left c.class.invariant.0 c.in-Some.p c.in-Some.ensures c.take.new.self c.take.ensures.contains

pub returns-clause-spares : goal.returns-clause-spares
returns-clause-spares c =
    let net = net_of c.args.net.now in
    subst (λ (spares : List LiveClass). All (IsSized net) spares) (sym c.in_ok-push.ensures.ok)
    (All-push (IsSized net) c.class.scratch.spares c.class.class c.class.invariant.2 (held_sized net c.class.class c.class.invariant.0.held))

pub returns-clause-siphon : goal.returns-clause-siphon
returns-clause-siphon c =
    let net = net_of c.args.net.now in
    subst (λ (siphon : List Bool). Descends net c.args.class c.args.classes.now c.class.classes siphon) (sym c.in_ok-siphon.ensures)
    (descending_over net c.args.class c.args.classes.now c.class.class c.class.classes c.class.scratch.left c.class.invariant.0 c.in_default.ensures)
