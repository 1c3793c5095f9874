use Rattle.std.proofs.Common.{sym, ◌∙◌}
use Rattle.std.proofs.lemmas.Bool.{false≢true}
use Rattle.net_values.specs.FlatNets.{net_of}
use Rattle.net_class.specs.Neighbours.{weights_of}
use Rattle.net_class.proofs.Walks.{owned_each, not_one_each}
use Rattle.net_class.proofs.places.have_one_transition.Goals as goal

pub returns-then-own_all : goal.returns-then-own_all
returns-then-own_all c =
    let net = net_of c.args.net.now in
    owned_each net (weights_of c.args.neighbours net) c.own_all.new.owners c.are_owned.result c.own_all.ensures.size c.if-own_all.ensures.owners c.are_owned.ensures

pub returns-else-own_all : goal.returns-else-own_all
returns-else-own_all c = (
  λ some. absurd (false≢true (sym c.if-own_all.false ∙ some)),
  λ each. absurd (not_one_each _ _ c.if-own_all.ensures.owners each),
)
