use Rattle.std.proofs.Common.{refl}
use Rattle.std.proofs.lemmas.Bool.{false≢true}
use Rattle.net_values.specs.FlatNets.{net_of}
use Rattle.net_values.specs.PlaceSets.{has}
use Rattle.closed_sets.proofs.SmallerSiphons.{nonempty_from, nonempty_not}
use Rattle.closed_sets.proofs.minimal.is_minimal_siphon.Goals as goal
use Rattle.closed_sets.proofs.minimal.is_minimal_siphon.Goals.{then-is_empty-via-then-is_empty, then-is_empty-via-else-is_empty+then-not-is_siphon}

pub returns-then-is_empty-clause-exact : goal.returns-then-is_empty-clause-exact
returns-then-is_empty-clause-exact c = (
  λ never. absurd (false≢true never),
  λ minimal. elim c.then-is_empty.branch [
    | then-is_empty-via-then-is_empty w ↦ absurd (nonempty_not (net_of c.args.net.now) (has c.args.set.now) (w.if-is_empty.ensures.0 refl) minimal.nonempty)
    | then-is_empty-via-else-is_empty+then-not-is_siphon w ↦ w.if-not-is_siphon.ensures.1 minimal.siphon
  ],
)

pub needs_each-requires-clause-some : goal.needs_each-requires-clause-some
needs_each-requires-clause-some c =
    nonempty_from (net_of c.args.net.now) c.args.set.now c.requires.set (λ empty. false≢true (c.if-is_empty.ensures.1 empty))
