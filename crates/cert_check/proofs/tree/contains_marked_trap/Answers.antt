use Rattle.std.proofs.lemmas.Bool.{false≢true}
use Rattle.net_values.specs.FlatNets.{net_of}
use Rattle.cert_check.proofs.WalkAnswers.{no_trap_above}
use Rattle.cert_check.proofs.tree.contains_marked_trap.Goals as goal

pub returns-then-walk-eq0-clause-exact : goal.returns-then-walk-eq0-clause-exact
returns-then-walk-eq0-clause-exact c = (
  λ never. absurd (false≢true never),
  λ some. absurd (no_trap_above (net_of c.args.net.now) c.args.walk.now c.requires.at c.if-walk-eq0.true some),
)
