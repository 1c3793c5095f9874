use Rattle.std.proofs.Common.{arith}
use Rattle.std.specs.Prelude.{not, ◌==◌}
use Rattle.std.proofs.lemmas.List.Sums.{prefix_len-le-length}
use Rattle.pnml_token.proofs.held.length_to.Goals as goal

pub returns-in-Some-clause-inside : goal.returns-in-Some-clause-inside
returns-in-Some-clause-inside c = omega (arith, c.length_before.ensures, prefix_len-le-length (λ byte. not (byte == c.in-Some.byte)) c.args.bytes.now)
