-- The tests are those of the document's test, which tells whether it is valued.
use Rattle.std.proofs.Common.{◌≡◌, arith}
use Rattle.std.proofs.lemmas.Grind.{common_steps}
use Rattle.pnml_grammar.specs.ValuedTests.{is_valued}
use Rattle.pnml_grammar.proofs.ValuedNets.{valued_decided}
use Rattle.pnml_grammar.proofs.valued.is_valued.Goals as goal

pub returns-then-nets-le-MAX_NETS : goal.returns-then-nets-le-MAX_NETS
unfolding is_valued
returns-then-nets-le-MAX_NETS c =
    let same : c.are_valued.result ≡ is_valued c.args.document.now = grind (arith, common_steps) in
    valued_decided c.args.document.now c.are_valued.result same
