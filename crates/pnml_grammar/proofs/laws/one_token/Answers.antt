-- Both are what is read there.
use Rattle.pnml_grammar.proofs.TokenLaws.{one_token_occurs}
use Rattle.pnml_grammar.proofs.laws.one_token.Goals as goal

pub returns : goal.returns
returns c = one_token_occurs
