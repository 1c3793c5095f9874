-- What is read there is there.
use Rattle.pnml_grammar.proofs.TokenLaws.{token_or_none}
use Rattle.pnml_grammar.proofs.laws.a_token_or_none.Goals as goal

pub returns : goal.returns
returns c = token_or_none
