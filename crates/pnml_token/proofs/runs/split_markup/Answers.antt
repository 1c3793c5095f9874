use Rattle.pnml_grammar.specs.Tokens.{is_text_byte}
use Rattle.pnml_token.proofs.Prefixes.{cut_front, cut_rest}
use Rattle.pnml_token.proofs.runs.split_markup.Goals as goal

pub returns-clause-run : goal.returns-clause-run
returns-clause-run c = cut_front is_text_byte c.args.bytes.now c.split_at.result.0.now c.text_length.result c.split_at.ensures.front c.text_length.ensures

pub returns-clause-rest : goal.returns-clause-rest
returns-clause-rest c = cut_rest is_text_byte c.args.bytes.now c.split_at.result.1.now c.text_length.result c.split_at.ensures.back c.text_length.ensures
