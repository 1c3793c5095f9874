use Rattle.pnml_decode.proofs.SkippedTags.{characters_pass}
use Rattle.pnml_decode.proofs.progress.pass_one.Goals as goal

pub returns-in-None-clause-token : goal.returns-in-None-clause-token
returns-in-None-clause-token c = characters_pass c.pass_characters.result c.args.tokens.now c.pass_empty_tag.new.self c.args.piece.now c.in-None.ensures.none c.pass_characters.ensures.characters
