use Rattle.std.proofs.Common.{◌≤◌, length, arith, sym, ◌∙◌, ap, length-append}
use Rattle.std.proofs.lemmas.Bool.Decides.{nat_tests}
use Rattle.pnml_grammar.specs.Runs.{passed, beyond}
use Rattle.pnml_grammar.specs.Tokens.{is_text_byte}
use Rattle.pnml_grammar.proofs.RunLaws.{passed-beyond}
use Rattle.pnml_token.proofs.PassedCharacters.{text_passes}
use Rattle.pnml_token.proofs.characters.characters_length.Goals as goal

pub returns-then-has_text_value-clause-characters : goal.returns-then-has_text_value-clause-characters
returns-then-has_text_value-clause-characters c =
    let run = c.split_markup.result.0.now in
    let rest = c.split_markup.result.1.now in
    let some : 1 ≤ length run = grind (arith, nat_tests, c.is_empty.ensures, c.if-is_empty.false) in
    let more : 1 ≤ length rest = grind (arith, nat_tests, c.is_empty-else-is_empty.ensures, c.if-is_empty-2.false) in
    text_passes c.args.bytes.now run rest c.split_markup.ensures.run c.split_markup.ensures.rest some more (sym c.if-has_section_end.false ∙ c.has_section_end.ensures) (c.has_text_value.ensures c.if-has_text_value.true)
    (sym c.is_spelling.ensures ∙ c.if-not-is_spelling.false)

pub returns-then-has_text_value-clause-within : goal.returns-then-has_text_value-clause-within
returns-then-has_text_value-clause-within c =
    omega (arith, ap length c.split_markup.ensures.run, ap length (passed-beyond is_text_byte c.args.bytes.now), length-append (passed is_text_byte c.args.bytes.now) (beyond is_text_byte c.args.bytes.now))
