-- The runs of white space and of digits are those of the numeral.
use Rattle.pnml_grammar.proofs.NumeralLaws.{numbers_are_read}
use Rattle.pnml_grammar.proofs.laws.numerals_are_read.Goals as goal

pub returns : goal.returns
returns c = numbers_are_read
