-- The values of a token are text of legal characters (XML 1.0, production 2, Char).
use Rattle.std.specs.Prelude.{List}
use Rattle.std.specs.List.{AllByRecursion}
use Rattle.net_values.specs.Characters.{IsLegalText}
use Rattle.pnml_grammar.specs.declared.token.Token.{Token}
use Rattle.pnml_grammar.specs.declared.token.Token.TheVariants as tokens
use Rattle.pnml_grammar.specs.declared.token.Attribute.{Attribute}

abbrev pub HaveLegalValues : List Attribute → Type 0
HaveLegalValues attributes = AllByRecursion (λ attribute. IsLegalText attribute.value) attributes

abbrev pub HasLegalTexts : Token → Type 0
HasLegalTexts tokens.Declaration = Unit
HasLegalTexts tokens.Comment = Unit
HasLegalTexts tokens.Instruction = Unit
HasLegalTexts (tokens.Cdata value) = IsLegalText value
HasLegalTexts (tokens.Start name attributes) = HaveLegalValues attributes
HasLegalTexts (tokens.Empty name attributes) = HaveLegalValues attributes
HasLegalTexts (tokens.End name) = Unit
HasLegalTexts (tokens.Characters value) = IsLegalText value
