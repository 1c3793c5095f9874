-- The bytes of each class of runs.
use Rattle.std.specs.Prelude.{ℕ, Bool, not, ◌==◌, ◌||◌, ◌&&◌, nat_le, nat_lt}
use Rattle.pnml_grammar.specs.Characters.{is_space}
use Rattle.pnml_grammar.specs.Names.{is_name_byte}
use Rattle.pnml_grammar.specs.Attributes.{is_value_byte}
use Rattle.pnml_grammar.specs.Resolving.{is_reference_byte}
use Rattle.pnml_token.specs.declared.runs.ByteClass.{ByteClass}
use Rattle.pnml_token.specs.declared.runs.ByteClass.TheVariants.{Space, Name, Value, Reference, Line, Plain, Literal, Common}

abbrev pub in_class : ByteClass → ℕ → Bool
in_class Space byte = is_space byte
in_class Name byte = is_name_byte byte
in_class (Value quote) byte = is_value_byte quote byte
in_class Reference byte = is_reference_byte byte
in_class Line byte = not (byte == 13)
in_class (Plain spaces) byte = not (byte == 13) && not (byte == 38) && not (spaces && (byte == 9 || byte == 10))
in_class Literal byte = nat_le 32 byte && nat_lt byte 128 && not (byte == 38)
in_class Common byte = (nat_le 32 byte || byte == 10 || byte == 9 || byte == 13) && not (byte == 239)

-- a legal character of ASCII (XML 1.0, production 2, Char)
abbrev pub is_plain_byte : ℕ → Bool
is_plain_byte byte = (nat_le 32 byte && nat_lt byte 128) || byte == 10 || byte == 9 || byte == 13
