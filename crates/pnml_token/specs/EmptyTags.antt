-- Empty tags at the front of bytes, by what reading gives.
use Rattle.std.specs.Prelude.{◌≡◌, ℕ, List, Some, length}
use Rattle.pnml_grammar.specs.declared.token.Attribute.{Attribute}
use Rattle.pnml_grammar.specs.declared.token.Token.TheVariants.{Empty}
use Rattle.pnml_grammar.specs.Declarations.{RawAttribute}
use Rattle.pnml_grammar.specs.Tokens.{Occurs}
use Rattle.pnml_grammar.specs.Reading.{all_raw_attributes_at, attribute_of, distinct_attributes_of, shape_at, token_from}

-- the attribute is read
abbrev pub HasReading : RawAttribute → Type 0
HasReading raw_attribute = (attribute : Attribute) × (attribute_of raw_attribute ≡ Some attribute)

-- the attributes at the front are read, and this follows them
abbrev pub HasSimpleAttributes : List ℕ → List ℕ → Type 0
HasSimpleAttributes bytes rest =
    (attributes : List Attribute) × (distinct_attributes_of (all_raw_attributes_at bytes).0 ≡ Some attributes)
    × ((all_raw_attributes_at bytes).1 ≡ rest)

-- an empty tag has its shape at the front, and this follows it
abbrev pub ReadsEmptyTag : List ℕ → List ℕ → Type 0
ReadsEmptyTag bytes rest = (name : List ℕ) × (attributes : List Attribute) × (shape_at bytes ≡ Some (Empty name attributes, rest))

-- and it is legal
abbrev pub IsEmptyTag : List ℕ → List ℕ → Type 0
IsEmptyTag bytes rest = (name : List ℕ) × (attributes : List Attribute) × (token_from bytes ≡ Some (Empty name attributes, rest))

-- so many bytes at the front spell an empty tag
abbrev pub StartsWithEmptyTag : List ℕ → ℕ → Type 0
StartsWithEmptyTag bytes n =
    (name : List ℕ) × (attributes : List Attribute) × (spelling : List ℕ) × (rest : List ℕ)
    × Occurs bytes (Empty name attributes) spelling rest × (n ≡ length spelling)
