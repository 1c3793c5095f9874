-- Tags.
use Rattle.std.specs.Prelude.{◌≡◌, ℕ, List, [], ◌∷◌, ◌++◌, codes}
use Rattle.std.specs.List.{AllByRecursion, AllZip, flat_map}
use Rattle.pnml_grammar.specs.declared.token.Attribute.{Attribute}
use Rattle.pnml_grammar.specs.Characters.{Each, is_space}
use Rattle.pnml_grammar.specs.Names.{IsName}
use Rattle.pnml_grammar.specs.Attributes.{Written, written, IsWritten, IsAttribute, HaveDistinctNames}

-- a tag with this name and these attributes, closed by `>` or `/>` (XML 1.0, productions 40, STag, and 44,
-- EmptyElemTag). 60 is `<`
pub record IsTag (close name : List ℕ) (attributes : List Attribute) (bytes : List ℕ) : Type 0 where
  pub named : IsName name
  pub writtens : List Written
  pub each : AllByRecursion IsWritten writtens
  pub are : AllZip IsAttribute writtens attributes
  pub distinct : HaveDistinctNames attributes
  pub gap : List ℕ
  pub space : Each is_space gap
  pub spelling : bytes ≡ 60 ∷ (name ++ (flat_map written writtens ++ (gap ++ close)))

-- an end tag (XML 1.0, production 42, ETag). 62 is `>`
pub record IsEndTag (name bytes : List ℕ) : Type 0 where
  pub named : IsName name
  pub gap : List ℕ
  pub space : Each is_space gap
  pub spelling : bytes ≡ codes "</" ++ (name ++ (gap ++ (62 ∷ [])))
