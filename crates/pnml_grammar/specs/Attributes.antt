-- Attributes as they are written, and the attributes that a tag has by them.
use Rattle.std.specs.Prelude.{◌≡◌, ◌≢◌, ℕ, ◌≤◌, Bool, not, ◌==◌, ◌&&◌, ◌⊎◌, List, [], ◌∷◌, ◌++◌, length}
use Rattle.std.specs.List.{AllByRecursion}
use Rattle.pnml_grammar.specs.declared.token.Attribute.{Attribute}
use Rattle.pnml_grammar.specs.Characters.{Each, is_space}
use Rattle.pnml_grammar.specs.Names.{IsName}
use Rattle.pnml_grammar.specs.Values.{IsAttributeValue}

-- the parts of an attribute: white space, its name, `=` between white space, and its value between quotes
pub record Written : Type 0 where
  pub gap : List ℕ
  pub name : List ℕ
  pub before : List ℕ
  pub after : List ℕ
  pub quote : ℕ
  pub body : List ℕ

-- the parts in order. 61 is `=`
abbrev pub written : Written → List ℕ
written w = w.gap ++ (w.name ++ (w.before ++ (61 ∷ (w.after ++ (w.quote ∷ (w.body ++ (w.quote ∷ [])))))))

-- neither `<` nor the quote
abbrev pub is_value_byte : ℕ → ℕ → Bool
is_value_byte quote byte = not (byte == 60) && not (byte == quote)

-- the parts are what they may be (XML 1.0, productions 41, Attribute, 25, Eq, and 10, AttValue)
pub record IsWritten (w : Written) : Type 0 where
  pub gap : Each is_space w.gap
  pub apart : 1 ≤ length w.gap
  pub name : IsName w.name
  pub before : Each is_space w.before
  pub after : Each is_space w.after
  pub quote : (w.quote ≡ 34) ⊎ (w.quote ≡ 39)
  pub body : Each (is_value_byte w.quote) w.body

-- the attribute that is written so
pub record IsAttribute (w : Written) (attribute : Attribute) : Type 0 where
  pub name : attribute.name ≡ w.name
  pub value : IsAttributeValue w.body attribute.value

-- no two attributes have one name (XML 1.0, section 3.1, Unique Att Spec)
abbrev pub HaveDistinctNames : List Attribute → Type 0
HaveDistinctNames [] = Unit
HaveDistinctNames (attribute ∷ attributes) =
    AllByRecursion (λ other. attribute.name ≢ other.name) attributes × HaveDistinctNames attributes
