-- Elements with what is in them, and the tokens that they are written by.
use Rattle.std.specs.Prelude.{ℕ, suc, max, List, [], ◌∷◌, ◌++◌}
use Rattle.pnml_grammar.specs.declared.token.Token.{Token}
use Rattle.pnml_grammar.specs.declared.token.Token.TheVariants as tokens
use Rattle.pnml_grammar.specs.declared.token.Attribute.{Attribute}

-- what may occur in an element (XML 1.0, production 43, content): an element with its children, an element
-- that is one empty tag, and what is no element
infixr 20 ◌and◌
mutual
  pub data Node : Type 0 where
    element : List ℕ → List Attribute → Nodes → Node
    empty_element : List ℕ → List Attribute → Node
    comment : Node
    instruction : Node
    cdata : List ℕ → Node
    characters : List ℕ → Node

  pub data Nodes : Type 0 where
    none : Nodes
    ◌and◌ : Node → Nodes → Nodes

-- an element is a start tag, its children and an end tag, or an empty tag (XML 1.0, production 39, element)
abbrev mutual
  pub node_tokens : Node → List Token
  node_tokens (element name attributes children) = tokens.Start name attributes ∷ nodes_tokens children ++ tokens.End name ∷ []
  node_tokens (empty_element name attributes) = tokens.Empty name attributes ∷ []
  node_tokens comment = tokens.Comment ∷ []
  node_tokens instruction = tokens.Instruction ∷ []
  node_tokens (cdata value) = tokens.Cdata value ∷ []
  node_tokens (characters value) = tokens.Characters value ∷ []

  pub nodes_tokens : Nodes → List Token
  nodes_tokens none = []
  nodes_tokens (node and nodes) = node_tokens node ++ nodes_tokens nodes

-- how many elements are open at most
abbrev mutual
  pub node_height : Node → ℕ
  node_height (element name attributes children) = suc (nodes_height children)
  node_height (empty_element name attributes) = 1
  node_height comment = 0
  node_height instruction = 0
  node_height (cdata value) = 0
  node_height (characters value) = 0

  pub nodes_height : Nodes → ℕ
  nodes_height none = 0
  nodes_height (node and nodes) = max (node_height node) (nodes_height nodes)
