-- The documents that tokens spell: whole elements, each with what may occur in it (ISO/IEC 15909-2).
use Rattle.std.specs.Prelude.{◌≡◌, ℕ, ◌≤◌, Bool, true, false, ◌||◌, nat_le, List, [], ◌∷◌, ◌++◌, IsTrue, is_some, length, if◌then◌else◌}
use Rattle.net_values.specs.declared.limits.TheConstants.{MAX_NAME_BYTES, MAX_NETS, MAX_OPEN_ELEMENTS}
use Rattle.net_values.specs.declared.document.Document.{Document}
use Rattle.pnml_grammar.specs.declared.element.Context.{Context}
use Rattle.pnml_grammar.specs.declared.element.Context.TheVariants as contexts
use Rattle.pnml_grammar.specs.declared.token.Token.{Token}
use Rattle.pnml_grammar.specs.declared.token.Token.TheVariants as tokens
use Rattle.pnml_grammar.specs.Valued.{Valued}
use Rattle.pnml_grammar.specs.Tokens.{TokensOf}
use Rattle.pnml_grammar.specs.Elements.{element_named, context_in, may_occur}
use Rattle.pnml_grammar.specs.Numerals.{is_white, number_in}
use Rattle.pnml_grammar.specs.Trees.{Node, element, empty_element, comment, instruction, cdata, characters, Nodes, none, ◌and◌, nodes_tokens, nodes_height}
use Rattle.pnml_grammar.specs.Contents.{Content, nothing, nodes_content}
use Rattle.pnml_grammar.specs.Counts.{nodes_counts, IsWithin}

-- the children of an element give MAX_NETS nets at most, and one document, one name, one number and one text at most
pub record HasFew (content : Content) : Type 0 where
  pub documents : length content.documents ≤ 1
  pub nets : length content.nets ≤ MAX_NETS
  pub names : length content.names ≤ 1
  pub numbers : length content.numbers ≤ 1
  pub texts : length content.texts ≤ 1
  pub bytes : length content.bytes ≤ MAX_NAME_BYTES
  pub numerals : length content.numerals ≤ 1

-- the root has a net, and a number's text a number
abbrev pub is_complete : Context → Content → Bool
is_complete contexts.Pnml content = nat_le 1 (length content.nets)
is_complete contexts.MarkingText content = nat_le 1 (length content.numerals)
is_complete contexts.WeightText content = nat_le 1 (length content.numerals)
is_complete _ content = true

pub record IsFilled (context : Context) (content : Content) : Type 0 where
  pub few : HasFew content
  pub complete : IsTrue (is_complete context content)

-- characters: white space anywhere, any in the text of a name, and numbers in that of a number
abbrev pub may_have_characters : Context → List ℕ → Bool
may_have_characters contexts.NameText value = true
may_have_characters contexts.Skipped value = true
may_have_characters context value = is_white value || is_some (number_in context value)

-- CDATA sections are in the text of a name, and in skipped parts
abbrev pub may_have_cdata : Context → Bool
may_have_cdata contexts.NameText = true
may_have_cdata contexts.Skipped = true
may_have_cdata _ = false

-- what may occur in a context: trivia, and elements with what may occur in them
abbrev mutual
  pub IsChild : Context → Node → Type 0
  IsChild context (element name attributes children) =
      IsTrue (may_occur context name attributes) × EachChild (context_in context (element_named name)) children
      × IsFilled (context_in context (element_named name)) (nodes_content (context_in context (element_named name)) children)
  IsChild context (empty_element name attributes) =
      IsTrue (may_occur context name attributes) × IsFilled (context_in context (element_named name)) nothing
  IsChild context comment = Unit
  IsChild context instruction = Unit
  IsChild context (cdata value) = IsTrue (may_have_cdata context)
  IsChild context (characters value) = IsTrue (may_have_characters context value)

  pub EachChild : Context → Nodes → Type 0
  EachChild context none = Unit
  EachChild context (node and nodes) = IsChild context node × EachChild context nodes

-- a declaration, or none (XML 1.0, production 22, prolog)
abbrev pub opening : Bool → List Token
opening declared = if declared then tokens.Declaration ∷ [] else []

-- the tokens spell the document: a declaration or none, and then one root between trivia
pub record Spells (document : Document) (list : List Token) : Type 0 where
  pub declared : Bool
  pub nodes : Nodes
  pub list_is : list ≡ opening declared ++ nodes_tokens nodes
  pub each : EachChild contexts.Document nodes
  pub shallow : nodes_height nodes ≤ MAX_OPEN_ELEMENTS
  pub counted : IsWithin (nodes_counts contexts.Document nodes)
  pub one : (nodes_content contexts.Document nodes).documents ≡ document ∷ []
  pub valued : Valued document

-- the bytes spell the document
pub record DocBytes (document : Document) (bytes : List ℕ) : Type 0 where
  pub list : List Token
  pub tokens_are : TokensOf bytes list
  pub spells : Spells document list

-- bytes spell at most one document
abbrev pub SpellOneDocument : Type 0
SpellOneDocument =
    (bytes : List ℕ) (document other : Document) → DocBytes document bytes → DocBytes other bytes → document ≡ other
