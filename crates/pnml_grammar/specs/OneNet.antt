-- The documents of one net, as a grammar defines them in which a root has one net and the document is that net. Only
-- the law that such documents are spelled as before cites this.
use Rattle.std.specs.Prelude.{◌≡◌, ℕ, ◌≤◌, Bool, List, [], ◌∷◌, ◌++◌, IsTrue, length, codes}
use Rattle.net_values.specs.declared.limits.TheConstants.{MAX_NAME_BYTES, MAX_OPEN_ELEMENTS}
use Rattle.net_values.specs.declared.document.Document.{Document}
use Rattle.net_values.specs.declared.document.NetTree.{NetTree}
use Rattle.pnml_grammar.specs.declared.element.Context.{Context}
use Rattle.pnml_grammar.specs.declared.element.Context.TheVariants as contexts
use Rattle.pnml_grammar.specs.declared.token.Attribute.{Attribute}
use Rattle.pnml_grammar.specs.declared.token.Token.{Token}
use Rattle.pnml_grammar.specs.Tokens.{TokensOf}
use Rattle.pnml_grammar.specs.Canon.{declaration, start_tag, attribute, namespace, net_text, end_tag, canon}
use Rattle.pnml_grammar.specs.Valued.{IsValuedNet, IsWithinLimits}
use Rattle.pnml_grammar.specs.Elements.{element_named, context_in, may_occur}
use Rattle.pnml_grammar.specs.Trees.{Node, element, empty_element, comment, instruction, cdata, characters, Nodes, none, ◌and◌, nodes_tokens, nodes_height}
use Rattle.pnml_grammar.specs.Contents.{Content, nothing, ◌then◌, gives, characters_content, cdata_content}
use Rattle.pnml_grammar.specs.Counts.{nodes_counts, IsWithin}
use Rattle.pnml_grammar.specs.Documents.{is_complete, may_have_characters, may_have_cdata, opening, DocBytes}

-- a root gives its nets
abbrev pub net_gives : Context → List Attribute → Content → Content
net_gives contexts.Pnml attributes c = record nothing { nets = c.nets }
net_gives context attributes c = gives context attributes c

abbrev mutual
  pub node_given : Context → Node → Content
  node_given context (element name attributes children) =
      let inner = context_in context (element_named name) in net_gives inner attributes (nodes_given inner children)
  node_given context (empty_element name attributes) = net_gives (context_in context (element_named name)) attributes nothing
  node_given context comment = nothing
  node_given context instruction = nothing
  node_given context (cdata value) = cdata_content context value
  node_given context (characters value) = characters_content context value

  pub nodes_given : Context → Nodes → Content
  nodes_given context none = nothing
  nodes_given context (node and nodes) = node_given context node then nodes_given context nodes

-- the children of an element give one net, one name, one number and one text at most
pub record HasOne (content : Content) : Type 0 where
  pub nets : length content.nets ≤ 1
  pub names : length content.names ≤ 1
  pub numbers : length content.numbers ≤ 1
  pub texts : length content.texts ≤ 1
  pub bytes : length content.bytes ≤ MAX_NAME_BYTES
  pub numerals : length content.numerals ≤ 1

pub record IsFilledOnce (context : Context) (content : Content) : Type 0 where
  pub few : HasOne content
  pub complete : IsTrue (is_complete context content)

abbrev mutual
  pub IsNetChild : Context → Node → Type 0
  IsNetChild context (element name attributes children) =
      IsTrue (may_occur context name attributes) × EachNetChild (context_in context (element_named name)) children
      × IsFilledOnce (context_in context (element_named name)) (nodes_given (context_in context (element_named name)) children)
  IsNetChild context (empty_element name attributes) =
      IsTrue (may_occur context name attributes) × IsFilledOnce (context_in context (element_named name)) nothing
  IsNetChild context comment = Unit
  IsNetChild context instruction = Unit
  IsNetChild context (cdata value) = IsTrue (may_have_cdata context)
  IsNetChild context (characters value) = IsTrue (may_have_characters context value)

  pub EachNetChild : Context → Nodes → Type 0
  EachNetChild context none = Unit
  EachNetChild context (node and nodes) = IsNetChild context node × EachNetChild context nodes

-- the tokens spell a document of this net
pub record SpellsNet (net : NetTree) (list : List Token) : Type 0 where
  pub declared : Bool
  pub nodes : Nodes
  pub list_is : list ≡ opening declared ++ nodes_tokens nodes
  pub each : EachNetChild contexts.Document nodes
  pub shallow : nodes_height nodes ≤ MAX_OPEN_ELEMENTS
  pub counted : IsWithin (nodes_counts contexts.Document nodes)
  pub one : (nodes_given contexts.Document nodes).nets ≡ net ∷ []
  pub valued : IsValuedNet net
  pub limits : IsWithinLimits net.items

-- the bytes spell a document of this net
pub record NetBytes (net : NetTree) (bytes : List ℕ) : Type 0 where
  pub list : List Token
  pub tokens_are : TokensOf bytes list
  pub spells : SpellsNet net list

-- its canonical text
unfoldable pub net_canon : NetTree → List ℕ
net_canon net =
    declaration ++ start_tag (codes "pnml") (attribute (codes "xmlns") namespace) ++ net_text net ++ end_tag (codes "pnml") ++ 10 ∷ []

-- the document of one net only
abbrev pub only : NetTree → Document
only net = record { nets = net ∷ [] }

-- bytes that spell a document of one net spell the document of that net only, which has the same canonical text
abbrev pub StaysForOneNet : Type 0
StaysForOneNet = (net : NetTree) (bytes : List ℕ) → NetBytes net bytes → DocBytes (only net) bytes × (canon (only net) ≡ net_canon net)
