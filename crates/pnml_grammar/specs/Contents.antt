-- What elements give to the element around them: the values of a document, from its leaves to its root.
use Rattle.std.specs.Prelude.{ℕ, List, [], ◌∷◌, ◌++◌, Option, Some, None, codes, unwrap_or, option_to_list}
use Rattle.net_values.specs.declared.document.Document.{Document}
use Rattle.net_values.specs.declared.document.NetTree.{NetTree}
use Rattle.net_values.specs.declared.document.Item.{Item}
use Rattle.net_values.specs.declared.document.Item.TheVariants.{Page, PageEnd, Place, Transition, RefPlace, RefTransition, Arc}
use Rattle.pnml_grammar.specs.declared.element.Context.{Context}
use Rattle.pnml_grammar.specs.declared.element.Context.TheVariants as contexts
use Rattle.pnml_grammar.specs.declared.token.Attribute.{Attribute}
use Rattle.pnml_grammar.specs.Elements.{element_named, value_of, context_in}
use Rattle.pnml_grammar.specs.Numerals.{number_in}
use Rattle.pnml_grammar.specs.Trees.{Node, element, empty_element, comment, instruction, cdata, characters, Nodes, none, ◌and◌}

-- what the children of an element give: the documents of roots; nets; the items of a net; names and numbers, each
-- with a value where it has a text; the texts of a name; the bytes of such a text so far; and the numbers of a
-- number's text
pub record Content : Type 0 where
  pub documents : List Document
  pub nets : List NetTree
  pub items : List Item
  pub names : List (Option (List ℕ))
  pub numbers : List (Option ℕ)
  pub texts : List (List ℕ)
  pub bytes : List ℕ
  pub numerals : List ℕ

abbrev pub nothing : Content
nothing = record { documents = []; nets = []; items = []; names = []; numbers = []; texts = []; bytes = []; numerals = [] }

-- one after the other
infixr 20 ◌then◌
abbrev pub ◌then◌ : Content → Content → Content
a then b = record {
  documents = a.documents ++ b.documents;
  nets = a.nets ++ b.nets;
  items = a.items ++ b.items;
  names = a.names ++ b.names;
  numbers = a.numbers ++ b.numbers;
  texts = a.texts ++ b.texts;
  bytes = a.bytes ++ b.bytes;
  numerals = a.numerals ++ b.numerals;
}

abbrev pub first : {A : Type 0} → List A → Option A
first [] = None
first (x ∷ xs) = Some x

-- the value of a label; one without a text is as if it were absent
abbrev pub first_value : {A : Type 0} → List (Option A) → Option A
first_value [] = None
first_value (value ∷ values) = value

-- the value of an attribute that is there
abbrev pub value_in : List ℕ → List Attribute → List ℕ
value_in name attributes = unwrap_or (value_of name attributes) []

abbrev pub id_in : List Attribute → List ℕ
id_in attributes = value_in (codes "id") attributes

abbrev pub one_item : Item → Content
one_item item = record nothing { items = item ∷ [] }

-- what an element gives to the one around it, by what its children give
abbrev pub gives : Context → List Attribute → Content → Content
gives contexts.Document attributes c = nothing
gives contexts.Pnml attributes c = record nothing { documents = record { nets = c.nets } ∷ [] }
gives contexts.Net attributes c =
    record nothing { nets = record { id = id_in attributes; name = first_value c.names; items = c.items } ∷ [] }
gives contexts.Page attributes c =
    record nothing { items = Page record { id = id_in attributes; name = first_value c.names } ∷ c.items ++ PageEnd ∷ [] }
gives contexts.Place attributes c =
    one_item (Place record { id = id_in attributes; name = first_value c.names; initial = unwrap_or (first_value c.numbers) 0 })
gives contexts.Transition attributes c = one_item (Transition record { id = id_in attributes; name = first_value c.names })
gives contexts.Arc attributes c =
    one_item (Arc record {
      id = id_in attributes;
      name = first_value c.names;
      source = value_in (codes "source") attributes;
      target = value_in (codes "target") attributes;
      weight = unwrap_or (first_value c.numbers) 1;
    })
gives contexts.ReferencePlace attributes c =
    one_item (RefPlace record { id = id_in attributes; name = first_value c.names; target = value_in (codes "ref") attributes })
gives contexts.ReferenceTransition attributes c =
    one_item (RefTransition record { id = id_in attributes; name = first_value c.names; target = value_in (codes "ref") attributes })
gives contexts.Name attributes c = record nothing { names = first c.texts ∷ [] }
gives contexts.InitialMarking attributes c = record nothing { numbers = first c.numerals ∷ [] }
gives contexts.Inscription attributes c = record nothing { numbers = first c.numerals ∷ [] }
gives contexts.NameText attributes c = record nothing { texts = c.bytes ∷ [] }
gives contexts.MarkingText attributes c = record nothing { numerals = c.numerals }
gives contexts.WeightText attributes c = record nothing { numerals = c.numerals }
gives contexts.Skipped attributes c = nothing

-- what characters give: bytes of a name, or a number; anywhere else they are white space
abbrev pub characters_content : Context → List ℕ → Content
characters_content contexts.NameText value = record nothing { bytes = value }
characters_content contexts.MarkingText value = record nothing { numerals = option_to_list (number_in contexts.MarkingText value) }
characters_content contexts.WeightText value = record nothing { numerals = option_to_list (number_in contexts.WeightText value) }
characters_content _ value = nothing

abbrev pub cdata_content : Context → List ℕ → Content
cdata_content contexts.NameText value = record nothing { bytes = value }
cdata_content _ value = nothing

abbrev mutual
  pub node_content : Context → Node → Content
  node_content context (element name attributes children) =
      let inner = context_in context (element_named name) in gives inner attributes (nodes_content inner children)
  node_content context (empty_element name attributes) = gives (context_in context (element_named name)) attributes nothing
  node_content context comment = nothing
  node_content context instruction = nothing
  node_content context (cdata value) = cdata_content context value
  node_content context (characters value) = characters_content context value

  pub nodes_content : Context → Nodes → Content
  nodes_content context none = nothing
  nodes_content context (node and nodes) = node_content context node then nodes_content context nodes
