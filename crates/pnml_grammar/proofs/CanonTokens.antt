-- The tokens of the canonical text, by the same recursion on the items as the text itself.
use Rattle.std.proofs.Common.{ℕ, List, [], ◌∷◌, ◌++◌, Option, Some, None}
use Rattle.std.specs.Prelude.{◌==◌, if◌then◌else◌, codes, decimal}
use Rattle.std.specs.List.{flat_map}
use Rattle.net_values.specs.declared.document.Document.{Document}
use Rattle.net_values.specs.declared.document.NetTree.{NetTree}
use Rattle.net_values.specs.declared.document.Item.{Item}
use Rattle.net_values.specs.declared.document.Item.TheVariants.{Page, PageEnd, Place, Transition, RefPlace, RefTransition, Arc}
use Rattle.pnml_grammar.specs.declared.token.Attribute.{Attribute}
use Rattle.pnml_grammar.specs.declared.token.Token.{Token}
use Rattle.pnml_grammar.specs.declared.token.Token.TheVariants as tokens
use Rattle.pnml_grammar.specs.Canon.{namespace, net_type}

-- a whole element: an empty tag where it has no children
abbrev pub element_tokens : List ℕ → List Attribute → List Token → List Token
element_tokens name attributes [] = tokens.Empty name attributes ∷ []
element_tokens name attributes (token ∷ list) = tokens.Start name attributes ∷ ((token ∷ list) ++ tokens.End name ∷ [])

-- the text of a label, where it has one
abbrev pub value_tokens : List ℕ → List Token
value_tokens [] = []
value_tokens (byte ∷ bytes) = tokens.Characters (byte ∷ bytes) ∷ []

abbrev pub label_tokens : List ℕ → List ℕ → List Token
label_tokens name value = element_tokens name [] (element_tokens (codes "text") [] (value_tokens value))

abbrev pub name_tokens : Option (List ℕ) → List Token
name_tokens None = []
name_tokens (Some name) = label_tokens (codes "name") name

abbrev pub marking_tokens : ℕ → List Token
marking_tokens number = if number == 0 then [] else label_tokens (codes "initialMarking") (decimal number)

abbrev pub weight_tokens : ℕ → List Token
weight_tokens weight = if weight == 1 then [] else label_tokens (codes "inscription") (decimal weight)

-- the attributes
abbrev pub id_of : List ℕ → Attribute
id_of id = record { name = codes "id"; value = id }

abbrev pub ref_of : List ℕ → Attribute
ref_of target = record { name = codes "ref"; value = target }

abbrev pub source_of : List ℕ → Attribute
source_of source = record { name = codes "source"; value = source }

abbrev pub target_of : List ℕ → Attribute
target_of target = record { name = codes "target"; value = target }

abbrev pub type_of : Attribute
type_of = record { name = codes "type"; value = net_type }

abbrev pub namespace_of : Attribute
namespace_of = record { name = codes "xmlns"; value = namespace }

-- one item
abbrev pub item_tokens : Item → List Token
item_tokens (Page page) = tokens.Start (codes "page") (id_of page.id ∷ []) ∷ name_tokens page.name
item_tokens PageEnd = tokens.End (codes "page") ∷ []
item_tokens (Place place) =
    element_tokens (codes "place") (id_of place.id ∷ []) (name_tokens place.name ++ marking_tokens place.initial)
item_tokens (Transition transition) = element_tokens (codes "transition") (id_of transition.id ∷ []) (name_tokens transition.name)
item_tokens (RefPlace node) =
    element_tokens (codes "referencePlace") (id_of node.id ∷ ref_of node.target ∷ []) (name_tokens node.name)
item_tokens (RefTransition node) =
    element_tokens (codes "referenceTransition") (id_of node.id ∷ ref_of node.target ∷ []) (name_tokens node.name)
item_tokens (Arc arc) =
    element_tokens (codes "arc") (id_of arc.id ∷ source_of arc.source ∷ target_of arc.target ∷ [])
    (name_tokens arc.name ++ weight_tokens arc.weight)

-- the items in order; a page without items is one whole element
abbrev pub items_tokens : List Item → List Token
items_tokens [] = []
items_tokens (Page page ∷ PageEnd ∷ items) =
    element_tokens (codes "page") (id_of page.id ∷ []) (name_tokens page.name) ++ items_tokens items
items_tokens (item ∷ items) = item_tokens item ++ items_tokens items

unfoldable pub net_tokens : NetTree → List Token
net_tokens net =
    element_tokens (codes "net") (id_of net.id ∷ type_of ∷ []) (name_tokens net.name ++ items_tokens net.items)

abbrev pub nets_tokens : List NetTree → List Token
nets_tokens nets = flat_map net_tokens nets

-- the line feed after the root is a text of its own
unfoldable pub canon_tokens : Document → List Token
canon_tokens document =
    tokens.Declaration ∷ [] ++ tokens.Start (codes "pnml") (namespace_of ∷ []) ∷ [] ++ nets_tokens document.nets
    ++ tokens.End (codes "pnml") ∷ [] ++ tokens.Characters (10 ∷ []) ∷ []
