-- The canonical spelling of a document: the one text of PNML (ISO/IEC 15909-2) that this project writes
-- for it. It is one line, without white space between elements, and ends with a line feed.
use Rattle.std.specs.Prelude.{ℕ, ◌==◌, if◌then◌else◌, List, [], ◌∷◌, ◌++◌, Option, Some, None, codes, decimal}
use Rattle.std.specs.List.{flat_map}
use Rattle.net_values.specs.declared.document.Document.{Document}
use Rattle.net_values.specs.declared.document.NetTree.{NetTree}
use Rattle.net_values.specs.declared.document.Item.{Item}
use Rattle.net_values.specs.declared.document.Item.TheVariants.{Page, PageEnd, Place, Transition, RefPlace, RefTransition, Arc}

-- a byte of a value as it is written: seven are written as references (XML 1.0, section 4.1)
abbrev pub escape : ℕ → List ℕ
escape byte =
    if byte == 38 then codes "&amp;"
    else (if byte == 60 then codes "&lt;"
    else (if byte == 62 then codes "&gt;"
    else (if byte == 34 then codes "&quot;"
    else (if byte == 9 then codes "&#9;"
    else (if byte == 10 then codes "&#10;"
    else (if byte == 13 then codes "&#13;"
    else byte ∷ []))))))

unfoldable pub escaped : List ℕ → List ℕ
escaped bytes = flat_map escape bytes

-- one space, and then name="value"
unfoldable pub attribute : List ℕ → List ℕ → List ℕ
attribute name value = codes " " ++ name ++ codes "=" ++ 34 ∷ escaped value ++ 34 ∷ []

-- <name attributes>, </name> and <name attributes/>
unfoldable pub start_tag : List ℕ → List ℕ → List ℕ
start_tag name attributes = codes "<" ++ name ++ attributes ++ codes ">"

unfoldable pub end_tag : List ℕ → List ℕ
end_tag name = codes "</" ++ name ++ codes ">"

unfoldable pub empty_tag : List ℕ → List ℕ → List ℕ
empty_tag name attributes = codes "<" ++ name ++ attributes ++ codes "/>"

-- a whole element: an empty tag where it has no children
abbrev pub element : List ℕ → List ℕ → List ℕ → List ℕ
element name attributes [] = empty_tag name attributes
element name attributes (byte ∷ bytes) = start_tag name attributes ++ (byte ∷ bytes) ++ end_tag name

-- <label><text>value</text></label>
abbrev pub label : List ℕ → List ℕ → List ℕ
label name value = element name [] (element (codes "text") [] value)

-- a name is written where it is there, an initial marking where it is positive, a weight where it isn't 1
abbrev pub name_text : Option (List ℕ) → List ℕ
name_text None = []
name_text (Some name) = label (codes "name") (escaped name)

unfoldable pub marking_text : ℕ → List ℕ
marking_text tokens = if tokens == 0 then [] else label (codes "initialMarking") (decimal tokens)

unfoldable pub weight_text : ℕ → List ℕ
weight_text weight = if weight == 1 then [] else label (codes "inscription") (decimal weight)

abbrev pub id_attribute : List ℕ → List ℕ
id_attribute id = attribute (codes "id") id

-- one item
unfoldable pub item_text : Item → List ℕ
item_text (Page page) = start_tag (codes "page") (id_attribute page.id) ++ name_text page.name
item_text PageEnd = end_tag (codes "page")
item_text (Place place) =
    element (codes "place") (id_attribute place.id) (name_text place.name ++ marking_text place.initial)
item_text (Transition transition) =
    element (codes "transition") (id_attribute transition.id) (name_text transition.name)
item_text (RefPlace node) =
    element (codes "referencePlace") (id_attribute node.id ++ attribute (codes "ref") node.target) (name_text node.name)
item_text (RefTransition node) =
    element (codes "referenceTransition") (id_attribute node.id ++ attribute (codes "ref") node.target) (name_text node.name)
item_text (Arc arc) =
    element (codes "arc") (id_attribute arc.id ++ attribute (codes "source") arc.source ++ attribute (codes "target") arc.target)
    (name_text arc.name ++ weight_text arc.weight)

-- the items in order; a page without items is one whole element
abbrev pub items_text : List Item → List ℕ
items_text [] = []
items_text (Page page ∷ PageEnd ∷ items) =
    element (codes "page") (id_attribute page.id) (name_text page.name) ++ items_text items
items_text (item ∷ items) = item_text item ++ items_text items

abbrev pub namespace : List ℕ
namespace = codes "http://www.pnml.org/version-2009/grammar/pnml"

abbrev pub net_type : List ℕ
net_type = codes "http://www.pnml.org/version-2009/grammar/ptnet"

unfoldable pub net_text : NetTree → List ℕ
net_text net =
    element (codes "net") (id_attribute net.id ++ attribute (codes "type") net_type) (name_text net.name ++ items_text net.items)

-- <?xml version="1.0" encoding="UTF-8"?>
unfoldable pub declaration : List ℕ
declaration = codes "<?xml version=" ++ 34 ∷ codes "1.0" ++ 34 ∷ codes " encoding=" ++ 34 ∷ codes "UTF-8" ++ 34 ∷ codes "?>"

-- the nets in order
abbrev pub nets_text : List NetTree → List ℕ
nets_text nets = flat_map net_text nets

-- the whole text; `pnml` is written as two tags, since a document has a net
unfoldable pub canon : Document → List ℕ
canon document =
    declaration ++ start_tag (codes "pnml") (attribute (codes "xmlns") namespace) ++ nets_text document.nets ++ end_tag (codes "pnml")
    ++ 10 ∷ []
