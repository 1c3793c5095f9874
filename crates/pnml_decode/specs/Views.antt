-- The reader as a state of the machine: the open elements from the inside out.
use Rattle.std.specs.Prelude.{◌≡◌, List, ◌∷◌, map, reverse, codes}
use Rattle.pnml_grammar.specs.Contents.{Content as Given, ◌then◌, gives, value_in, id_in}
use Rattle.pnml_grammar.specs.declared.token.Attribute.{Attribute}
use Rattle.pnml_grammar.specs.Counts.{Counts as Counted}
use Rattle.pnml_grammar.specs.OpenElements.{Frame, State}
use Rattle.pnml_grammar.specs.Machine.{receive}
use Rattle.pnml_decode.specs.declared.content.Content.{Content}
use Rattle.pnml_decode.specs.declared.counts.Counts.{Counts}
use Rattle.pnml_decode.specs.declared.open.Open.{Open}
use Rattle.pnml_decode.specs.declared.reader.Reader.{Reader}
use Rattle.pnml_decode.specs.declared.tag_values.TagValues.{TagValues}

abbrev pub given : Content → Given
given c = record {
  documents = c.documents;
  nets = c.nets;
  items = c.items;
  names = c.names;
  numbers = c.numbers;
  texts = c.texts;
  bytes = c.bytes;
  numerals = c.numerals;
}

-- the content has this more
abbrev pub Gains : Content → Content → Given → Type 0
Gains old new more = given new ≡ (given old then more)

abbrev pub counted : Counts → Counted
counted c = record {
  places = c.places;
  transitions = c.transitions;
  arcs = c.arcs;
  references = c.references;
  pages = c.pages;
}

abbrev pub frame : Open → Frame
frame element = record {
  context = element.context;
  name = element.name;
  attributes = element.attributes;
  content = given element.content;
}

-- the element has received this
abbrev pub Receives : Open → Open → Given → Type 0
Receives old new more = frame new ≡ receive more (frame old)

-- what a closed element gives to the one around it
abbrev pub given_by : Open → Given
given_by closed = gives closed.context closed.attributes (given closed.content)

-- the elements around the innermost one; the outermost was opened first
abbrev pub frames : List Open → List Frame
frames opens = reverse (map frame opens)

abbrev pub view : Reader → State
view reader = record {
  top = frame reader.top;
  under = frames reader.under.items;
  counts = counted reader.counts;
}

-- the element is opened in the innermost one
abbrev pub Opens : Reader → Reader → Open → Type 0
Opens old new element =
    view new ≡ record { top = frame element; under = frame old.top ∷ frames old.under.items; counts = counted old.counts }

-- the values that a net, a page, a node or an arc takes from its tag
abbrev pub tag_values : List Attribute → TagValues
tag_values attributes = record {
  id = id_in attributes;
  source = value_in (codes "source") attributes;
  target = value_in (codes "target") attributes;
  reference = value_in (codes "ref") attributes;
}
