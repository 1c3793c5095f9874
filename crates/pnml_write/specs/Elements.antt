-- The pieces that elements are written in: attributes, labels, and what follows the attributes.
use Rattle.std.specs.Prelude.{ℕ, ◌==◌, if◌then◌else◌, List, [], ◌∷◌, ◌++◌, codes, decimal}
use Rattle.net_values.specs.declared.document.RefNode.{RefNode}
use Rattle.pnml_grammar.specs.Canon.{escaped, label, name_text, marking_text, weight_text}
use Rattle.pnml_write.specs.declared.elements.NumberLabel.{NumberLabel}
use Rattle.pnml_write.specs.declared.elements.NumberLabel.TheVariants.{Marking, Weight}

-- an attribute, after what opens it up to its first quote
abbrev pub quoted : List ℕ → List ℕ → List ℕ
quoted opening value = opening ++ escaped value ++ 34 ∷ []

-- the end of an empty tag where there are no children, else the end of the start tag, the children and the end tag
abbrev pub after_attributes : List ℕ → List ℕ → List ℕ
after_attributes [] end = codes "/>"
after_attributes (byte ∷ bytes) end = codes ">" ++ (byte ∷ bytes) ++ end

-- the text of a label with a number
abbrev pub label_text : NumberLabel → List ℕ
label_text (Marking tokens) = marking_text tokens
label_text (Weight weight) = weight_text weight

-- a label with a number, where the number isn't the usual one
abbrev pub number_text : ℕ → List ℕ → ℕ → List ℕ
number_text usual name number = if number == usual then [] else label name (decimal number)

-- a reference node, after what opens it up to the first quote of its identifier
abbrev pub reference_text : List ℕ → RefNode → List ℕ → List ℕ
reference_text opening node end =
    quoted opening node.id ++ quoted (codes " ref=\"") node.target ++ after_attributes (name_text node.name) end
