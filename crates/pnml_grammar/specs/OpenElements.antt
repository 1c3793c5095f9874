-- The elements that are open after some tokens: the tokens that lead there, and what the open elements and their
-- whole children tell.
use Rattle.std.specs.Prelude.{◌≡◌, ℕ, Bool, List, [], ◌∷◌, ◌++◌}
use Rattle.pnml_grammar.specs.declared.element.Context.{Context}
use Rattle.pnml_grammar.specs.declared.element.Context.TheVariants as contexts
use Rattle.pnml_grammar.specs.declared.token.Token.{Token}
use Rattle.pnml_grammar.specs.declared.token.Token.TheVariants as tokens
use Rattle.pnml_grammar.specs.declared.token.Attribute.{Attribute}
use Rattle.pnml_grammar.specs.Elements.{element_named, context_in}
use Rattle.pnml_grammar.specs.Trees.{Nodes, nodes_tokens}
use Rattle.pnml_grammar.specs.Contents.{Content, nothing, nodes_content}
use Rattle.pnml_grammar.specs.Counts.{Counts, ◌plus◌, tag_counts, nodes_counts}
use Rattle.pnml_grammar.specs.Documents.{opening}

-- ---- the tokens

-- an element that is open after some tokens: its tag, and the children that are whole
pub record Opened : Type 0 where
  pub name : List ℕ
  pub attributes : List Attribute
  pub children : Nodes

-- the elements that are open after some tokens, innermost first, and what is around the root
pub record Spot : Type 0 where
  pub declared : Bool
  pub opened : List Opened
  pub outside : Nodes

abbrev pub opened_tokens : List Opened → Nodes → List Token
opened_tokens [] outside = nodes_tokens outside
opened_tokens (inner ∷ outer) outside =
    opened_tokens outer outside ++ tokens.Start inner.name inner.attributes ∷ nodes_tokens inner.children

-- the tokens are those of the spot
abbrev pub IsAfter : Spot → List Token → Type 0
IsAfter spot list = list ≡ opening spot.declared ++ opened_tokens spot.opened spot.outside

-- ---- what they tell

-- an open element: what is in it, its tag, and what its children have given
pub record Frame : Type 0 where
  pub context : Context
  pub name : List ℕ
  pub attributes : List Attribute
  pub content : Content

-- the innermost open element, those around it, and how many counted elements have occurred
pub record State : Type 0 where
  pub top : Frame
  pub under : List Frame
  pub counts : Counts

abbrev pub outermost : Frame
outermost = record { context = contexts.Document; name = []; attributes = []; content = nothing }

-- what the open elements and their children tell
abbrev pub frame_of : List Opened → Nodes → Frame
frame_of [] outside = record outermost { content = nodes_content contexts.Document outside }
frame_of (inner ∷ outer) outside =
    let context = context_in (frame_of outer outside).context (element_named inner.name) in
    record { context = context; name = inner.name; attributes = inner.attributes; content = nodes_content context inner.children }

abbrev pub frames_around : List Opened → Nodes → List Frame
frames_around [] outside = []
frames_around (inner ∷ outer) outside = frame_of outer outside ∷ frames_around outer outside

abbrev pub opened_counts : List Opened → Nodes → Counts
opened_counts [] outside = nodes_counts contexts.Document outside
opened_counts (inner ∷ outer) outside =
    opened_counts outer outside
    plus (tag_counts (frame_of outer outside).context inner.name
    plus nodes_counts (context_in (frame_of outer outside).context (element_named inner.name)) inner.children)

abbrev pub state_after : List Opened → Nodes → State
state_after opened outside =
    record { top = frame_of opened outside; under = frames_around opened outside; counts = opened_counts opened outside }

abbrev pub state_of : Spot → State
state_of spot = state_after spot.opened spot.outside
