-- Tokens tell what elements are open after them and what these have given: taking the tokens one after the
-- other, whether or not a reason applies to them, comes to just that.
use Rattle.std.proofs.Common.{◌≡◌, Bool, true, false, List, [], ◌∷◌, ◌++◌, refl, sym, ap, ◌∙◌, append_assoc, append-nil}
use Rattle.pnml_grammar.specs.declared.element.Context.TheVariants as contexts
use Rattle.pnml_grammar.specs.declared.token.Token.{Token}
use Rattle.pnml_grammar.specs.declared.token.Token.TheVariants as tokens
use Rattle.pnml_grammar.specs.Elements.{element_named, context_in}
use Rattle.pnml_grammar.specs.Trees.{Node, element, empty_element, comment, instruction, cdata, characters, Nodes, none, ◌and◌, node_tokens, nodes_tokens}
use Rattle.pnml_grammar.specs.Contents.{node_content, nodes_content, cdata_content, characters_content}
use Rattle.pnml_grammar.specs.Counts.{node_counts, nodes_counts, tag_counts}
use Rattle.pnml_grammar.specs.Documents.{opening}
use Rattle.pnml_grammar.specs.OpenElements.{State, Opened, Spot, opened_tokens, IsAfter, frame_of, frames_around, opened_counts, state_after, state_of}
use Rattle.pnml_grammar.specs.Machine.{start, next, open_element}
use Rattle.pnml_grammar.proofs.ContentLaws.{nothing_plus, plus_assoc}
use Rattle.pnml_grammar.proofs.ReadingTrees.{with_more, more_nothing, more_twice, put_more, closed_more}

-- the tokens one after the other
abbrev after_all : State → List Token → State
after_all state [] = state
after_all state (token ∷ list) = after_all (next state token) list

element_tokens : (start end : Token) (inner rest : List Token) → (start ∷ inner ++ end ∷ []) ++ rest ≡ start ∷ (inner ++ (end ∷ rest))
element_tokens start end inner rest = ap (λ (t : List Token). start ∷ t) (append_assoc inner (end ∷ []) rest)

mutual
  after_node : (node : Node) (state : State) (rest : List Token)
      → after_all state (node_tokens node ++ rest) ≡ after_all (with_more state (node_content state.top.context node) (node_counts state.top.context node)) rest
  after_node (element name attributes children) state rest =
      let inner = context_in state.top.context (element_named name) in
      ap (after_all state) (element_tokens (tokens.Start name attributes) (tokens.End name) (nodes_tokens children) rest)
      ∙ after_nodes children (open_element state name attributes) (tokens.End name ∷ rest)
      ∙ ap (λ s. after_all s rest) (closed_more state name attributes (nodes_content inner children) (nodes_counts inner children))
  after_node (empty_element name attributes) state rest = refl
  after_node comment state rest = ap (λ s. after_all s rest) (sym (more_nothing state))
  after_node instruction state rest = ap (λ s. after_all s rest) (sym (more_nothing state))
  after_node (cdata value) state rest = ap (λ s. after_all s rest) (put_more state (cdata_content state.top.context value))
  after_node (characters value) state rest = ap (λ s. after_all s rest) (put_more state (characters_content state.top.context value))

  after_nodes : (nodes : Nodes) (state : State) (rest : List Token)
      → after_all state (nodes_tokens nodes ++ rest) ≡ after_all (with_more state (nodes_content state.top.context nodes) (nodes_counts state.top.context nodes)) rest
  after_nodes none state rest = ap (λ s. after_all s rest) (sym (more_nothing state))
  after_nodes (node and nodes) state rest =
      let context = state.top.context in
      ap (after_all state) (append_assoc (node_tokens node) (nodes_tokens nodes) rest)
      ∙ after_node node state (nodes_tokens nodes ++ rest)
      ∙ after_nodes nodes (with_more state (node_content context node) (node_counts context node)) rest
      ∙ ap (λ s. after_all s rest) (more_twice state (node_content context node) (nodes_content context nodes) (node_counts context node) (nodes_counts context nodes))

around_root : (outside : Nodes) → with_more start (nodes_content contexts.Document outside) (nodes_counts contexts.Document outside) ≡ state_after [] outside
around_root outside = λ i. record {
  top = frame_of [] outside;
  under = [];
  counts = nothing_plus (nodes_counts contexts.Document outside) i;
}

one_deeper : (inner : Opened) (outer : List Opened) (outside : Nodes)
    → with_more (open_element (state_after outer outside) inner.name inner.attributes)
    (nodes_content (context_in (frame_of outer outside).context (element_named inner.name)) inner.children)
    (nodes_counts (context_in (frame_of outer outside).context (element_named inner.name)) inner.children)
    ≡ state_after (inner ∷ outer) outside
one_deeper inner outer outside =
    let around = (frame_of outer outside).context in
    λ i. record {
      top = frame_of (inner ∷ outer) outside;
      under = frames_around (inner ∷ outer) outside;
      counts = plus_assoc (opened_counts outer outside) (tag_counts around inner.name) (nodes_counts (context_in around (element_named inner.name)) inner.children) i;
    }

after_opened : (opened : List Opened) (outside : Nodes) (rest : List Token) → after_all start (opened_tokens opened outside ++ rest) ≡ after_all (state_after opened outside) rest
after_opened [] outside rest = after_nodes outside start rest ∙ ap (λ s. after_all s rest) (around_root outside)
after_opened (inner ∷ outer) outside rest =
    let tag = tokens.Start inner.name inner.attributes in
    ap (after_all start) (append_assoc (opened_tokens outer outside) (tag ∷ nodes_tokens inner.children) rest)
    ∙ after_opened outer outside (tag ∷ (nodes_tokens inner.children ++ rest))
    ∙ after_nodes inner.children (open_element (state_after outer outside) inner.name inner.attributes) rest
    ∙ ap (λ s. after_all s rest) (one_deeper inner outer outside)

-- a declaration in front does nothing
after_opening : (declared : Bool) (list : List Token) → after_all start (opening declared ++ list) ≡ after_all start list
after_opening true list = refl
after_opening false list = refl

after_spot : (spot : Spot) (list : List Token) → IsAfter spot list → after_all start list ≡ state_of spot
after_spot spot list beyond =
    ap (after_all start) beyond
    ∙ after_opening spot.declared (opened_tokens spot.opened spot.outside)
    ∙ ap (after_all start) (sym (append-nil (opened_tokens spot.opened spot.outside)))
    ∙ after_opened spot.opened spot.outside []

-- what follows the same tokens is the same
pub one_state_after : (spot other : Spot) (list : List Token) → IsAfter spot list → IsAfter other list → state_of spot ≡ state_of other
one_state_after spot other list one two = sym (after_spot spot list one) ∙ after_spot other list two
