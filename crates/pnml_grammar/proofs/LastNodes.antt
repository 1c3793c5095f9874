-- One more node after others: what it adds to their tokens, to what they give and count, and to their height;
-- and the same for the innermost of the elements that are open.
use Rattle.std.proofs.Common.{◌≡◌, ℕ, ◌+◌, ◌≤◌, sym, ap, ◌∙◌, List, [], ◌∷◌, ◌++◌, append_assoc, append-nil, arith}
use Rattle.pnml_grammar.specs.declared.element.Context.{Context}
use Rattle.pnml_grammar.specs.declared.element.Context.TheVariants as contexts
use Rattle.pnml_grammar.specs.declared.token.Token.{Token}
use Rattle.pnml_grammar.specs.declared.token.Token.TheVariants as tokens
use Rattle.pnml_grammar.specs.Elements.{element_named, context_in}
use Rattle.pnml_grammar.specs.Trees.{Node, Nodes, none, ◌and◌, node_tokens, nodes_tokens, node_height, nodes_height}
use Rattle.pnml_grammar.specs.Contents.{◌then◌, node_content, nodes_content}
use Rattle.pnml_grammar.specs.Counts.{Counts, ◌plus◌, tag_counts, node_counts, nodes_counts}
use Rattle.pnml_grammar.specs.Documents.{IsChild, EachChild}
use Rattle.pnml_grammar.specs.OpenElements.{Opened, Spot, opened_tokens, frame_of, frames_around, opened_counts, state_after, state_of}
use Rattle.pnml_grammar.proofs.ContentLaws.{then_nothing, then_assoc, plus_nothing, nothing_plus, plus_assoc}
use Rattle.pnml_grammar.proofs.ReadingTrees.{with_more}

-- ---- after nodes

abbrev pub with_last : Nodes → Node → Nodes
with_last none node = node and none
with_last (first and nodes) node = first and with_last nodes node

pub last_tokens : (nodes : Nodes) (node : Node) → nodes_tokens (with_last nodes node) ≡ nodes_tokens nodes ++ node_tokens node
last_tokens none node = append-nil (node_tokens node)
last_tokens (first and nodes) node =
    ap (λ (t : List Token). node_tokens first ++ t) (last_tokens nodes node) ∙ sym (append_assoc (node_tokens first) (nodes_tokens nodes) (node_tokens node))

pub last_content : (context : Context) (nodes : Nodes) (node : Node) → nodes_content context (with_last nodes node) ≡ (nodes_content context nodes then node_content context node)
last_content context none node = then_nothing (node_content context node)
last_content context (first and nodes) node =
    ap (λ c. node_content context first then c) (last_content context nodes node)
    ∙ sym (then_assoc (node_content context first) (nodes_content context nodes) (node_content context node))

pub last_counts : (context : Context) (nodes : Nodes) (node : Node) → nodes_counts context (with_last nodes node) ≡ (nodes_counts context nodes plus node_counts context node)
last_counts context none node = plus_nothing (node_counts context node) ∙ sym (nothing_plus (node_counts context node))
last_counts context (first and nodes) node =
    ap (λ c. node_counts context first plus c) (last_counts context nodes node)
    ∙ sym (plus_assoc (node_counts context first) (nodes_counts context nodes) (node_counts context node))

pub last_each : (context : Context) (nodes : Nodes) (node : Node) → EachChild context nodes → IsChild context node → EachChild context (with_last nodes node)
last_each context none node each child = (child, tt)
last_each context (first and nodes) node each child = (each.0, last_each context nodes node each.1 child)

pub last_height : (depth limit : ℕ) (nodes : Nodes) (node : Node) → depth + nodes_height nodes ≤ limit → depth + node_height node ≤ limit → depth + nodes_height (with_last nodes node) ≤ limit
last_height depth limit none node all one = omega arith
last_height depth limit (first and nodes) node all one = let more = last_height depth limit nodes node (omega (arith, all)) one in omega (arith, all, more)

-- ---- in the innermost open element

abbrev pub opened_with : List Opened → Node → List Opened
opened_with [] node = []
opened_with (inner ∷ outer) node = record inner { children = with_last inner.children node } ∷ outer

abbrev pub outside_with : List Opened → Nodes → Node → Nodes
outside_with [] outside node = with_last outside node
outside_with (inner ∷ outer) outside node = outside

abbrev pub spot_with : Spot → Node → Spot
spot_with spot node = record spot { opened = opened_with spot.opened node; outside = outside_with spot.opened spot.outside node }

pub with_tokens : (opened : List Opened) (outside : Nodes) (node : Node)
    → opened_tokens (opened_with opened node) (outside_with opened outside node) ≡ opened_tokens opened outside ++ node_tokens node
with_tokens [] outside node = last_tokens outside node
with_tokens (inner ∷ outer) outside node =
    ap (λ (t : List Token). opened_tokens outer outside ++ tokens.Start inner.name inner.attributes ∷ t) (last_tokens inner.children node)
    ∙ sym (append_assoc (opened_tokens outer outside) (tokens.Start inner.name inner.attributes ∷ nodes_tokens inner.children) (node_tokens node))

regroup : (a b c d : Counts) → (a plus (b plus (c plus d))) ≡ ((a plus (b plus c)) plus d)
regroup a b c d = ap (λ x. a plus x) (sym (plus_assoc b c d)) ∙ sym (plus_assoc a (b plus c) d)

with_state_after : (opened : List Opened) (outside : Nodes) (node : Node) → state_after (opened_with opened node) (outside_with opened outside node)
    ≡ with_more (state_after opened outside) (node_content (frame_of opened outside).context node) (node_counts (frame_of opened outside).context node)
with_state_after [] outside node = λ i. record {
  top = record { context = contexts.Document; name = []; attributes = []; content = last_content contexts.Document outside node i };
  under = [];
  counts = last_counts contexts.Document outside node i;
}
with_state_after (inner ∷ outer) outside node =
    let around = (frame_of outer outside).context in
    let context = context_in around (element_named inner.name) in
    let counts = ap (λ x. opened_counts outer outside plus (tag_counts around inner.name plus x)) (last_counts context inner.children node)
    ∙ regroup (opened_counts outer outside) (tag_counts around inner.name) (nodes_counts context inner.children) (node_counts context node)
    in
    λ i. record {
      top = record { context = context; name = inner.name; attributes = inner.attributes; content = last_content context inner.children node i };
      under = frame_of outer outside ∷ frames_around outer outside;
      counts = counts i;
    }

pub with_state : (spot : Spot) (node : Node)
    → state_of (spot_with spot node) ≡ with_more (state_of spot) (node_content (state_of spot).top.context node) (node_counts (state_of spot).top.context node)
with_state spot node = with_state_after spot.opened spot.outside node
