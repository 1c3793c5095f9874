-- Elements in which each child may occur are read: no token of them has a reason against it, and what was read
-- is what the elements give. By induction on the elements with what is in them, from any offset where they
-- have room.
use Rattle.std.proofs.Common.{◌≡◌, ℕ, suc, ◌+◌, ◌≤◌, refl, sym, ap, subst, ◌∙◌, List, [], ◌∷◌, ◌++◌, append_assoc, length, Option, Some, None, true, false, IsTrue, arith, bytes_eq, true≢false}
use Rattle.std.proofs.lemmas.Slice.Eq.{bytes_eq-Decides}
use Rattle.net_values.specs.declared.limits.TheConstants.{MAX_OPEN_ELEMENTS}
use Rattle.pnml_grammar.specs.declared.element.ElementKind.{ElementKind}
use Rattle.pnml_grammar.specs.declared.element.ElementKind.TheVariants as elements
use Rattle.pnml_grammar.specs.declared.element.Context.{Context}
use Rattle.pnml_grammar.specs.declared.element.Context.TheVariants as contexts
use Rattle.pnml_grammar.specs.declared.token.Token.{Token}
use Rattle.pnml_grammar.specs.declared.token.Token.TheVariants as tokens
use Rattle.pnml_grammar.specs.declared.token.Attribute.{Attribute}
use Rattle.pnml_grammar.specs.Elements.{element_named, context_in, context_if_any, context_of_kind, context_of_text}
use Rattle.pnml_grammar.specs.Trees.{Node, element, empty_element, comment, instruction, cdata, characters, Nodes, none, ◌and◌, node_tokens, nodes_tokens, node_height, nodes_height}
use Rattle.pnml_grammar.specs.Contents.{Content, nothing, ◌then◌, gives, node_content, nodes_content, cdata_content, characters_content}
use Rattle.pnml_grammar.specs.Counts.{Counts, no_counts, ◌plus◌, tag_counts, node_counts, nodes_counts, IsWithin}
use Rattle.pnml_grammar.specs.Documents.{HasFew, is_complete, IsChild, EachChild}
use Rattle.pnml_grammar.specs.OpenElements.{State}
use Rattle.pnml_grammar.specs.Machine.{run, receive, put, open_element, close_element}
use Rattle.pnml_grammar.proofs.ContentLaws.{then_nothing, then_assoc, plus_nothing, plus_assoc, within_front, few_front}
use Rattle.pnml_grammar.proofs.FirstLaws.{is_first}
use Rattle.pnml_grammar.proofs.StepLaws.{run_taken}
use Rattle.pnml_grammar.proofs.RowLaws.{is_outside, MayOpen, open_none, end_none, characters_none, cdata_none}

-- no element's children are around the root
text_inside : (context : Context) → is_outside (context_of_text context) ≡ false
text_inside contexts.Name = refl
text_inside contexts.InitialMarking = refl
text_inside contexts.Inscription = refl
text_inside context = refl

kind_inside : (kind : ElementKind) (context : Context) → is_outside (context_of_kind context kind) ≡ false
kind_inside elements.Text context = text_inside context
kind_inside kind context = refl

any_inside : (kind : Option ElementKind) (context : Context) → is_outside (context_if_any context kind) ≡ false
any_inside None context = refl
any_inside (Some kind) context = kind_inside kind context

pub inside_element : (context : Context) (kind : Option ElementKind) → is_outside (context_in context kind) ≡ false
inside_element contexts.Skipped kind = refl
inside_element context kind = any_inside kind context

-- ---- what is read of elements

abbrev pub with_more : State → Content → Counts → State
with_more state content counts = record { top = receive content state.top; under = state.under; counts = state.counts plus counts }

pub more_nothing : (state : State) → with_more state nothing no_counts ≡ state
more_nothing state = λ i. record {
  top = record { context = state.top.context; name = state.top.name; attributes = state.top.attributes; content = then_nothing state.top.content i };
  under = state.under;
  counts = plus_nothing state.counts i;
}

pub more_twice : (state : State) (a b : Content) (x y : Counts) → with_more (with_more state a x) b y ≡ with_more state (a then b) (x plus y)
more_twice state a b x y = λ i. record {
  top = record { context = state.top.context; name = state.top.name; attributes = state.top.attributes; content = then_assoc state.top.content a b i };
  under = state.under;
  counts = plus_assoc state.counts x y i;
}

-- what is put is more, and counts nothing
pub put_more : (state : State) (content : Content) → put state content ≡ with_more state content no_counts
put_more state content = λ i. record { top = receive content state.top; under = state.under; counts = sym (plus_nothing state.counts) i }

-- an element that is open, with what its children give, is closed
pub closed_more : (state : State) (name : List ℕ) (attributes : List Attribute) (content : Content) (counts : Counts)
    → close_element (with_more (open_element state name attributes) content counts)
    ≡ with_more state (gives (context_in state.top.context (element_named name)) attributes content) (tag_counts state.top.context name plus counts)
closed_more state name attributes content counts = λ i. record {
  top = receive (gives (context_in state.top.context (element_named name)) attributes content) state.top;
  under = state.under;
  counts = plus_assoc state.counts (tag_counts state.top.context name) counts i;
}

-- there is room for elements of this height, which give this and count so many
pub record HasRoom (state : State) (height : ℕ) (content : Content) (counts : Counts) : Type 0 where
  pub shallow : length state.under + height ≤ MAX_OPEN_ELEMENTS
  pub few : HasFew (state.top.content then content)
  pub counted : IsWithin (state.counts plus counts)

-- ---- the induction

same_bytes : (bytes : List ℕ) → bytes_eq bytes bytes ≡ true
same_bytes bytes = (bytes_eq-Decides bytes bytes).1 refl

start_occurs : (state : State) (name : List ℕ) (attributes : List Attribute) (children : Nodes) → IsChild state.top.context (element name attributes children)
    → HasRoom state (suc (nodes_height children)) (node_content state.top.context (element name attributes children)) (node_counts state.top.context (element name attributes children))
    → MayOpen state false name attributes
start_occurs state name attributes children child room =
    let inner = context_in state.top.context (element_named name) in
    record {
      occurs = child.0;
      first = is_first state.top.context state.top.content (nodes_content inner children) name attributes child.0 room.few child.2.complete;
      room = omega (arith, room.shallow);
      counted = within_front (state.counts plus tag_counts state.top.context name) (nodes_counts inner children)
          (subst IsWithin (sym (plus_assoc state.counts (tag_counts state.top.context name) (nodes_counts inner children))) room.counted);
      whole = λ e. absurd (true≢false (sym e));
    }

empty_occurs : (state : State) (name : List ℕ) (attributes : List Attribute) → IsChild state.top.context (empty_element name attributes)
    → HasRoom state 1 (node_content state.top.context (empty_element name attributes)) (node_counts state.top.context (empty_element name attributes))
    → MayOpen state true name attributes
empty_occurs state name attributes child room = record {
  occurs = child.0;
  first = is_first state.top.context state.top.content nothing name attributes child.0 room.few child.1.complete;
  room = omega (arith, room.shallow);
  counted = room.counted;
  whole = λ e. child.1.complete;
}

children_room : (state : State) (name : List ℕ) (attributes : List Attribute) (children : Nodes) → IsChild state.top.context (element name attributes children)
    → HasRoom state (suc (nodes_height children)) (node_content state.top.context (element name attributes children)) (node_counts state.top.context (element name attributes children))
    → HasRoom (open_element state name attributes) (nodes_height children) (nodes_content (context_in state.top.context (element_named name)) children)
    (nodes_counts (context_in state.top.context (element_named name)) children)
children_room state name attributes children child room =
    let inner = context_in state.top.context (element_named name) in
    record {
      shallow = omega (arith, room.shallow);
      few = child.2.few;
      counted = subst IsWithin (sym (plus_assoc state.counts (tag_counts state.top.context name) (nodes_counts inner children))) room.counted;
    }

end_run : (state : State) (name : List ℕ) (attributes : List Attribute) (content : Content) (counts : Counts) (rest : List Token)
    → IsTrue (is_complete (context_in state.top.context (element_named name)) content)
    → run (with_more (open_element state name attributes) content counts) (tokens.End name ∷ rest)
    ≡ run (with_more state (gives (context_in state.top.context (element_named name)) attributes content) (tag_counts state.top.context name plus counts)) rest
end_run state name attributes content counts rest complete =
    let inner = context_in state.top.context (element_named name) in
    run_taken (with_more (open_element state name attributes) content counts) (tokens.End name) rest
    (end_none inner content name name (record { inside = inside_element state.top.context (element_named name); same = same_bytes name; complete = complete }))
    ∙ ap (λ s. run s rest) (closed_more state name attributes content counts)

element_tokens : (start end : Token) (inner rest : List Token) → (start ∷ inner ++ end ∷ []) ++ rest ≡ start ∷ (inner ++ (end ∷ rest))
element_tokens start end inner rest = ap (λ (t : List Token). start ∷ t) (append_assoc inner (end ∷ []) rest)

first_room : (state : State) (node : Node) (nodes : Nodes)
    → HasRoom state (nodes_height (node and nodes)) (nodes_content state.top.context (node and nodes)) (nodes_counts state.top.context (node and nodes))
    → HasRoom state (node_height node) (node_content state.top.context node) (node_counts state.top.context node)
first_room state node nodes room =
    let context = state.top.context in
    record {
      shallow = omega (arith, room.shallow);
      few = few_front (state.top.content then node_content context node) (nodes_content context nodes)
          (subst HasFew (sym (then_assoc state.top.content (node_content context node) (nodes_content context nodes))) room.few);
      counted = within_front (state.counts plus node_counts context node) (nodes_counts context nodes)
          (subst IsWithin (sym (plus_assoc state.counts (node_counts context node) (nodes_counts context nodes))) room.counted);
    }

other_room : (state : State) (node : Node) (nodes : Nodes)
    → HasRoom state (nodes_height (node and nodes)) (nodes_content state.top.context (node and nodes)) (nodes_counts state.top.context (node and nodes))
    → HasRoom (with_more state (node_content state.top.context node) (node_counts state.top.context node)) (nodes_height nodes) (nodes_content state.top.context nodes)
    (nodes_counts state.top.context nodes)
other_room state node nodes room =
    let context = state.top.context in
    record {
      shallow = omega (arith, room.shallow);
      few = subst HasFew (sym (then_assoc state.top.content (node_content context node) (nodes_content context nodes))) room.few;
      counted = subst IsWithin (sym (plus_assoc state.counts (node_counts context node) (nodes_counts context nodes))) room.counted;
    }

mutual
  pub node_run : (node : Node) (state : State) (rest : List Token) → IsChild state.top.context node
      → HasRoom state (node_height node) (node_content state.top.context node) (node_counts state.top.context node)
      → run state (node_tokens node ++ rest) ≡ run (with_more state (node_content state.top.context node) (node_counts state.top.context node)) rest
  node_run (element name attributes children) state rest child room =
      let inner = context_in state.top.context (element_named name) in
      ap (run state) (element_tokens (tokens.Start name attributes) (tokens.End name) (nodes_tokens children) rest)
      ∙ run_taken state (tokens.Start name attributes) (nodes_tokens children ++ tokens.End name ∷ rest)
      (open_none state false name attributes (start_occurs state name attributes children child room))
      ∙ nodes_run children (open_element state name attributes) (tokens.End name ∷ rest) child.1 (children_room state name attributes children child room)
      ∙ end_run state name attributes (nodes_content inner children) (nodes_counts inner children) rest child.2.complete
  node_run (empty_element name attributes) state rest child room =
      run_taken state (tokens.Empty name attributes) rest (open_none state true name attributes (empty_occurs state name attributes child room))
  node_run comment state rest child room =
      run_taken state tokens.Comment rest refl ∙ ap (λ s. run s rest) (sym (more_nothing state))
  node_run instruction state rest child room =
      run_taken state tokens.Instruction rest refl ∙ ap (λ s. run s rest) (sym (more_nothing state))
  node_run (cdata value) state rest child room =
      run_taken state (tokens.Cdata value) rest (cdata_none state.top.context state.top.content value (record { occurs = child; few = room.few }))
      ∙ ap (λ s. run s rest) (put_more state (cdata_content state.top.context value))
  node_run (characters value) state rest child room =
      run_taken state (tokens.Characters value) rest (characters_none state.top.context state.top.content value (record { occurs = child; few = room.few }))
      ∙ ap (λ s. run s rest) (put_more state (characters_content state.top.context value))

  pub nodes_run : (nodes : Nodes) (state : State) (rest : List Token) → EachChild state.top.context nodes
      → HasRoom state (nodes_height nodes) (nodes_content state.top.context nodes) (nodes_counts state.top.context nodes)
      → run state (nodes_tokens nodes ++ rest) ≡ run (with_more state (nodes_content state.top.context nodes) (nodes_counts state.top.context nodes)) rest
  nodes_run none state rest each room = ap (λ s. run s rest) (sym (more_nothing state))
  nodes_run (node and nodes) state rest each room =
      let context = state.top.context in
      let middle = with_more state (node_content context node) (node_counts context node) in
      ap (run state) (append_assoc (node_tokens node) (nodes_tokens nodes) rest)
      ∙ node_run node state (nodes_tokens nodes ++ rest) each.0 (first_room state node nodes room)
      ∙ nodes_run nodes middle rest each.1 (other_room state node nodes room)
      ∙ ap (λ s. run s rest) (more_twice state (node_content context node) (nodes_content context nodes) (node_counts context node) (nodes_counts context nodes))
