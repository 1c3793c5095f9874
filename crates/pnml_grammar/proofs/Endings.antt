-- Each document that has begun can be ended: the open elements are closed, innermost first, each with what it
-- may lack, and where no root has occurred, one with an empty net occurs.
use Rattle.std.proofs.Common.{◌≡◌, ◌+◌, ◌≤◌, inl, inr, refl, sym, ap, subst, ◌∙◌, List, [], ◌∷◌, ◌++◌, append_assoc, append-nil, length, Bool, true, IsTrue, arith, true≢false}
use Rattle.std.specs.List.{AllByRecursion}
use Rattle.std.proofs.lemmas.Bool.{cases_Bool}
use Rattle.net_values.specs.declared.limits.TheConstants.{MAX_OPEN_ELEMENTS}
use Rattle.net_values.specs.declared.document.Document.{Document}
use Rattle.pnml_grammar.specs.declared.element.Context.TheVariants as contexts
use Rattle.pnml_grammar.specs.declared.token.Token.{Token}
use Rattle.pnml_grammar.specs.declared.token.Token.TheVariants as tokens
use Rattle.pnml_grammar.specs.Elements.{element_named}
use Rattle.pnml_grammar.specs.Trees.{Node, Nodes, node_tokens, nodes_tokens, node_height}
use Rattle.pnml_grammar.specs.Contents.{nodes_content}
use Rattle.pnml_grammar.specs.Counts.{◌plus◌, IsWithin}
use Rattle.pnml_grammar.specs.Documents.{is_complete}
use Rattle.pnml_grammar.specs.LegalTexts.{HasLegalTexts}
use Rattle.pnml_grammar.specs.OpenElements.{Opened, Spot, opened_tokens, frame_of, state_of}
use Rattle.pnml_grammar.proofs.EachLaws.{each_append}
use Rattle.pnml_grammar.proofs.ContentLaws.{plus_nothing}
use Rattle.pnml_grammar.proofs.RowLaws.{is_outside}
use Rattle.pnml_grammar.proofs.ReadingTrees.{inside_element}
use Rattle.pnml_grammar.proofs.LastNodes.{with_last, last_content, last_tokens, spot_with}
use Rattle.pnml_grammar.proofs.Spots.{IsSound, Takes, with_sound, spot_in, outer_sound, closed, takes_closed, closed_tokens}
use Rattle.pnml_grammar.proofs.Missing.{missing, Completes, missing_completes, missing_low, root_is_outermost, whole_root, MakesWhole, root_makes_whole}

-- ---- one element is closed

-- there is room for what is missing
none_around : (opened : List Opened) (outside : Nodes) → is_outside (frame_of opened outside).context ≡ true → length opened ≡ 0
none_around [] outside e = refl
none_around (inner ∷ outer) outside e = absurd (true≢false (sym e ∙ inside_element (frame_of outer outside).context (element_named inner.name)))

missing_shallow : (spot : Spot) (inner : Opened) → IsSound (spot_in spot inner)
    → length (inner ∷ spot.opened) + node_height (missing (state_of (spot_in spot inner)).top.context) ≤ MAX_OPEN_ELEMENTS
missing_shallow spot inner sound =
    let around = (state_of spot).top.context in
    let low_enough = sound.hold.2.shallow in
    elim (missing_low (state_of (spot_in spot inner)).top.context) [
      | inl root ↦
          let first = none_around spot.opened spot.outside (root_is_outermost around inner.name inner.attributes sound.hold.1.occurs root) in
          let height : node_height (missing (state_of (spot_in spot inner)).top.context) ≡ 1 = ap (λ c. node_height (missing c)) root in
          omega (arith, first, height)
      | inr flat ↦ omega (arith, flat, low_enough)
    ]

-- an open element with all that it lacked
record Filled (spot : Spot) (inner : Opened) : Type 0 where
  children : Nodes
  rest : List Token
  tokens_are : nodes_tokens children ≡ nodes_tokens inner.children ++ rest
  sound : IsSound (spot_in spot (record inner { children = children }))
  complete : IsTrue (is_complete (state_of (spot_in spot inner)).top.context (nodes_content (state_of (spot_in spot inner)).top.context children))
  legal : AllByRecursion HasLegalTexts rest

missing_taken : (spot : Spot) (inner : Opened) → IsSound (spot_in spot inner)
    → Completes (state_of (spot_in spot inner)).top.context (state_of (spot_in spot inner)).top.content (missing (state_of (spot_in spot inner)).top.context)
    → Takes (spot_in spot inner) (missing (state_of (spot_in spot inner)).top.context)
missing_taken spot inner sound completes =
    let state = state_of (spot_in spot inner) in
    record {
      child = completes.child;
      few = completes.few;
      shallow = missing_shallow spot inner sound;
      counted = subst IsWithin (sym (ap (λ c. state.counts plus c) completes.uncounted ∙ plus_nothing state.counts)) sound.counted;
    }

fill : (spot : Spot) (inner : Opened) → IsSound (spot_in spot inner) → Filled spot inner
fill spot inner sound =
    let state = state_of (spot_in spot inner) in
    let context = state.top.context in
    let node = missing context in
    elim (cases_Bool (is_complete context state.top.content)) [
      | inl whole ↦ record {
        children = inner.children;
        rest = [];
        tokens_are = sym (append-nil (nodes_tokens inner.children));
        sound = sound;
        complete = whole;
        legal = tt;
      }
      | inr lacks ↦
          let completes = missing_completes context state.top.content sound.hold.2.few lacks in
          record {
            children = with_last inner.children node;
            rest = node_tokens node;
            tokens_are = last_tokens inner.children node;
            sound = with_sound (spot_in spot inner) node sound (missing_taken spot inner sound completes);
            complete = subst (λ c. IsTrue (is_complete context c)) (sym (last_content context inner.children node)) completes.complete;
            legal = completes.legal;
          }
    ]

-- the element as a child of the one around it
record Closes (spot : Spot) (inner : Opened) : Type 0 where
  node : Node
  rest : List Token
  tokens_are : opened_tokens (spot_with spot node).opened (spot_with spot node).outside ≡ opened_tokens (inner ∷ spot.opened) spot.outside ++ rest
  sound : IsSound (spot_with spot node)
  legal : AllByRecursion HasLegalTexts rest

filled_tokens : (front : List Token) (start : Token) (children old rest : List Token) (end : Token) → children ≡ old ++ rest
    → (front ++ start ∷ children) ++ end ∷ [] ≡ (front ++ start ∷ old) ++ (rest ++ end ∷ [])
filled_tokens front start children old rest end e =
    ap (λ (t : List Token). (front ++ start ∷ t) ++ end ∷ []) e
    ∙ (ap (λ (t : List Token). t ++ end ∷ []) (sym (append_assoc front (start ∷ old) rest)) ∙ append_assoc (front ++ start ∷ old) rest (end ∷ []))

close : (spot : Spot) (inner : Opened) → IsSound (spot_in spot inner) → Closes spot inner
close spot inner sound =
    let filled = fill spot inner sound in
    let whole : Opened = record inner { children = filled.children } in
    record {
      node = closed whole;
      rest = filled.rest ++ tokens.End inner.name ∷ [];
      tokens_are = closed_tokens spot whole inner.name refl
          ∙ filled_tokens (opened_tokens spot.opened spot.outside) (tokens.Start inner.name inner.attributes) (nodes_tokens filled.children)
          (nodes_tokens inner.children) filled.rest (tokens.End inner.name) filled.tokens_are;
      sound = with_sound spot (closed whole) (outer_sound spot whole filled.sound) (takes_closed spot whole filled.sound filled.complete);
      legal = each_append HasLegalTexts filled.rest (tokens.End inner.name ∷ []) filled.legal (tt, tt);
    }

-- ---- all elements are closed

abbrev pub spot_at : Bool → List Opened → Nodes → Spot
spot_at declared opened outside = record { declared = declared; opened = opened; outside = outside }

-- the tokens and more are those of what is around the root
pub record Ends (declared : Bool) (list : List Token) : Type 0 where
  pub nodes : Nodes
  pub rest : List Token
  pub tokens_are : nodes_tokens nodes ≡ list ++ rest
  pub sound : IsSound (spot_at declared [] nodes)
  pub legal : AllByRecursion HasLegalTexts rest

ends_after : (declared : Bool) (list more next : List Token) → next ≡ list ++ more → AllByRecursion HasLegalTexts more → Ends declared next → Ends declared list
ends_after declared list more next e legal ends = record {
  nodes = ends.nodes;
  rest = more ++ ends.rest;
  tokens_are = ends.tokens_are ∙ (ap (λ (t : List Token). t ++ ends.rest) e ∙ append_assoc list more ends.rest);
  sound = ends.sound;
  legal = each_append HasLegalTexts more ends.rest legal ends.legal;
}

ends_here : (declared : Bool) (nodes : Nodes) → IsSound (spot_at declared [] nodes) → Ends declared (nodes_tokens nodes)
ends_here declared nodes sound =
    record { nodes = nodes; rest = []; tokens_are = sym (append-nil (nodes_tokens nodes)); sound = sound; legal = tt }

close_all : (outer : List Opened) (inner : Opened) (declared : Bool) (outside : Nodes) → IsSound (spot_at declared (inner ∷ outer) outside)
    → Ends declared (opened_tokens (inner ∷ outer) outside)
close_all [] inner declared outside sound =
    let closes = close (spot_at declared [] outside) inner sound in
    ends_after declared (opened_tokens (inner ∷ []) outside) closes.rest (nodes_tokens (with_last outside closes.node)) closes.tokens_are closes.legal
    (ends_here declared (with_last outside closes.node) closes.sound)
close_all (next ∷ outer) inner declared outside sound =
    let closes = close (spot_at declared (next ∷ outer) outside) inner sound in
    let wider : Opened = record next { children = with_last next.children closes.node } in
    ends_after declared (opened_tokens (inner ∷ next ∷ outer) outside) closes.rest (opened_tokens (wider ∷ outer) outside) closes.tokens_are closes.legal
    (close_all outer wider declared outside closes.sound)

close_any : (declared : Bool) (opened : List Opened) (outside : Nodes) → IsSound (spot_at declared opened outside) → Ends declared (opened_tokens opened outside)
close_any declared [] outside sound = ends_here declared outside sound
close_any declared (inner ∷ outer) outside sound = close_all outer inner declared outside sound

-- ---- one root occurs

-- the tokens and more are those of what is around the root, and one root has occurred
pub record EndsWithRoot (declared : Bool) (list : List Token) : Type 0 where
  pub ends : Ends declared list
  pub document : Document
  pub one : (nodes_content contexts.Document ends.nodes).documents ≡ document ∷ []

root_taken : (declared : Bool) (nodes : Nodes) → IsSound (spot_at declared [] nodes) → MakesWhole (nodes_content contexts.Document nodes) → Takes (spot_at declared [] nodes) whole_root
root_taken declared nodes sound whole =
    let state = state_of (spot_at declared [] nodes) in
    record {
      child = whole.child;
      few = whole.few;
      shallow = omega arith;
      counted = subst IsWithin (sym (ap (λ c. state.counts plus c) whole.uncounted ∙ plus_nothing state.counts)) sound.counted;
    }

with_root : (declared : Bool) (list : List Token) (ends : Ends declared list) → (nodes_content contexts.Document ends.nodes).documents ≡ [] → EndsWithRoot declared list
with_root declared list ends lacks =
    let whole = root_makes_whole (nodes_content contexts.Document ends.nodes) ends.sound.hold.few lacks in
    let spot = spot_at declared [] ends.nodes in
    record {
      ends = record {
        nodes = with_last ends.nodes whole_root;
        rest = ends.rest ++ node_tokens whole_root;
        tokens_are = last_tokens ends.nodes whole_root
            ∙ (ap (λ (t : List Token). t ++ node_tokens whole_root) ends.tokens_are ∙ append_assoc list ends.rest (node_tokens whole_root));
        sound = with_sound spot whole_root ends.sound (root_taken declared ends.nodes ends.sound whole);
        legal = each_append HasLegalTexts ends.rest (node_tokens whole_root) ends.legal whole.legal;
      };
      document = whole.document;
      one = ap (λ c. c.documents) (last_content contexts.Document ends.nodes whole_root) ∙ whole.one;
    }

one_root : (declared : Bool) (list : List Token) (ends : Ends declared list) (documents : List Document) → (nodes_content contexts.Document ends.nodes).documents ≡ documents
    → length documents ≤ 1 → EndsWithRoot declared list
one_root declared list ends [] e few = with_root declared list ends e
one_root declared list ends (document ∷ []) e few = record { ends = ends; document = document; one = e }
one_root declared list ends (document ∷ other ∷ documents) e few = absurd (omega arith)

-- what has begun can be ended
pub spot_ends : (spot : Spot) → IsSound spot → EndsWithRoot spot.declared (opened_tokens spot.opened spot.outside)
spot_ends spot sound =
    let ends = close_any spot.declared spot.opened spot.outside sound in
    let documents = (nodes_content contexts.Document ends.nodes).documents in
    one_root spot.declared (opened_tokens spot.opened spot.outside) ends documents refl ends.sound.hold.few.documents
