-- What is read represents open elements: after tokens that have been read there are elements that are open,
-- each of which may occur where it does, and in each of them whole children that may occur there. Each token
-- adds a child, opens an element or closes the innermost one, since no reason applies to it.
use Rattle.std.proofs.Common.{◌≡◌, ℕ, suc, ◌+◌, ◌≤◌, refl, sym, ap, subst, ◌∙◌, List, [], ◌∷◌, ◌++◌, append_assoc, append-nil, length, Option, Some, None, Bool, true, false, IsTrue, is_none, arith, true≢false}
use Rattle.std.proofs.lemmas.Slice.Eq.{bytes_eq-Decides}
use Rattle.net_values.specs.declared.limits.TheConstants.{MAX_OPEN_ELEMENTS}
use Rattle.pnml_grammar.specs.declared.element.Context.{Context}
use Rattle.pnml_grammar.specs.declared.element.Context.TheVariants as contexts
use Rattle.pnml_grammar.specs.declared.reason.Reason.{Reason}
use Rattle.pnml_grammar.specs.declared.token.Token.{Token}
use Rattle.pnml_grammar.specs.declared.token.Token.TheVariants as tokens
use Rattle.pnml_grammar.specs.declared.token.Attribute.{Attribute}
use Rattle.pnml_grammar.specs.Elements.{element_named, context_in, may_occur}
use Rattle.pnml_grammar.specs.Trees.{Node, element, empty_element, comment, instruction, cdata, characters, Nodes, none, node_tokens, nodes_tokens, node_height, nodes_height}
use Rattle.pnml_grammar.specs.Contents.{nothing, ◌then◌, node_content, nodes_content}
use Rattle.pnml_grammar.specs.Counts.{no_counts, ◌plus◌, tag_counts, node_counts, nodes_counts, IsWithin}
use Rattle.pnml_grammar.specs.Documents.{HasFew, is_complete, IsChild, EachChild, opening}
use Rattle.pnml_grammar.specs.OpenElements.{Frame, State, Opened, Spot, IsAfter, opened_tokens, frame_of, frames_around, state_of}
use Rattle.pnml_grammar.specs.Machine.{run, step, next, reason_of, after_declaration, reached, put}
use Rattle.pnml_grammar.proofs.RunLaws.{bind_some, chosen, some_is}
use Rattle.pnml_grammar.proofs.ContentLaws.{plus_nothing, few_nothing, within_front}
use Rattle.pnml_grammar.proofs.FirstLaws.{second_in, few_after, few_same}
use Rattle.pnml_grammar.proofs.RowLaws.{may_open, may_end, may_characters, may_cdata}
use Rattle.pnml_grammar.proofs.ReadingTrees.{with_more, more_nothing, put_more}
use Rattle.pnml_grammar.proofs.LastNodes.{with_last, last_content, last_each, last_height, opened_with, outside_with, spot_with, with_tokens, with_state}

-- ---- what is in open elements

-- the children of an element that has so many elements open around them
pub record Hold (context : Context) (depth : ℕ) (nodes : Nodes) : Type 0 where
  pub each : EachChild context nodes
  pub few : HasFew (nodes_content context nodes)
  pub shallow : depth + nodes_height nodes ≤ MAX_OPEN_ELEMENTS

-- an element may occur in the one around it, after its children so far
pub record Fits (around : Frame) (name : List ℕ) (attributes : List Attribute) : Type 0 where
  pub occurs : IsTrue (may_occur around.context name attributes)
  pub first : second_in around.context around.content (element_named name) ≡ false

abbrev pub AllHold : List Opened → Nodes → Type 0
AllHold [] outside = Hold contexts.Document 0 outside
AllHold (inner ∷ outer) outside =
    AllHold outer outside × Fits (frame_of outer outside) inner.name inner.attributes
    × Hold (context_in (frame_of outer outside).context (element_named inner.name)) (length (inner ∷ outer)) inner.children

-- what has occurred so far may occur
pub record IsSound (spot : Spot) : Type 0 where
  pub hold : AllHold spot.opened spot.outside
  pub counted : IsWithin (state_of spot).counts

holds_few : (opened : List Opened) (outside : Nodes) → AllHold opened outside → HasFew (frame_of opened outside).content
holds_few [] outside hold = hold.few
holds_few (inner ∷ outer) outside hold = hold.2.few

frames_long : (opened : List Opened) (outside : Nodes) → length (frames_around opened outside) ≡ length opened
frames_long [] outside = refl
frames_long (inner ∷ outer) outside = ap suc (frames_long outer outside)

-- ---- one more child

more_hold : (context : Context) (depth : ℕ) (nodes : Nodes) (node : Node) → Hold context depth nodes → IsChild context node
    → HasFew (nodes_content context nodes then node_content context node) → depth + node_height node ≤ MAX_OPEN_ELEMENTS → Hold context depth (with_last nodes node)
more_hold context depth nodes node hold child few shallow = record {
  each = last_each context nodes node hold.each child;
  few = subst HasFew (sym (last_content context nodes node)) few;
  shallow = last_height depth MAX_OPEN_ELEMENTS nodes node hold.shallow shallow;
}

with_hold : (opened : List Opened) (outside : Nodes) (node : Node) → AllHold opened outside → IsChild (frame_of opened outside).context node
    → HasFew ((frame_of opened outside).content then node_content (frame_of opened outside).context node) → length opened + node_height node ≤ MAX_OPEN_ELEMENTS
    → AllHold (opened_with opened node) (outside_with opened outside node)
with_hold [] outside node hold child few shallow = more_hold contexts.Document 0 outside node hold child few shallow
with_hold (inner ∷ outer) outside node hold child few shallow =
    (hold.0, hold.1, more_hold (context_in (frame_of outer outside).context (element_named inner.name)) (length (inner ∷ outer)) inner.children node hold.2 child few shallow)

-- a child may occur in the innermost open element
pub record Takes (spot : Spot) (node : Node) : Type 0 where
  pub child : IsChild (state_of spot).top.context node
  pub few : HasFew ((state_of spot).top.content then node_content (state_of spot).top.context node)
  pub shallow : length spot.opened + node_height node ≤ MAX_OPEN_ELEMENTS
  pub counted : IsWithin ((state_of spot).counts plus node_counts (state_of spot).top.context node)

pub with_sound : (spot : Spot) (node : Node) → IsSound spot → Takes spot node → IsSound (spot_with spot node)
with_sound spot node sound takes = record {
  hold = with_hold spot.opened spot.outside node sound.hold takes.child takes.few takes.shallow;
  counted = subst (λ s. IsWithin s.counts) (sym (with_state spot node)) takes.counted;
}

-- ---- one token more

pub record After (spot : Spot) (token : Token) : Type 0 where
  pub after : Spot
  pub sound : IsSound after
  pub leads : state_of after ≡ next (state_of spot) token
  pub tokens_are : opened_tokens after.opened after.outside ≡ opened_tokens spot.opened spot.outside ++ token ∷ []
  pub declared : after.declared ≡ spot.declared

-- a token that is a child
child_after : (spot : Spot) (token : Token) (node : Node) → node_tokens node ≡ token ∷ [] → IsSound spot → Takes spot node
    → with_more (state_of spot) (node_content (state_of spot).top.context node) (node_counts (state_of spot).top.context node) ≡ next (state_of spot) token → After spot token
child_after spot token node one sound takes leads = record {
  after = spot_with spot node;
  sound = with_sound spot node sound takes;
  leads = with_state spot node ∙ leads;
  tokens_are = with_tokens spot.opened spot.outside node ∙ ap (λ (t : List Token). opened_tokens spot.opened spot.outside ++ t) one;
  declared = refl;
}

-- a token that is no element
holds_shallow : (opened : List Opened) (outside : Nodes) → AllHold opened outside → length opened ≤ MAX_OPEN_ELEMENTS
holds_shallow [] outside hold = omega arith
holds_shallow (inner ∷ outer) outside hold = omega (arith, hold.2.shallow)

pub takes_flat : (spot : Spot) (node : Node) → node_height node ≡ 0 → node_counts (state_of spot).top.context node ≡ no_counts → IsSound spot
    → IsChild (state_of spot).top.context node → HasFew ((state_of spot).top.content then node_content (state_of spot).top.context node) → Takes spot node
takes_flat spot node flat uncounted sound child few = record {
  child = child;
  few = few;
  shallow = omega (arith, flat, holds_shallow spot.opened spot.outside sound.hold);
  counted = subst IsWithin (sym (ap (λ c. (state_of spot).counts plus c) uncounted ∙ plus_nothing (state_of spot).counts)) sound.counted;
}

trivia_after : (spot : Spot) (token : Token) (node : Node) → node_tokens node ≡ token ∷ [] → node_height node ≡ 0 → node_counts (state_of spot).top.context node ≡ no_counts
    → IsChild (state_of spot).top.context node → node_content (state_of spot).top.context node ≡ nothing → next (state_of spot) token ≡ state_of spot → IsSound spot → After spot token
trivia_after spot token node one flat uncounted child gives_nothing same sound =
    let few = few_same (state_of spot).top.content (holds_few spot.opened spot.outside sound.hold) in
    child_after spot token node one sound
    (takes_flat spot node flat uncounted sound child (subst (λ c. HasFew ((state_of spot).top.content then c)) (sym gives_nothing) few))
    ((λ i. with_more (state_of spot) (gives_nothing i) (uncounted i)) ∙ (more_nothing (state_of spot) ∙ sym same))

-- a token that gives what its node does, and is no element
value_after : (spot : Spot) (token : Token) (node : Node) → node_tokens node ≡ token ∷ [] → node_height node ≡ 0 → node_counts (state_of spot).top.context node ≡ no_counts
    → IsChild (state_of spot).top.context node → HasFew ((state_of spot).top.content then node_content (state_of spot).top.context node)
    → next (state_of spot) token ≡ put (state_of spot) (node_content (state_of spot).top.context node) → IsSound spot → After spot token
value_after spot token node one flat uncounted child few puts sound =
    child_after spot token node one sound (takes_flat spot node flat uncounted sound child few)
    ((λ i. with_more (state_of spot) (node_content (state_of spot).top.context node) (uncounted i)) ∙ sym (put_more (state_of spot) (node_content (state_of spot).top.context node)) ∙ sym puts)

cdata_after : (spot : Spot) (value : List ℕ) → IsSound spot → reason_of (state_of spot) (tokens.Cdata value) ≡ None → After spot (tokens.Cdata value)
cdata_after spot value sound e =
    let may = may_cdata (state_of spot).top.context (state_of spot).top.content value (holds_few spot.opened spot.outside sound.hold) e in
    value_after spot (tokens.Cdata value) (cdata value) refl refl refl may.occurs may.few refl sound

characters_after : (spot : Spot) (value : List ℕ) → IsSound spot → reason_of (state_of spot) (tokens.Characters value) ≡ None → After spot (tokens.Characters value)
characters_after spot value sound e =
    let may = may_characters (state_of spot).top.context (state_of spot).top.content value (holds_few spot.opened spot.outside sound.hold) e in
    value_after spot (tokens.Characters value) (characters value) refl refl refl may.occurs may.few refl sound

-- a tag
empty_after : (spot : Spot) (name : List ℕ) (attributes : List Attribute) → IsSound spot → reason_of (state_of spot) (tokens.Empty name attributes) ≡ None → After spot (tokens.Empty name attributes)
empty_after spot name attributes sound e =
    let top = (state_of spot).top in
    let may = may_open (state_of spot) true name attributes sound.counted e in
    child_after spot (tokens.Empty name attributes) (empty_element name attributes) refl sound
    (record {
      child = (may.occurs, record { few = few_nothing; complete = may.whole refl });
      few = few_after top.context top.content nothing name attributes (holds_few spot.opened spot.outside sound.hold) few_nothing may.first;
      shallow = omega (arith, may.room, frames_long spot.opened spot.outside);
      counted = may.counted;
    })
    refl

start_after : (spot : Spot) (name : List ℕ) (attributes : List Attribute) → IsSound spot → reason_of (state_of spot) (tokens.Start name attributes) ≡ None → After spot (tokens.Start name attributes)
start_after spot name attributes sound e =
    let state = state_of spot in
    let may = may_open state false name attributes sound.counted e in
    let counts : ((state.counts plus (tag_counts state.top.context name plus no_counts)) ≡ (state.counts plus tag_counts state.top.context name)) =
    ap (λ c. state.counts plus c) (plus_nothing (tag_counts state.top.context name))
    in
    record {
      after = record spot { opened = record { name = name; attributes = attributes; children = none } ∷ spot.opened };
      sound = record {
        hold = (
          sound.hold,
          record { occurs = may.occurs; first = may.first },
          record { each = tt; few = few_nothing; shallow = omega (arith, may.room, frames_long spot.opened spot.outside) },
        );
        counted = subst IsWithin (sym counts) may.counted;
      };
      leads = λ i. record { top = (next state (tokens.Start name attributes)).top; under = (next state (tokens.Start name attributes)).under; counts = counts i };
      tokens_are = refl;
      declared = refl;
    }

-- an element that is closed is a child of the one around it
abbrev pub spot_in : Spot → Opened → Spot
spot_in spot inner = record spot { opened = inner ∷ spot.opened }

pub outer_sound : (spot : Spot) (inner : Opened) → IsSound (spot_in spot inner) → IsSound spot
outer_sound spot inner sound = record {
  hold = sound.hold.0;
  counted = within_front (state_of spot).counts
      (tag_counts (state_of spot).top.context inner.name plus nodes_counts (context_in (state_of spot).top.context (element_named inner.name)) inner.children) sound.counted;
}

abbrev pub closed : Opened → Node
closed inner = element inner.name inner.attributes inner.children

pub takes_closed : (spot : Spot) (inner : Opened) → IsSound (spot_in spot inner)
    → IsTrue (is_complete (state_of (spot_in spot inner)).top.context (state_of (spot_in spot inner)).top.content) → Takes spot (closed inner)
takes_closed spot inner sound complete =
    let top = (state_of spot).top in
    let content = nodes_content (context_in top.context (element_named inner.name)) inner.children in
    let hold = sound.hold in
    record {
      child = (hold.1.occurs, hold.2.each, record { few = hold.2.few; complete = complete });
      few = few_after top.context top.content content inner.name inner.attributes (holds_few spot.opened spot.outside hold.0) hold.2.few hold.1.first;
      shallow = omega (arith, hold.2.shallow);
      counted = sound.counted;
    }

pub closed_tokens : (spot : Spot) (inner : Opened) (name : List ℕ) → inner.name ≡ name
    → opened_tokens (spot_with spot (closed inner)).opened (spot_with spot (closed inner)).outside ≡ opened_tokens (inner ∷ spot.opened) spot.outside ++ tokens.End name ∷ []
closed_tokens spot inner name same =
    with_tokens spot.opened spot.outside (closed inner)
    ∙ (sym (append_assoc (opened_tokens spot.opened spot.outside) (tokens.Start inner.name inner.attributes ∷ nodes_tokens inner.children) (tokens.End inner.name ∷ []))
    ∙ ap (λ n. opened_tokens (inner ∷ spot.opened) spot.outside ++ tokens.End n ∷ []) same)

end_after : (declared : Bool) (opened : List Opened) (outside : Nodes) (name : List ℕ) → IsSound (record { declared = declared; opened = opened; outside = outside })
    → reason_of (state_of (record { declared = declared; opened = opened; outside = outside })) (tokens.End name) ≡ None
    → After (record { declared = declared; opened = opened; outside = outside }) (tokens.End name)
end_after declared [] outside name sound e = absurd (true≢false (may_end contexts.Document (nodes_content contexts.Document outside) [] name e).inside)
end_after declared (inner ∷ outer) outside name sound e =
    let spot : Spot = record { declared = declared; opened = outer; outside = outside } in
    let top = (state_of (spot_in spot inner)).top in
    let may = may_end top.context top.content inner.name name e in
    record {
      after = spot_with spot (closed inner);
      sound = with_sound spot (closed inner) (outer_sound spot inner sound) (takes_closed spot inner sound may.complete);
      leads = with_state spot (closed inner);
      tokens_are = closed_tokens spot inner name ((bytes_eq-Decides inner.name name).0 may.same);
      declared = refl;
    }

-- a token to which no reason applies
pub token_after : (spot : Spot) (token : Token) → IsSound spot → reason_of (state_of spot) token ≡ None → After spot token
token_after spot tokens.Declaration sound e = absurd cc
token_after spot tokens.Comment sound e = trivia_after spot tokens.Comment comment refl refl refl tt refl refl sound
token_after spot tokens.Instruction sound e = trivia_after spot tokens.Instruction instruction refl refl refl tt refl refl sound
token_after spot (tokens.Cdata value) sound e = cdata_after spot value sound e
token_after spot (tokens.Start name attributes) sound e = start_after spot name attributes sound e
token_after spot (tokens.Empty name attributes) sound e = empty_after spot name attributes sound e
token_after spot (tokens.End name) sound e = end_after spot.declared spot.opened spot.outside name sound e
token_after spot (tokens.Characters value) sound e = characters_after spot value sound e

-- ---- one token after the other

-- whether there is a reason or none
none_if : (reason : Option Reason) → is_none reason ≡ true → reason ≡ None
none_if None e = refl
none_if (Some reason) e = absurd (true≢false (sym e))

pub step_found : (state : State) (token : Token) (list : List Token) (end : State) → run state (token ∷ list) ≡ Some end
    → (reason_of state token ≡ None) × (run (next state token) list ≡ Some end)
step_found state token list end e =
    let found = bind_some (step state token) (λ after. run after list) end e in
    let passed = chosen (is_none (reason_of state token)) (Some (next state token)) found.0 found.1 in
    (none_if (reason_of state token) passed.0, ap (λ s. run s list) (some_is (next state token) found.0 passed.1) ∙ found.2)

pub record Reaches (spot : Spot) (list : List Token) (state : State) : Type 0 where
  pub end : Spot
  pub sound : IsSound end
  pub leads : state_of end ≡ state
  pub tokens_are : opened_tokens end.opened end.outside ≡ opened_tokens spot.opened spot.outside ++ list
  pub declared : end.declared ≡ spot.declared

run_spot : (list : List Token) (spot : Spot) (state : State) → IsSound spot → run (state_of spot) list ≡ Some state → Reaches spot list state
run_spot [] spot state sound e = record {
  end = spot;
  sound = sound;
  leads = some_is (state_of spot) state e;
  tokens_are = sym (append-nil (opened_tokens spot.opened spot.outside));
  declared = refl;
}
run_spot (token ∷ list) spot state sound e =
    let found = step_found (state_of spot) token list state e in
    let first = token_after spot token sound found.0 in
    let more = run_spot list first.after state first.sound (ap (λ s. run s list) first.leads ∙ found.1) in
    record {
      end = more.end;
      sound = more.sound;
      leads = more.leads;
      tokens_are = more.tokens_are
          ∙ (ap (λ (t : List Token). t ++ list) first.tokens_are ∙ append_assoc (opened_tokens spot.opened spot.outside) (token ∷ []) list);
      declared = more.declared ∙ first.declared;
    }

-- a declaration in front is that of the spot
declaration_first : (list : List Token) → (declared : Bool) × (list ≡ opening declared ++ after_declaration list)
declaration_first [] = (false, refl)
declaration_first (tokens.Declaration ∷ list) = (true, refl)
declaration_first (token ∷ list) = (false, refl)

nothing_sound : (declared : Bool) → IsSound (record { declared = declared; opened = []; outside = none })
nothing_sound declared = record {
  hold = record { each = tt; few = few_nothing; shallow = omega arith };
  counted = omega arith;
}

-- tokens lead to what the elements tell that are open after them, and all in these may occur where it is
pub record Represents (list : List Token) (state : State) : Type 0 where
  pub spot : Spot
  pub after : IsAfter spot list
  pub leads : state_of spot ≡ state
  pub sound : IsSound spot

pub reached_occurs : (list : List Token) (state : State) → reached list ≡ Some state → Represents list state
unfolding reached
reached_occurs list state e =
    let front = declaration_first list in
    let reaches = run_spot (after_declaration list) (record { declared = front.0; opened = []; outside = none }) state (nothing_sound front.0) e in
    record {
      spot = reaches.end;
      after = front.1 ∙ (λ i. opening (sym reaches.declared i) ++ sym reaches.tokens_are i);
      leads = reaches.leads;
      sound = reaches.sound;
    }
