-- Reading token by token finds just the documents: the tokens of a document are read and give it, tokens that are
-- read to the end spell what they give, and what is read so far is what begins a document.
use Rattle.std.proofs.Common.{◌≡◌, ◌≤◌, refl, sym, ap, ap₂, subst, ◌∙◌, List, [], ◌∷◌, ◌++◌, append_assoc, append-nil, length, Option, Some, None, Bool, true, false, IsTrue, arith, true≢false}
use Rattle.std.specs.List.{AllByRecursion}
use Rattle.std.proofs.lemmas.Bool.{and_parts}
use Rattle.net_values.specs.declared.limits.TheConstants.{MAX_OPEN_ELEMENTS}
use Rattle.net_values.specs.declared.document.Document.{Document}
use Rattle.pnml_grammar.specs.declared.element.ElementKind.{ElementKind}
use Rattle.pnml_grammar.specs.declared.element.ElementKind.TheVariants as elements
use Rattle.pnml_grammar.specs.declared.element.Context.TheVariants as contexts
use Rattle.pnml_grammar.specs.declared.token.Token.{Token}
use Rattle.pnml_grammar.specs.declared.token.Token.TheVariants as tokens
use Rattle.pnml_grammar.specs.declared.token.Attribute.{Attribute}
use Rattle.pnml_grammar.specs.Elements.{element_named, context_if_any, may_hold, may_occur_as}
use Rattle.pnml_grammar.specs.Trees.{Node, element, empty_element, comment, instruction, cdata, characters, Nodes, none, ◌and◌, nodes_tokens, nodes_height}
use Rattle.pnml_grammar.specs.Contents.{Content, nothing, ◌then◌, gives, node_content, nodes_content}
use Rattle.pnml_grammar.specs.Counts.{nodes_counts}
use Rattle.pnml_grammar.specs.Documents.{HasFew, IsChild, EachChild, opening, Spells, SpellOneDocument}
use Rattle.pnml_grammar.specs.Tokens.{first_offset}
use Rattle.pnml_grammar.specs.LegalTexts.{HasLegalTexts}
use Rattle.pnml_grammar.specs.OpenElements.{State, Opened, Spot, IsAfter, opened_tokens, state_of}
use Rattle.pnml_grammar.specs.Machine.{start, run, next, after_declaration, the_one, finish, reached, read}
use Rattle.pnml_grammar.specs.FirstFault.{Begins}
use Rattle.pnml_grammar.proofs.RunLaws.{bind_some, some_is}
use Rattle.pnml_grammar.proofs.OffsetLaws.{one_list}
use Rattle.pnml_grammar.proofs.EachLaws.{each_append, each_back}
use Rattle.pnml_grammar.proofs.ValuedLaws.{valued_of}
use Rattle.pnml_grammar.proofs.Spots.{IsSound, step_found, reached_occurs}
use Rattle.pnml_grammar.proofs.Endings.{spot_at, spot_ends}
use Rattle.pnml_grammar.proofs.StepLaws.{run_taken}
use Rattle.pnml_grammar.proofs.ReadingTrees.{with_more, HasRoom, nodes_run}

-- ---- around the root

-- what is around the root gives documents only
abbrev only_documents : Content → Content
only_documents content = record nothing { documents = content.documents }

root_gives : (kind : Option ElementKind) (attributes : List Attribute) (content : Content) → IsTrue (may_occur_as contexts.Document kind attributes)
    → gives (context_if_any contexts.Document kind) attributes content ≡ only_documents (gives (context_if_any contexts.Document kind) attributes content)
root_gives None attributes content occurs = refl
root_gives (Some elements.Pnml) attributes content occurs = refl
root_gives (Some kind) attributes content occurs = absurd (true≢false (sym (and_parts _ (may_hold contexts.Document kind) occurs).1))

outside_gives_one : (node : Node) → IsChild contexts.Document node → node_content contexts.Document node ≡ only_documents (node_content contexts.Document node)
outside_gives_one (element name attributes children) child = root_gives (element_named name) attributes _ child.0
outside_gives_one (empty_element name attributes) child = root_gives (element_named name) attributes nothing child.0
outside_gives_one comment child = refl
outside_gives_one instruction child = refl
outside_gives_one (cdata value) child = refl
outside_gives_one (characters value) child = refl

outside_gives : (nodes : Nodes) → EachChild contexts.Document nodes → nodes_content contexts.Document nodes ≡ only_documents (nodes_content contexts.Document nodes)
outside_gives none each = refl
outside_gives (node and nodes) each = ap₂ ◌then◌ (outside_gives_one node each.0) (outside_gives nodes each.1)

few_documents : (documents : List Document) (document : Document) → documents ≡ document ∷ [] → HasFew (record nothing { documents = documents })
few_documents documents document one = omega (arith, ap length one)

-- ---- the declaration in front

no_declaration : (nodes : Nodes) → after_declaration (nodes_tokens nodes) ≡ nodes_tokens nodes
no_declaration none = refl
no_declaration ((element name attributes children) and nodes) = refl
no_declaration ((empty_element name attributes) and nodes) = refl
no_declaration (comment and nodes) = refl
no_declaration (instruction and nodes) = refl
no_declaration ((cdata value) and nodes) = refl
no_declaration ((characters value) and nodes) = refl

after_opening : (declared : Bool) (nodes : Nodes) → after_declaration (opening declared ++ nodes_tokens nodes) ≡ nodes_tokens nodes
after_opening true nodes = refl
after_opening false nodes = no_declaration nodes

-- ---- documents are read

pub read_made : (list rest : List Token) (state : State) (document : Document) → after_declaration list ≡ rest → run start rest ≡ Some state → finish state ≡ Some document → read list ≡ Some document
unfolding read reached
read_made list rest state document front ran ends = rw (front, ran) ends

-- the tokens of a document are read, and give it
pub spells_read : (document : Document) (list : List Token) → Spells document list → read list ≡ Some document
spells_read document list spells =
    let nodes = spells.nodes in
    let content = nodes_content contexts.Document nodes in
    let room : HasRoom start (nodes_height nodes) content (nodes_counts contexts.Document nodes) = record {
      shallow = omega (arith, spells.shallow);
      few = subst HasFew (sym (outside_gives nodes spells.each)) (few_documents content.documents document spells.one);
      counted = omega (arith, spells.counted);
    } in
    read_made list (nodes_tokens nodes) (with_more start content (nodes_counts contexts.Document nodes)) document
    (ap after_declaration spells.list_is ∙ after_opening spells.declared nodes)
    (ap (run start) (sym (append-nil (nodes_tokens nodes))) ∙ nodes_run nodes start [] spells.each room)
    (ap the_one spells.one)

-- ---- what is read represents open elements

pub reached_spot : (list : List Token) (state : State) → reached list ≡ Some state → (spot : Spot) × IsAfter spot list × (state_of spot ≡ state)
reached_spot list state e = let occurs = reached_occurs list state e in (occurs.spot, occurs.after, occurs.leads)

-- ---- what is read to the end is a document

spells_from : (declared : Bool) (nodes : Nodes) (list : List Token) (document : Document) → list ≡ opening declared ++ nodes_tokens nodes → IsSound (spot_at declared [] nodes)
    → AllByRecursion HasLegalTexts list → (nodes_content contexts.Document nodes).documents ≡ document ∷ [] → Spells document list
spells_from declared nodes list document list_is sound legal one =
    let low : nodes_height nodes ≤ MAX_OPEN_ELEMENTS = omega (arith, sound.hold.shallow) in
    let texts = each_back HasLegalTexts (opening declared) (nodes_tokens nodes) (subst (AllByRecursion HasLegalTexts) list_is legal) in
    record {
      declared = declared;
      nodes = nodes;
      list_is = list_is;
      each = sound.hold.each;
      shallow = low;
      counted = sound.counted;
      one = one;
      valued = valued_of document nodes sound.hold.each low sound.counted texts one;
    }

the_one_is : (documents : List Document) (document : Document) → the_one documents ≡ Some document → documents ≡ document ∷ []
the_one_is [] document e = absurd cc
the_one_is (found ∷ []) document e = ap (λ (d : Document). d ∷ []) (some_is found document e)
the_one_is (found ∷ other ∷ documents) document e = absurd cc

closed_spells : (declared : Bool) (opened : List Opened) (outside : Nodes) (list : List Token) (document : Document) → list ≡ opening declared ++ opened_tokens opened outside
    → IsSound (spot_at declared opened outside) → AllByRecursion HasLegalTexts list → finish (state_of (spot_at declared opened outside)) ≡ Some document → Spells document list
closed_spells declared [] outside list document list_is sound legal e =
    spells_from declared outside list document list_is sound legal (the_one_is (nodes_content contexts.Document outside).documents document e)
closed_spells declared (inner ∷ outer) outside list document list_is sound legal e = absurd cc

-- tokens that are read to the end spell what they give
pub read_spells : (document : Document) (list : List Token) → AllByRecursion HasLegalTexts list → read list ≡ Some document → Spells document list
unfolding read
read_spells document list legal e =
    let found = bind_some (reached list) finish document e in
    let occurs = reached_occurs list found.0 found.1 in
    let spot = occurs.spot in
    closed_spells spot.declared spot.opened spot.outside list document occurs.after occurs.sound legal (ap finish occurs.leads ∙ found.2)

-- ---- what begins a document is read so far, and what is read so far begins one

run_front : (xs ys : List Token) (state end : State) → run state (xs ++ ys) ≡ Some end → (middle : State) × (run state xs ≡ Some middle)
run_front [] ys state end e = (state, refl)
run_front (token ∷ xs) ys state end e =
    let found = step_found state token (xs ++ ys) end e in
    let more = run_front xs ys (next state token) end found.1 in
    (more.0, run_taken state token xs found.0 ∙ more.1)

pub reached_front : (list rest : List Token) (end : State) → reached (list ++ rest) ≡ Some end → (state : State) × (reached list ≡ Some state)
unfolding reached
reached_front [] rest end e = (start, refl)
reached_front (tokens.Declaration ∷ list) rest end e = run_front list rest start end e
reached_front (token ∷ list) rest end e = run_front (token ∷ list) rest start end e

pub begins_reached : (list : List Token) → Begins list → (state : State) × (reached list ≡ Some state)
unfolding read
begins_reached list begins =
    let found = bind_some (reached (list ++ begins.rest)) finish begins.document (spells_read begins.document (list ++ begins.rest) begins.spells) in
    reached_front list begins.rest found.0 found.1

ended_tokens : (list front opened rest nodes : List Token) → list ≡ front ++ opened → nodes ≡ opened ++ rest → list ++ rest ≡ front ++ nodes
ended_tokens list front opened rest nodes e f =
    ap (λ (t : List Token). t ++ rest) e ∙ (append_assoc front opened rest ∙ ap (λ (t : List Token). front ++ t) (sym f))

pub reached_begins : (list : List Token) (state : State) → AllByRecursion HasLegalTexts list → reached list ≡ Some state → Begins list
reached_begins list state legal e =
    let occurs = reached_occurs list state e in
    let spot = occurs.spot in
    let whole = spot_ends spot occurs.sound in
    let ends = whole.ends in
    record {
      rest = ends.rest;
      document = whole.document;
      spells = spells_from spot.declared ends.nodes (list ++ ends.rest) whole.document
          (ended_tokens list (opening spot.declared) (opened_tokens spot.opened spot.outside) ends.rest (nodes_tokens ends.nodes) occurs.after ends.tokens_are)
          ends.sound (each_append HasLegalTexts list ends.rest legal ends.legal) whole.one;
    }

-- ---- bytes spell at most one document

pub spells_one : SpellOneDocument
spells_one bytes document other is also =
    let lists = one_list bytes is.list also.list (first_offset bytes) (length bytes) is.tokens_are also.tokens_are in
    some_is document other (sym (spells_read document is.list is.spells) ∙ (ap read lists ∙ spells_read other also.list also.spells))
