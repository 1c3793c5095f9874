-- What an open element may lack in the end: the root its net, and the text of a number its number. A net without
-- children, or a 1, makes it whole, and a document without a root is made whole by a root with such a net.
use Rattle.std.proofs.Common.{◌≡◌, ℕ, ◌⊎◌, inl, inr, refl, sym, ap, ◌∙◌, List, [], ◌∷◌, ◌++◌, length, length-append, Option, Some, None, Bool, true, false, IsTrue, nat_le, codes, subst, arith, true≢false}
use Rattle.std.specs.List.{AllByRecursion}
use Rattle.std.proofs.lemmas.Bool.{and_parts, leb-false, le-leb}
use Rattle.net_values.specs.declared.document.Document.{Document}
use Rattle.net_values.specs.declared.document.NetTree.{NetTree}
use Rattle.pnml_grammar.specs.declared.element.ElementKind.{ElementKind}
use Rattle.pnml_grammar.specs.declared.element.ElementKind.TheVariants as elements
use Rattle.pnml_grammar.specs.declared.element.Context.{Context}
use Rattle.pnml_grammar.specs.declared.element.Context.TheVariants as contexts
use Rattle.pnml_grammar.specs.declared.token.Attribute.{Attribute}
use Rattle.pnml_grammar.specs.Elements.{element_named, context_in, context_if_any, context_of_kind, context_of_text, may_hold, may_occur, may_occur_as, element_names, element_kinds, attribute_named, attribute_names, attribute_kinds, has_namespace, has_type, has_attributes, has_needed, fits, is_id}
use Rattle.pnml_grammar.specs.Canon.{namespace, net_type}
use Rattle.pnml_grammar.specs.Numerals.{number_in, numeral}
use Rattle.pnml_grammar.specs.Trees.{Node, element, empty_element, characters, none, ◌and◌, node_tokens, node_height}
use Rattle.pnml_grammar.specs.Contents.{Content, nothing, ◌then◌, characters_content, node_content}
use Rattle.pnml_grammar.specs.Counts.{no_counts, node_counts}
use Rattle.pnml_grammar.specs.Documents.{HasFew, is_complete, may_have_characters, IsChild}
use Rattle.pnml_grammar.specs.LegalTexts.{HasLegalTexts, HaveLegalValues}
use Rattle.pnml_grammar.proofs.EscapeLaws.{printed_text}
use Rattle.pnml_grammar.proofs.ContentLaws.{few_from, few_nothing}
use Rattle.pnml_grammar.proofs.FirstLaws.{is_inside}
use Rattle.pnml_grammar.proofs.RowLaws.{is_outside}

-- ---- the net, the number and the root

abbrev pub net_attributes : List Attribute
net_attributes = record { name = codes "id"; value = codes "n" } ∷ record { name = codes "type"; value = net_type } ∷ []

abbrev pub root_attributes : List Attribute
root_attributes = record { name = codes "xmlns"; value = namespace } ∷ []

abbrev pub empty_net : Node
empty_net = empty_element (codes "net") net_attributes

abbrev pub whole_root : Node
whole_root = element (codes "pnml") root_attributes (empty_net and none)

net_named : element_named (codes "net") ≡ Some elements.Net
unfolding element_named element_names element_kinds
net_named = refl

root_named : element_named (codes "pnml") ≡ Some elements.Pnml
unfolding element_named element_names element_kinds
root_named = refl

net_occurs : IsTrue (may_occur contexts.Pnml (codes "net") net_attributes)
unfolding element_named element_names element_kinds attribute_named attribute_names attribute_kinds has_namespace has_type has_attributes has_needed fits is_id
net_occurs = refl

root_occurs : IsTrue (may_occur contexts.Document (codes "pnml") root_attributes)
unfolding element_named element_names element_kinds attribute_named attribute_names attribute_kinds has_namespace has_type has_attributes has_needed fits is_id
root_occurs = refl

net_legal : HaveLegalValues net_attributes
net_legal = (printed_text (codes "n") refl, (printed_text net_type refl, tt))

-- ---- what makes an element whole

-- the child that is missing
abbrev pub missing : Context → Node
missing contexts.Pnml = empty_net
missing _ = characters (codes "1")

pub record Completes (context : Context) (content : Content) (node : Node) : Type 0 where
  pub child : IsChild context node
  pub few : HasFew (content then node_content context node)
  pub complete : IsTrue (is_complete context (content then node_content context node))
  pub uncounted : node_counts context node ≡ no_counts
  pub legal : AllByRecursion HasLegalTexts (node_tokens node)

none_yet : {A : Type 0} (xs : List A) → nat_le 1 (length xs) ≡ false → length xs ≡ 0
none_yet xs e = let short = leb-false 1 (length xs) e in omega arith

one_after : {A : Type 0} (xs : List A) (x : A) → nat_le 1 (length (xs ++ x ∷ [])) ≡ true
one_after xs x = le-leb 1 (length (xs ++ x ∷ [])) (omega (arith, length-append xs (x ∷ [])))

-- a 1 in the text of a number
one_completes : (context : Context) (content : Content) → HasFew content → nat_le 1 (length content.numerals) ≡ false → IsTrue (may_have_characters context (codes "1"))
    → characters_content context (codes "1") ≡ record nothing { numerals = 1 ∷ [] } → IsTrue (is_complete context (content then characters_content context (codes "1"))) → Completes context content (characters (codes "1"))
one_completes context content few e child gives_one complete =
    let lacks = none_yet content.numerals e in
    record {
      child = child;
      few = subst (λ c. HasFew (content then c)) (sym gives_one) (few_from content (record nothing { numerals = 1 ∷ [] }) (omega arith));
      complete = complete;
      uncounted = refl;
      legal = (printed_text (codes "1") refl, tt);
    }

pub missing_completes : (context : Context) (content : Content) → HasFew content → is_complete context content ≡ false → Completes context content (missing context)
unfolding element_named element_names element_kinds number_in numeral
missing_completes contexts.Pnml content few e =
    let lacks = none_yet content.nets e in
    record {
      child = (net_occurs, record { few = few_nothing; complete = refl });
      few = few_from content (node_content contexts.Pnml empty_net) (omega arith);
      complete = one_after content.nets _;
      uncounted = refl;
      legal = (net_legal, tt);
    }
missing_completes contexts.MarkingText content few e = one_completes contexts.MarkingText content few e refl refl (one_after content.numerals 1)
missing_completes contexts.WeightText content few e = one_completes contexts.WeightText content few e refl refl (one_after content.numerals 1)
missing_completes context content few e = absurd (true≢false e)

-- but the net, which is in the root only, what is missing is no element
pub missing_low : (context : Context) → (context ≡ contexts.Pnml) ⊎ (node_height (missing context) ≡ 0)
missing_low contexts.Pnml = inl refl
missing_low context = inr refl

-- ---- the root occurs outermost

abbrev is_root : Context → Bool
is_root contexts.Pnml = true
is_root _ = false

text_no_root : (context : Context) → is_root (context_of_text context) ≡ false
text_no_root contexts.Name = refl
text_no_root contexts.InitialMarking = refl
text_no_root contexts.Inscription = refl
text_no_root context = refl

root_outermost : (kind : ElementKind) (context : Context) → is_inside context ≡ true → is_root (context_of_kind context kind) ≡ true → IsTrue (may_hold context kind) → is_outside context ≡ true
root_outermost elements.Pnml contexts.Document inside root holds = refl
root_outermost elements.Pnml contexts.Skipped inside root holds = absurd (true≢false (sym inside))
root_outermost elements.Pnml context inside root holds = absurd (true≢false (sym holds))
root_outermost elements.Text context inside root holds = absurd (true≢false (sym root ∙ text_no_root context))
root_outermost kind context inside root holds = absurd (true≢false (sym root))

root_outermost_of : (kind : Option ElementKind) (context : Context) (attributes : List Attribute) → is_inside context ≡ true → is_root (context_if_any context kind) ≡ true
    → IsTrue (may_occur_as context kind attributes) → is_outside context ≡ true
root_outermost_of None context attributes inside root occurs = absurd (true≢false (sym occurs))
root_outermost_of (Some kind) context attributes inside root occurs = root_outermost kind context inside root (and_parts _ (may_hold context kind) occurs).1

root_outermost_in : (context : Context) (name : List ℕ) (attributes : List Attribute) → IsTrue (may_occur context name attributes)
    → is_root (context_in context (element_named name)) ≡ true → is_outside context ≡ true
root_outermost_in contexts.Skipped name attributes occurs root = absurd (true≢false (sym root))
root_outermost_in context name attributes occurs root = root_outermost_of (element_named name) context attributes refl root occurs

pub root_is_outermost : (context : Context) (name : List ℕ) (attributes : List Attribute) → IsTrue (may_occur context name attributes)
    → context_in context (element_named name) ≡ contexts.Pnml → is_outside context ≡ true
root_is_outermost context name attributes occurs root = root_outermost_in context name attributes occurs (ap is_root root)

-- ---- a document without a root

-- the root that makes it whole
pub record MakesWhole (content : Content) : Type 0 where
  pub document : Document
  pub child : IsChild contexts.Document whole_root
  pub few : HasFew (content then node_content contexts.Document whole_root)
  pub one : (content then node_content contexts.Document whole_root).documents ≡ document ∷ []
  pub uncounted : node_counts contexts.Document whole_root ≡ no_counts
  pub legal : AllByRecursion HasLegalTexts (node_tokens whole_root)

pub root_makes_whole : (content : Content) → HasFew content → content.documents ≡ [] → MakesWhole content
unfolding element_named element_names element_kinds
root_makes_whole content few lacks =
    let short : length content.documents ≡ 0 = ap length lacks in
    let net : NetTree = record { id = codes "n"; name = None; items = [] } in
    record {
      document = record { nets = net ∷ [] };
      child = (root_occurs, ((net_occurs, record { few = few_nothing; complete = refl }), tt), record { few = omega arith; complete = refl });
      few = few_from content (node_content contexts.Document whole_root) (omega arith);
      one = ap (λ (documents : List Document). documents ++ record { nets = net ∷ [] } ∷ []) lacks;
      uncounted = refl;
      legal = ((printed_text namespace refl, tt), (net_legal, (tt, tt)));
    }
