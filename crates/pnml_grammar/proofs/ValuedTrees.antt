-- What holds of what elements give, by induction on trees, once for all properties: of nothing, of one after
-- the other, of what characters give, and of what an element gives where it holds of its children.
use Rattle.std.proofs.Common.{◌≡◌, ℕ, suc, max, true, List, Option, Some, None, refl, ap, subst, ◌∙◌}
use Rattle.std.specs.Prelude.{IsTrue, ◌&&◌}
use Rattle.std.proofs.lemmas.Bool.{and_parts}
use Rattle.std.specs.List.{AllByRecursion}
use Rattle.net_values.specs.Characters.{IsLegalText}
use Rattle.pnml_grammar.specs.declared.element.Context.{Context}
use Rattle.pnml_grammar.specs.declared.element.Context.TheVariants as contexts
use Rattle.pnml_grammar.specs.declared.element.ElementKind.{ElementKind}
use Rattle.pnml_grammar.specs.declared.element.ElementKind.TheVariants as elements
use Rattle.pnml_grammar.specs.declared.token.Attribute.{Attribute}
use Rattle.pnml_grammar.specs.Elements.{element_named, context_in, context_if_any, context_of_kind, may_hold, may_occur, may_occur_as, has_namespace, has_type, has_attributes}
use Rattle.pnml_grammar.specs.Trees.{Node, element, empty_element, comment, instruction, cdata, characters, Nodes, none, ◌and◌, node_tokens, nodes_tokens, node_height, nodes_height}
use Rattle.pnml_grammar.specs.Contents.{Content, nothing, ◌then◌, gives, characters_content, cdata_content, node_content, nodes_content}
use Rattle.pnml_grammar.specs.Counts.{Counts, no_counts, ◌plus◌, counts_of_kind, counts_if_any, tag_counts, node_counts, nodes_counts}
use Rattle.pnml_grammar.specs.Documents.{IsFilled, IsChild, EachChild}
use Rattle.pnml_grammar.specs.LegalTexts.{HasLegalTexts, HaveLegalValues}
use Rattle.pnml_grammar.proofs.EachLaws.{each_front, each_back}

-- a property of content, by the context that it is given to, and the height and the counts of its elements
abbrev pub Property : Type 1
Property = Context → ℕ → Counts → Content → Type 0

-- the context is no skipped part
abbrev pub IsRead : Context → Type 0
IsRead contexts.Skipped = ⊥
IsRead context = Unit

-- a tag of the kind may occur there with these attributes
pub record IsRightTag (context : Context) (kind : ElementKind) (attributes : List Attribute) : Type 0 where
  pub read_is : IsRead context
  pub attributes_are : has_attributes kind attributes ≡ true
  pub place_is : may_hold context kind ≡ true

pub record IsKept (P : Property) : Type 0 where
  pub none_is : (context : Context) → P context 0 no_counts nothing
  pub skipped_is : (h : ℕ) (counts : Counts) → P contexts.Skipped h counts nothing
  pub joined_is : (context : Context) (h i : ℕ) (one other : Counts) (a b : Content) → P context h one a → P context i other b
      → P context (max h i) (one plus other) (a then b)
  pub characters_are : (context : Context) (value : List ℕ) → IsLegalText value → P context 0 no_counts (characters_content context value)
  pub cdata_is : (context : Context) (value : List ℕ) → IsLegalText value → P context 0 no_counts (cdata_content context value)
  pub element_is : (context : Context) (kind : ElementKind) (attributes : List Attribute) (h : ℕ) (counts : Counts) (c : Content)
      → IsRightTag context kind attributes → HaveLegalValues attributes → IsFilled (context_of_kind context kind) c
      → P (context_of_kind context kind) h counts c
      → P context (suc h) (counts_of_kind kind plus counts) (gives (context_of_kind context kind) attributes c)

-- ---- tags

-- a tag in a skipped part, or one of a known kind
record IsOfKind (context : Context) (name : List ℕ) (attributes : List Attribute) : Type 0 where
  kind : ElementKind
  occurs : IsRightTag context kind attributes
  inner_is : context_in context (element_named name) ≡ context_of_kind context kind
  counts_are : tag_counts context name ≡ counts_of_kind kind

data Opens : Context → List ℕ → List Attribute → Type 0 where
  skipped : (name : List ℕ) (attributes : List Attribute) → Opens contexts.Skipped name attributes
  known : (context : Context) (name : List ℕ) (attributes : List Attribute) → IsOfKind context name attributes → Opens context name attributes

right_tag : (context : Context) (kind : ElementKind) (attributes : List Attribute) → IsRead context → may_occur_as context (Some kind) attributes ≡ true → IsRightTag context kind attributes
right_tag context kind attributes read e =
    let p = and_parts (has_namespace kind attributes && has_type kind attributes && has_attributes kind attributes) (may_hold context kind) e in
    let q = and_parts (has_namespace kind attributes && has_type kind attributes) (has_attributes kind attributes) p.0 in
    record { read_is = read; attributes_are = q.1; place_is = p.1 }

opens_known : (context : Context) (name : List ℕ) (attributes : List Attribute) (found : Option ElementKind) → IsRead context → element_named name ≡ found → may_occur_as context found attributes ≡ true
    → context_in context (element_named name) ≡ context_if_any context (element_named name) → tag_counts context name ≡ counts_if_any (element_named name) → Opens context name attributes
opens_known context name attributes None read e occurs inner counts = absurd cc
opens_known context name attributes (Some kind) read e occurs inner counts =
    known context name attributes record { kind = kind; occurs = right_tag context kind attributes read occurs; inner_is = inner ∙ ap (context_if_any context) e; counts_are = counts ∙ ap counts_if_any e }

opens : (context : Context) (name : List ℕ) (attributes : List Attribute) → IsTrue (may_occur context name attributes) → Opens context name attributes
opens contexts.Skipped name attributes h = skipped name attributes
opens context name attributes h = opens_known context name attributes (element_named name) tt refl h refl refl

plus_none : (kind : ElementKind) → counts_of_kind kind plus no_counts ≡ counts_of_kind kind
plus_none elements.Pnml = refl
plus_none kind = refl

-- ---- trees

module _ (P : Property) (kept : IsKept P) where
  whole_is : (context : Context) (name : List ℕ) (attributes : List Attribute) (h : ℕ) (counts : Counts) (c : Content) → Opens context name attributes → HaveLegalValues attributes
      → IsFilled (context_in context (element_named name)) c → P (context_in context (element_named name)) h counts c
      → P context (suc h) (tag_counts context name plus counts) (gives (context_in context (element_named name)) attributes c)
  whole_is _ _ _ h counts c (skipped name attributes) legal filled each = kept.skipped_is (suc h) (no_counts plus counts)
  whole_is _ _ _ h counts c (known context name attributes is) legal filled each =
      rw (is.inner_is, is.counts_are) (kept.element_is context is.kind attributes h counts c is.occurs legal (subst (λ k. IsFilled k c) is.inner_is filled) (subst (λ k. P k h counts c) is.inner_is each))

  empty_is : (context : Context) (name : List ℕ) (attributes : List Attribute) → Opens context name attributes → HaveLegalValues attributes
      → IsFilled (context_in context (element_named name)) nothing
      → P context 1 (tag_counts context name) (gives (context_in context (element_named name)) attributes nothing)
  empty_is _ _ _ (skipped name attributes) legal filled = kept.skipped_is 1 no_counts
  empty_is _ _ _ (known context name attributes is) legal filled =
      let inner = context_of_kind context is.kind in
      rw (is.inner_is, is.counts_are)
      (subst (λ counts. P context 1 counts (gives inner attributes nothing)) (plus_none is.kind)
      (kept.element_is context is.kind attributes 0 no_counts nothing is.occurs legal (subst (λ k. IsFilled k nothing) is.inner_is filled) (kept.none_is inner)))

  mutual
    node_is : (context : Context) (node : Node) → IsChild context node → AllByRecursion HasLegalTexts (node_tokens node) → P context (node_height node) (node_counts context node) (node_content context node)
    node_is context (element name attributes children) child legal =
        let inner = context_in context (element_named name) in
        whole_is context name attributes (nodes_height children) (nodes_counts inner children) (nodes_content inner children) (opens context name attributes child.0) legal.0 child.2
        (nodes_are inner children child.1 (each_front HasLegalTexts (nodes_tokens children) _ legal.1))
    node_is context (empty_element name attributes) child legal = empty_is context name attributes (opens context name attributes child.0) legal.0 child.1
    node_is context comment child legal = kept.none_is context
    node_is context instruction child legal = kept.none_is context
    node_is context (cdata value) child legal = kept.cdata_is context value legal.0
    node_is context (characters value) child legal = kept.characters_are context value legal.0

    -- what the children of an element give has the property
    pub nodes_are : (context : Context) (nodes : Nodes) → EachChild context nodes → AllByRecursion HasLegalTexts (nodes_tokens nodes) → P context (nodes_height nodes) (nodes_counts context nodes) (nodes_content context nodes)
    nodes_are context none each legal = kept.none_is context
    nodes_are context (node and nodes) each legal =
        kept.joined_is context (node_height node) (nodes_height nodes) (node_counts context node) (nodes_counts context nodes) (node_content context node) (nodes_content context nodes)
        (node_is context node each.0 (each_front HasLegalTexts (node_tokens node) (nodes_tokens nodes) legal))
        (nodes_are context nodes each.1 (each_back HasLegalTexts (node_tokens node) (nodes_tokens nodes) legal))
