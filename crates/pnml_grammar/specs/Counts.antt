-- How many elements of the counted kinds occur outside skipped parts.
use Rattle.std.specs.Prelude.{ℕ, ◌+◌, ◌≤◌, List, Option, Some, None}
use Rattle.net_values.specs.declared.limits.TheConstants.{MAX_ARCS, MAX_PAGES, MAX_PLACES, MAX_REFERENCES, MAX_TRANSITIONS}
use Rattle.pnml_grammar.specs.declared.element.ElementKind.{ElementKind}
use Rattle.pnml_grammar.specs.declared.element.ElementKind.TheVariants as elements
use Rattle.pnml_grammar.specs.declared.element.Context.{Context}
use Rattle.pnml_grammar.specs.declared.element.Context.TheVariants as contexts
use Rattle.pnml_grammar.specs.Elements.{element_named, context_in}
use Rattle.pnml_grammar.specs.Trees.{Node, element, empty_element, comment, instruction, cdata, characters, Nodes, none, ◌and◌}

-- reference nodes of both kinds count together
pub record Counts : Type 0 where
  pub places : ℕ
  pub transitions : ℕ
  pub arcs : ℕ
  pub references : ℕ
  pub pages : ℕ

abbrev pub no_counts : Counts
no_counts = record { places = 0; transitions = 0; arcs = 0; references = 0; pages = 0 }

infixr 20 ◌plus◌
abbrev pub ◌plus◌ : Counts → Counts → Counts
a plus b = record {
  places = a.places + b.places;
  transitions = a.transitions + b.transitions;
  arcs = a.arcs + b.arcs;
  references = a.references + b.references;
  pages = a.pages + b.pages;
}

-- what one tag of the kind counts
abbrev pub counts_of_kind : ElementKind → Counts
counts_of_kind elements.Place = record no_counts { places = 1 }
counts_of_kind elements.Transition = record no_counts { transitions = 1 }
counts_of_kind elements.Arc = record no_counts { arcs = 1 }
counts_of_kind elements.ReferencePlace = record no_counts { references = 1 }
counts_of_kind elements.ReferenceTransition = record no_counts { references = 1 }
counts_of_kind elements.Page = record no_counts { pages = 1 }
counts_of_kind _ = no_counts

abbrev pub counts_if_any : Option ElementKind → Counts
counts_if_any None = no_counts
counts_if_any (Some kind) = counts_of_kind kind

abbrev pub tag_counts : Context → List ℕ → Counts
tag_counts contexts.Skipped name = no_counts
tag_counts context name = counts_if_any (element_named name)

abbrev mutual
  pub node_counts : Context → Node → Counts
  node_counts context (element name attributes children) =
      tag_counts context name plus nodes_counts (context_in context (element_named name)) children
  node_counts context (empty_element name attributes) = tag_counts context name
  node_counts context comment = no_counts
  node_counts context instruction = no_counts
  node_counts context (cdata value) = no_counts
  node_counts context (characters value) = no_counts

  pub nodes_counts : Context → Nodes → Counts
  nodes_counts context none = no_counts
  nodes_counts context (node and nodes) = node_counts context node plus nodes_counts context nodes

-- the limits of a document
pub record IsWithin (counts : Counts) : Type 0 where
  pub places : counts.places ≤ MAX_PLACES
  pub transitions : counts.transitions ≤ MAX_TRANSITIONS
  pub arcs : counts.arcs ≤ MAX_ARCS
  pub references : counts.references ≤ MAX_REFERENCES
  pub pages : counts.pages ≤ MAX_PAGES
