-- Outside skipped parts the tests of a tag, what its children are in and what it counts go by its element.
use Rattle.std.proofs.Common.{◌≡◌, ℕ, Bool, List, Some, refl}
use Rattle.pnml_grammar.specs.declared.element.Context.{Context}
use Rattle.pnml_grammar.specs.declared.element.Context.TheVariants as contexts
use Rattle.pnml_grammar.specs.declared.element.ElementKind.{ElementKind}
use Rattle.pnml_grammar.specs.declared.token.Attribute.{Attribute}
use Rattle.pnml_grammar.specs.Counts.{counts_if_any, tag_counts}
use Rattle.pnml_grammar.specs.Elements.{element_named, context_in, context_of_kind}
use Rattle.pnml_grammar.specs.OpenElements.{State}
use Rattle.pnml_grammar.specs.Reasons.{open_rows_in, tag_rows}

pub read_rows : (context : Context) → (context ≡ contexts.Skipped → ⊥) → (state : State) (empty : Bool) (name : List ℕ) (attributes : List Attribute)
    → open_rows_in context state empty name attributes ≡ tag_rows state empty attributes (element_named name)
read_rows contexts.Skipped read state empty name attributes = absurd (read refl)
read_rows _ read state empty name attributes = refl

pub read_context : (context : Context) → (context ≡ contexts.Skipped → ⊥) → (element : ElementKind) → context_of_kind context element ≡ context_in context (Some element)
read_context contexts.Skipped read element = absurd (read refl)
read_context _ read element = refl

pub read_counts : (context : Context) → (context ≡ contexts.Skipped → ⊥) → (name : List ℕ) → counts_if_any (element_named name) ≡ tag_counts context name
read_counts contexts.Skipped read name = absurd (read refl)
read_counts _ read name = refl
