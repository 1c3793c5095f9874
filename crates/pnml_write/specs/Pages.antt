-- Pages without items, which are written as one whole element.
use Rattle.std.specs.Prelude.{List, ◌∷◌}
use Rattle.net_values.specs.declared.document.Item.{Item}
use Rattle.net_values.specs.declared.document.Item.TheVariants.{Page, PageEnd}

-- no page without items occurs at the front
abbrev pub BeginsWithoutEmptyPage : List Item → Type 0
BeginsWithoutEmptyPage (Page _ ∷ PageEnd ∷ _) = ⊥
BeginsWithoutEmptyPage _ = Unit
