-- Words on the items of a net, and of several nets.
use Rattle.std.specs.Prelude.{ℕ, List, Bool, true, false, Some}
use Rattle.std.specs.List.{flat_map}
use Rattle.net_values.specs.declared.document.NetTree.{NetTree}
use Rattle.net_values.specs.declared.document.Item.{Item}
use Rattle.net_values.specs.declared.document.Item.TheVariants.{Page, Place, Transition, RefPlace, RefTransition, Arc}

-- the items of all nets, one net after the other
abbrev pub all_items : List NetTree → List Item
all_items nets = flat_map (λ net. net.items) nets

-- the kinds of elements that are counted
abbrev pub is_page : Item → Bool
is_page (Page _) = true
is_page _ = false

abbrev pub is_place : Item → Bool
is_place (Place _) = true
is_place _ = false

abbrev pub is_transition : Item → Bool
is_transition (Transition _) = true
is_transition _ = false

abbrev pub is_arc : Item → Bool
is_arc (Arc _) = true
is_arc _ = false

abbrev pub is_reference : Item → Bool
is_reference (RefPlace _) = true
is_reference (RefTransition _) = true
is_reference _ = false

-- the item is the start of a page
abbrev pub IsPage : Item → Type 0
IsPage (Page _) = Unit
IsPage _ = ⊥

-- the item with this name, where it is the start of a page
abbrev pub named : List ℕ → Item → Item
named name (Page page) = Page record page { name = Some name }
named name item = item
