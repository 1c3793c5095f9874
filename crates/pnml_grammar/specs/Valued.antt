-- Documents whose values are in the ranges that this project reads and writes.
use Rattle.std.specs.Prelude.{◌≡◌, ◌==◌, if◌then◌else◌, ℕ, ◌+◌, ◌-◌, ◌^◌, ◌≤◌, ◌<◌, List, [], ◌∷◌, Option, Some, None, IfSome, count_by, length, ◌⊎◌}
use Rattle.std.specs.List.{AllByRecursion}
use Rattle.net_values.specs.declared.limits.TheConstants.{MAX_ARCS, MAX_NETS, MAX_OPEN_ELEMENTS, MAX_PAGES, MAX_PLACES, MAX_REFERENCES, MAX_TRANSITIONS}
use Rattle.net_values.specs.declared.document.Document.{Document}
use Rattle.net_values.specs.declared.document.NetTree.{NetTree}
use Rattle.net_values.specs.declared.document.Item.{Item}
use Rattle.net_values.specs.declared.document.Item.TheVariants.{Page, PageEnd, Place, Transition, RefPlace, RefTransition, Arc}
use Rattle.net_values.specs.Characters.{IsId, IsNameValue}
use Rattle.net_values.specs.Items.{all_items, is_page, is_place, is_transition, is_arc, is_reference}

-- a name, where there is one
abbrev pub IsNameIfAny : Option (List ℕ) → Type 0
IsNameIfAny name = IfSome name IsNameValue

-- ids, names, markings and weights in range
abbrev pub HasValuesInRange : Item → Type 0
HasValuesInRange (Page page) = IsId page.id × IsNameIfAny page.name
HasValuesInRange PageEnd = Unit
HasValuesInRange (Place place) = IsId place.id × IsNameIfAny place.name × (place.initial < 2 ^ 64)
HasValuesInRange (Transition transition) = IsId transition.id × IsNameIfAny transition.name
HasValuesInRange (RefPlace node) = IsId node.id × IsNameIfAny node.name × IsId node.target
HasValuesInRange (RefTransition node) = IsId node.id × IsNameIfAny node.name × IsId node.target
HasValuesInRange (Arc arc) =
    IsId arc.id × IsNameIfAny arc.name × IsId arc.source × IsId arc.target × (1 ≤ arc.weight) × (arc.weight < 2 ^ 64)

-- with this many pages open, the items close each page that is open or that they open, and no other
abbrev pub PagesMatch : ℕ → List Item → Type 0
PagesMatch opened [] = opened ≡ 0
PagesMatch opened (Page _ ∷ items) = PagesMatch (opened + 1) items
PagesMatch opened (PageEnd ∷ items) = (1 ≤ opened) × PagesMatch (opened - 1) items
PagesMatch opened (_ ∷ items) = PagesMatch opened items

-- how many elements a name, or another label, has open in the canonical text: its own and `text`
abbrev pub name_height : Option (List ℕ) → ℕ
name_height None = 0
name_height (Some _) = 2

-- how many elements an item has open there; a page counts its own and those of its name
abbrev pub item_height : Item → ℕ
item_height (Page page) = 1 + name_height page.name
item_height PageEnd = 0
item_height (Place place) = if place.initial == 0 then 1 + name_height place.name else 3
item_height (Transition transition) = 1 + name_height transition.name
item_height (RefPlace node) = 1 + name_height node.name
item_height (RefTransition node) = 1 + name_height node.name
item_height (Arc arc) = if arc.weight == 1 then 1 + name_height arc.name else 3

-- with this many elements open, the canonical text of the items has at most MAX_OPEN_ELEMENTS open anywhere
abbrev pub IsShallow : ℕ → List Item → Type 0
IsShallow opened [] = Unit
IsShallow opened (Page page ∷ items) = (opened + item_height (Page page) ≤ MAX_OPEN_ELEMENTS) × IsShallow (opened + 1) items
IsShallow opened (PageEnd ∷ items) = IsShallow (opened - 1) items
IsShallow opened (item ∷ items) = (opened + item_height item ≤ MAX_OPEN_ELEMENTS) × IsShallow opened items

-- the counts of items are within the limits
pub record IsWithinLimits (items : List Item) : Type 0 where
  pub places : count_by is_place items ≤ MAX_PLACES
  pub transitions : count_by is_transition items ≤ MAX_TRANSITIONS
  pub arcs : count_by is_arc items ≤ MAX_ARCS
  pub references : count_by is_reference items ≤ MAX_REFERENCES
  pub pages : count_by is_page items ≤ MAX_PAGES

-- a net whose values are in range and whose pages match; `pnml` and `net` are the two elements that are open around
-- its items
pub record IsValuedNet (net : NetTree) : Type 0 where
  pub id : IsId net.id
  pub name : IsNameIfAny net.name
  pub items : AllByRecursion HasValuesInRange net.items
  pub pages : PagesMatch 0 net.items
  pub shallow : IsShallow 2 net.items

-- a valued document: 1 to MAX_NETS valued nets, with counts over all of them together
pub record Valued (document : Document) : Type 0 where
  pub some : 1 ≤ length document.nets
  pub few : length document.nets ≤ MAX_NETS
  pub nets : AllByRecursion IsValuedNet document.nets
  pub limits : IsWithinLimits (all_items document.nets)

-- a document is valued, or it isn't
abbrev pub IsValuedOrNot : Type 0
IsValuedOrNot = (document : Document) → Valued document ⊎ (Valued document → ⊥)
