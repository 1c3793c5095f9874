-- The walk over the items tests at each item what pages, depth and counts ask for: what is left can be walked
-- after an item just where it and the item can be walked before it.
use Rattle.std.proofs.Common.{◌≡◌, ℕ, ◌+◌, ◌-◌, ◌≤◌, Bool, true, false, cond, List, [], ◌∷◌, Option, Some, None, refl, subst, arith, inl, inr}
use Rattle.std.specs.Prelude.{◌==◌, ◌&&◌, nat_le, count_by}
use Rattle.std.specs.List.{AllByRecursion}
use Rattle.std.proofs.lemmas.Bool.{cases_Bool, leb-true, ltb-true, le-leb, lt-ltb, eqb-true, eq-eqb}
use Rattle.net_values.specs.declared.limits.TheConstants.{MAX_ARCS, MAX_OPEN_ELEMENTS, MAX_PAGES, MAX_PLACES, MAX_REFERENCES, MAX_TRANSITIONS}
use Rattle.net_values.specs.declared.document.Item.{Item}
use Rattle.net_values.specs.declared.document.Item.TheVariants.{Page, PageEnd, Place, Transition, RefPlace, RefTransition, Arc}
use Rattle.net_values.specs.Items.{is_page, is_place, is_transition, is_arc, is_reference}
use Rattle.pnml_grammar.specs.declared.walk.Walk.{Walk}
use Rattle.pnml_grammar.specs.Valued.{PagesMatch, name_height, item_height, IsShallow}
use Rattle.pnml_grammar.specs.ValuedTests.{has_values_in_range, beyond, may_count, is_low, after}
use Rattle.pnml_grammar.proofs.EachLaws.{count_by_append}
use Rattle.pnml_grammar.proofs.RunLaws.{some_is}

-- ---- counts

-- what was passed is within the limits
pub record IsFit (walk : Walk) : Type 0 where
  pub opened : walk.opened ≤ MAX_OPEN_ELEMENTS - 2
  pub places : walk.places ≤ MAX_PLACES
  pub transitions : walk.transitions ≤ MAX_TRANSITIONS
  pub arcs : walk.arcs ≤ MAX_ARCS
  pub references : walk.references ≤ MAX_REFERENCES
  pub pages : walk.pages ≤ MAX_PAGES

-- and so is what was passed with these items
pub record AreWithin (walk : Walk) (items : List Item) : Type 0 where
  pub places : walk.places + count_by is_place items ≤ MAX_PLACES
  pub transitions : walk.transitions + count_by is_transition items ≤ MAX_TRANSITIONS
  pub arcs : walk.arcs + count_by is_arc items ≤ MAX_ARCS
  pub references : walk.references + count_by is_reference items ≤ MAX_REFERENCES
  pub pages : walk.pages + count_by is_page items ≤ MAX_PAGES

-- what was passed and what is left are together as many after an item as before it
record KeepsSums (walk : Walk) (item : Item) (items : List Item) : Type 0 where
  places : (beyond walk item).places + count_by is_place items ≡ walk.places + count_by is_place (item ∷ items)
  transitions : (beyond walk item).transitions + count_by is_transition items ≡ walk.transitions + count_by is_transition (item ∷ items)
  arcs : (beyond walk item).arcs + count_by is_arc items ≡ walk.arcs + count_by is_arc (item ∷ items)
  references : (beyond walk item).references + count_by is_reference items ≡ walk.references + count_by is_reference (item ∷ items)
  pages : (beyond walk item).pages + count_by is_page items ≡ walk.pages + count_by is_page (item ∷ items)

-- the first is counted apart from the others
record CountsFirst (item : Item) (items : List Item) : Type 0 where
  places : count_by is_place (item ∷ items) ≡ count_by is_place (item ∷ []) + count_by is_place items
  transitions : count_by is_transition (item ∷ items) ≡ count_by is_transition (item ∷ []) + count_by is_transition items
  arcs : count_by is_arc (item ∷ items) ≡ count_by is_arc (item ∷ []) + count_by is_arc items
  references : count_by is_reference (item ∷ items) ≡ count_by is_reference (item ∷ []) + count_by is_reference items
  pages : count_by is_page (item ∷ items) ≡ count_by is_page (item ∷ []) + count_by is_page items

counts_first : (item : Item) (items : List Item) → CountsFirst item items
counts_first item items = record {
  places = count_by_append is_place (item ∷ []) items;
  transitions = count_by_append is_transition (item ∷ []) items;
  arcs = count_by_append is_arc (item ∷ []) items;
  references = count_by_append is_reference (item ∷ []) items;
  pages = count_by_append is_page (item ∷ []) items;
}

keeps_sums : (walk : Walk) (item : Item) (items : List Item) → KeepsSums walk item items
keeps_sums walk (Page page) items = omega (arith, counts_first (Page page) items)
keeps_sums walk PageEnd items = omega (arith, counts_first PageEnd items)
keeps_sums walk (Place place) items = omega (arith, counts_first (Place place) items)
keeps_sums walk (Transition transition) items = omega (arith, counts_first (Transition transition) items)
keeps_sums walk (RefPlace node) items = omega (arith, counts_first (RefPlace node) items)
keeps_sums walk (RefTransition node) items = omega (arith, counts_first (RefTransition node) items)
keeps_sums walk (Arc arc) items = omega (arith, counts_first (Arc arc) items)

within_before : (walk : Walk) (item : Item) (items : List Item) → AreWithin (beyond walk item) items → AreWithin walk (item ∷ items)
within_before walk item items within = omega (arith, within, keeps_sums walk item items)

within_after : (walk : Walk) (item : Item) (items : List Item) → AreWithin walk (item ∷ items) → AreWithin (beyond walk item) items
within_after walk item items within = omega (arith, within, keeps_sums walk item items)

-- ---- pages

pages_before : (walk : Walk) (item : Item) (items : List Item) → may_count walk item ≡ true → PagesMatch (beyond walk item).opened items → PagesMatch walk.opened (item ∷ items)
pages_before walk PageEnd items e match = (ltb-true 0 walk.opened e, match)
pages_before walk item items e match = match

pages_after : (walk : Walk) (item : Item) (items : List Item) → PagesMatch walk.opened (item ∷ items) → PagesMatch (beyond walk item).opened items
pages_after walk PageEnd items match = match.1
pages_after walk item items match = match

-- ---- depth

name_low : (name : Option (List ℕ)) → name_height name ≤ 2
name_low None = omega arith
name_low (Some name) = omega arith

label_low : (n m name : ℕ) → name ≤ 2 → cond (n == m) (1 + name) 3 ≤ 3
label_low n m name low = elim (cases_Bool (n == m)) [ inl same ↦ rw same (omega arith) | inr other ↦ rw other (omega arith) ]

height_low : (item : Item) → item_height item ≤ 3
height_low (Page page) = omega (arith, name_low page.name)
height_low PageEnd = omega arith
height_low (Place place) = label_low place.initial 0 (name_height place.name) (name_low place.name)
height_low (Transition transition) = omega (arith, name_low transition.name)
height_low (RefPlace node) = omega (arith, name_low node.name)
height_low (RefTransition node) = omega (arith, name_low node.name)
height_low (Arc arc) = label_low arc.weight 1 (name_height arc.name) (name_low arc.name)

depth_is : (opened height : ℕ) → height ≤ 3 → nat_le opened (MAX_OPEN_ELEMENTS - 2 - height) ≡ true → opened + 2 + height ≤ MAX_OPEN_ELEMENTS
depth_is opened height low e = omega (arith, leb-true opened (MAX_OPEN_ELEMENTS - 2 - height) e)

depth_tested : (opened height : ℕ) → opened + 2 + height ≤ MAX_OPEN_ELEMENTS → nat_le opened (MAX_OPEN_ELEMENTS - 2 - height) ≡ true
depth_tested opened height le = le-leb opened (MAX_OPEN_ELEMENTS - 2 - height) (omega arith)

shallow_before : (walk : Walk) (item : Item) (items : List Item) → is_low walk item ≡ true → may_count walk item ≡ true → IsShallow ((beyond walk item).opened + 2) items
    → IsShallow (walk.opened + 2) (item ∷ items)
shallow_before walk (Page page) items low e shallow =
    let same : walk.opened + 1 + 2 ≡ walk.opened + 2 + 1 = omega arith in
    (depth_is walk.opened (item_height (Page page)) (height_low (Page page)) low, subst (λ n. IsShallow n items) same shallow)
shallow_before walk PageEnd items low e shallow =
    let some = ltb-true 0 walk.opened e in
    let same : walk.opened - 1 + 2 ≡ walk.opened + 2 - 1 = omega arith in
    subst (λ n. IsShallow n items) same shallow
shallow_before walk item items low e shallow = (depth_is walk.opened (item_height item) (height_low item) low, shallow)

shallow_after : (walk : Walk) (item : Item) (items : List Item) → may_count walk item ≡ true → IsShallow (walk.opened + 2) (item ∷ items) → IsShallow ((beyond walk item).opened + 2) items
shallow_after walk (Page page) items e shallow =
    let same : walk.opened + 2 + 1 ≡ walk.opened + 1 + 2 = omega arith in
    subst (λ n. IsShallow n items) same shallow.1
shallow_after walk PageEnd items e shallow =
    let some = ltb-true 0 walk.opened e in
    let same : walk.opened + 2 - 1 ≡ walk.opened - 1 + 2 = omega arith in
    subst (λ n. IsShallow n items) same shallow
shallow_after walk item items e shallow = shallow.1

-- ---- one item

low_is : (walk : Walk) (item : Item) (items : List Item) → IsFit walk → IsShallow (walk.opened + 2) (item ∷ items) → is_low walk item ≡ true
low_is walk PageEnd items fit shallow = le-leb walk.opened (MAX_OPEN_ELEMENTS - 2) fit.opened
low_is walk item items fit shallow = depth_tested walk.opened (item_height item) shallow.0

count_is : (walk : Walk) (item : Item) (items : List Item) → AreWithin walk (item ∷ items) → PagesMatch walk.opened (item ∷ items) → may_count walk item ≡ true
count_is walk (Page page) items within match = lt-ltb walk.pages MAX_PAGES (omega (arith, within.pages, (counts_first (Page page) items).pages))
count_is walk PageEnd items within match = lt-ltb 0 walk.opened match.0
count_is walk (Place place) items within match = lt-ltb walk.places MAX_PLACES (omega (arith, within.places, (counts_first (Place place) items).places))
count_is walk (Transition transition) items within match =
    lt-ltb walk.transitions MAX_TRANSITIONS (omega (arith, within.transitions, (counts_first (Transition transition) items).transitions))
count_is walk (RefPlace node) items within match = lt-ltb walk.references MAX_REFERENCES (omega (arith, within.references, (counts_first (RefPlace node) items).references))
count_is walk (RefTransition node) items within match = lt-ltb walk.references MAX_REFERENCES (omega (arith, within.references, (counts_first (RefTransition node) items).references))
count_is walk (Arc arc) items within match = lt-ltb walk.arcs MAX_ARCS (omega (arith, within.arcs, (counts_first (Arc arc) items).arcs))

fit_after : (walk : Walk) (item : Item) → IsFit walk → is_low walk item ≡ true → may_count walk item ≡ true → IsFit (beyond walk item)
fit_after walk (Page page) fit low e = omega (arith, fit, ltb-true walk.pages MAX_PAGES e, leb-true walk.opened (MAX_OPEN_ELEMENTS - 2 - item_height (Page page)) low)
fit_after walk PageEnd fit low e = omega (arith, fit)
fit_after walk (Place place) fit low e = omega (arith, fit, ltb-true walk.places MAX_PLACES e)
fit_after walk (Transition transition) fit low e = omega (arith, fit, ltb-true walk.transitions MAX_TRANSITIONS e)
fit_after walk (RefPlace node) fit low e = omega (arith, fit, ltb-true walk.references MAX_REFERENCES e)
fit_after walk (RefTransition node) fit low e = omega (arith, fit, ltb-true walk.references MAX_REFERENCES e)
fit_after walk (Arc arc) fit low e = omega (arith, fit, ltb-true walk.arcs MAX_ARCS e)

-- ---- all items

pub record Walks (walk : Walk) (items : List Item) : Type 0 where
  pub pages : PagesMatch walk.opened items
  pub shallow : IsShallow (walk.opened + 2) items
  pub within : AreWithin walk items

-- the items are counted, and no page is open after them
pub record EndsAt (walk : Walk) (items : List Item) (end : Walk) : Type 0 where
  pub opened : end.opened ≡ 0
  pub places : end.places ≡ walk.places + count_by is_place items
  pub transitions : end.transitions ≡ walk.transitions + count_by is_transition items
  pub arcs : end.arcs ≡ walk.arcs + count_by is_arc items
  pub references : end.references ≡ walk.references + count_by is_reference items
  pub pages : end.pages ≡ walk.pages + count_by is_page items

ends_before : (walk : Walk) (item : Item) (items : List Item) (end : Walk) → EndsAt (beyond walk item) items end → EndsAt walk (item ∷ items) end
ends_before walk item items end is = omega (arith, is, keeps_sums walk item items)

past_found : (range low count : Bool) (next end : Walk) (items : List Item) → cond range (after (cond (low && count) (Some next) None) items) None ≡ Some end
    → (range ≡ true) × (low ≡ true) × (count ≡ true) × (after (Some next) items ≡ Some end)
past_found true true true next end items e = (refl, refl, refl, e)
past_found true true false next end items e = absurd cc
past_found true false count next end items e = absurd cc
past_found false low count next end items e = absurd cc

closed_found : (closed : Bool) (walk end : Walk) → cond closed (Some walk) None ≡ Some end → (closed ≡ true) × (walk ≡ end)
closed_found true walk end e = (refl, some_is walk end e)
closed_found false walk end e = absurd cc

-- what a walk to the end tells
pub record Walked (walk : Walk) (items : List Item) (end : Walk) : Type 0 where
  pub each : AllByRecursion (λ item. has_values_in_range item ≡ true) items
  pub walks : Walks walk items
  pub ends : EndsAt walk items end
  pub fit : IsFit end

pub after_found : (walk : Walk) (items : List Item) (end : Walk) → IsFit walk → after (Some walk) items ≡ Some end → Walked walk items end
after_found walk [] end fit e =
    let closed = closed_found (walk.opened == 0) walk end e in
    let none = eqb-true walk.opened 0 closed.0 in
    subst (λ w. Walked walk [] w) closed.1
    (record { each = tt; walks = record { pages = none; shallow = tt; within = omega (arith, fit) }; ends = omega (arith, none); fit = fit })
after_found walk (item ∷ items) end fit e =
    let p = past_found (has_values_in_range item) (is_low walk item) (may_count walk item) (beyond walk item) end items e in
    let rest = after_found (beyond walk item) items end (fit_after walk item fit p.1 p.2) p.3 in
    record {
      each = (p.0, rest.each);
      walks = record {
        pages = pages_before walk item items p.2 rest.walks.pages;
        shallow = shallow_before walk item items p.1 p.2 rest.walks.shallow;
        within = within_before walk item items rest.walks.within;
      };
      ends = ends_before walk item items end rest.ends;
      fit = rest.fit;
    }

-- the walk to the end that is there
pub record Arrives (walk : Walk) (items : List Item) : Type 0 where
  pub end : Walk
  pub is : after (Some walk) items ≡ Some end
  pub ends : EndsAt walk items end
  pub fit : IsFit end

pub after_is : (walk : Walk) (items : List Item) → IsFit walk → AllByRecursion (λ item. has_values_in_range item ≡ true) items → Walks walk items → Arrives walk items
after_is walk [] fit each is = record { end = walk; is = rw (eq-eqb walk.opened 0 is.pages) refl; ends = omega (arith, is.pages); fit = fit }
after_is walk (item ∷ items) fit each is =
    let count = count_is walk item items is.within is.pages in
    let low = low_is walk item items fit is.shallow in
    let rest : Walks (beyond walk item) items = record {
      pages = pages_after walk item items is.pages;
      shallow = shallow_after walk item items count is.shallow;
      within = within_after walk item items is.within;
    } in
    let arrives = after_is (beyond walk item) items (fit_after walk item fit low count) each.1 rest in
    record { end = arrives.end; is = rw (each.0, low, count) arrives.is; ends = ends_before walk item items arrives.end arrives.ends; fit = arrives.fit }
