-- Each item has a text, and so has a page without items. So the text of items is empty only where there
-- are none.
use Rattle.std.proofs.Common.{◌≡◌, ◌≢◌, ℕ, List, [], ◌∷◌, ◌++◌, length, refl}
use Rattle.std.specs.Prelude.{codes}
use Rattle.net_values.specs.declared.document.Item.{Item}
use Rattle.net_values.specs.declared.document.Item.TheVariants.{Page, PageEnd, Place, Transition, RefPlace, RefTransition, Arc}
use Rattle.pnml_grammar.specs.Canon.{start_tag, end_tag, empty_tag, element, id_attribute, name_text, item_text, items_text}
use Rattle.pnml_write.proofs.Pieces.{some_front}

element_some : (name attributes children : List ℕ) → element name attributes children ≢ []
unfolding start_tag empty_tag
element_some name attributes [] e = cc
element_some name attributes (byte ∷ bytes) e = cc

-- the text of an item, and whatever follows it
item_some : (item : Item) (rest : List ℕ) → item_text item ++ rest ≢ []
unfolding item_text start_tag end_tag
item_some (Page page) rest = λ e. cc
item_some PageEnd rest = λ e. cc
item_some (Place place) rest = some_front _ rest (element_some _ _ _)
item_some (Transition transition) rest = some_front _ rest (element_some _ _ _)
item_some (RefPlace node) rest = some_front _ rest (element_some _ _ _)
item_some (RefTransition node) rest = some_front _ rest (element_some _ _ _)
item_some (Arc arc) rest = some_front _ rest (element_some _ _ _)

pub items_some : (items : List Item) → (length items ≡ 0 → ⊥) → items_text items ≢ []
items_some [] some = λ e. some refl
items_some (Page page ∷ []) some = item_some (Page page) _
items_some (Page page ∷ PageEnd ∷ items) some = some_front _ _ (element_some (codes "page") (id_attribute page.id) (name_text page.name))
items_some (Page page ∷ Page inner ∷ items) some = item_some (Page page) _
items_some (Page page ∷ Place place ∷ items) some = item_some (Page page) _
items_some (Page page ∷ Transition transition ∷ items) some = item_some (Page page) _
items_some (Page page ∷ RefPlace node ∷ items) some = item_some (Page page) _
items_some (Page page ∷ RefTransition node ∷ items) some = item_some (Page page) _
items_some (Page page ∷ Arc arc ∷ items) some = item_some (Page page) _
items_some (PageEnd ∷ items) some = item_some PageEnd _
items_some (Place place ∷ items) some = item_some (Place place) _
items_some (Transition transition ∷ items) some = item_some (Transition transition) _
items_some (RefPlace node ∷ items) some = item_some (RefPlace node) _
items_some (RefTransition node ∷ items) some = item_some (RefTransition node) _
items_some (Arc arc ∷ items) some = item_some (Arc arc) _
