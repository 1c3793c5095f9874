-- `Valued` as a test, and as a walk over the items of all nets that counts what was passed.
use Rattle.std.specs.Prelude.{ℕ, ◌+◌, ◌-◌, ◌^◌, ◌==◌, ◌&&◌, not, nat_le, nat_lt, Bool, true, false, if◌then◌else◌, List, [], ◌∷◌, Option, Some, None, length, chars}
use Rattle.std.specs.List.{list_all}
use Rattle.std.specs.Str.{is_utf8}
use Rattle.net_values.specs.declared.limits.TheConstants.{MAX_ARCS, MAX_ID_BYTES, MAX_NAME_BYTES, MAX_NETS, MAX_OPEN_ELEMENTS, MAX_PAGES, MAX_PLACES, MAX_REFERENCES, MAX_TRANSITIONS}
use Rattle.net_values.specs.declared.document.Document.{Document}
use Rattle.net_values.specs.declared.document.NetTree.{NetTree}
use Rattle.net_values.specs.declared.document.Item.{Item}
use Rattle.net_values.specs.declared.document.Item.TheVariants.{Page, PageEnd, Place, Transition, RefPlace, RefTransition, Arc}
use Rattle.pnml_grammar.specs.declared.walk.Walk.{Walk}
use Rattle.pnml_grammar.specs.Resolving.{is_legal_character}
use Rattle.pnml_grammar.specs.Valued.{item_height}

-- ---- values

-- text of characters that pass the test
abbrev pub is_text_of : (ℕ → Bool) → List ℕ → Bool
is_text_of test bytes = is_utf8 bytes && list_all test (chars bytes)

abbrev pub is_id_character : ℕ → Bool
is_id_character c = is_legal_character c && nat_lt 0x20 c && not (c == 0x7F)

unfoldable pub is_valued_id : List ℕ → Bool
is_valued_id bytes = nat_le 1 (length bytes) && nat_le (length bytes) MAX_ID_BYTES && is_text_of is_id_character bytes

unfoldable pub is_valued_name : List ℕ → Bool
is_valued_name bytes = nat_le (length bytes) MAX_NAME_BYTES && is_text_of is_legal_character bytes

abbrev pub is_valued_name_if_any : Option (List ℕ) → Bool
is_valued_name_if_any None = true
is_valued_name_if_any (Some name) = is_valued_name name

abbrev pub is_weight : ℕ → Bool
is_weight weight = nat_le 1 weight && nat_lt weight (2 ^ 64)

abbrev pub has_values_in_range : Item → Bool
has_values_in_range (Page page) = is_valued_id page.id && is_valued_name_if_any page.name
has_values_in_range PageEnd = true
has_values_in_range (Place place) = is_valued_id place.id && is_valued_name_if_any place.name && nat_lt place.initial (2 ^ 64)
has_values_in_range (Transition transition) = is_valued_id transition.id && is_valued_name_if_any transition.name
has_values_in_range (RefPlace node) = is_valued_id node.id && is_valued_name_if_any node.name && is_valued_id node.target
has_values_in_range (RefTransition node) = is_valued_id node.id && is_valued_name_if_any node.name && is_valued_id node.target
has_values_in_range (Arc arc) =
    is_valued_id arc.id && is_valued_name_if_any arc.name && is_valued_id arc.source && is_valued_id arc.target && is_weight arc.weight

-- ---- the walk

abbrev pub start : Walk
start = record { opened = 0; places = 0; transitions = 0; arcs = 0; references = 0; pages = 0 }

-- after one item more
abbrev pub beyond : Walk → Item → Walk
beyond walk (Page page) = record walk { opened = walk.opened + 1; pages = walk.pages + 1 }
beyond walk PageEnd = record walk { opened = walk.opened - 1 }
beyond walk (Place place) = record walk { places = walk.places + 1 }
beyond walk (Transition transition) = record walk { transitions = walk.transitions + 1 }
beyond walk (RefPlace node) = record walk { references = walk.references + 1 }
beyond walk (RefTransition node) = record walk { references = walk.references + 1 }
beyond walk (Arc arc) = record walk { arcs = walk.arcs + 1 }

-- one item more of a kind is within the limits, and an end of a page ends one that is open
abbrev pub may_count : Walk → Item → Bool
may_count walk (Page page) = nat_lt walk.pages MAX_PAGES
may_count walk PageEnd = nat_lt 0 walk.opened
may_count walk (Place place) = nat_lt walk.places MAX_PLACES
may_count walk (Transition transition) = nat_lt walk.transitions MAX_TRANSITIONS
may_count walk (RefPlace node) = nat_lt walk.references MAX_REFERENCES
may_count walk (RefTransition node) = nat_lt walk.references MAX_REFERENCES
may_count walk (Arc arc) = nat_lt walk.arcs MAX_ARCS

-- no more than MAX_OPEN_ELEMENTS elements are open, of which the root and the net are two
abbrev pub is_low : Walk → Item → Bool
is_low walk item = nat_le walk.opened (MAX_OPEN_ELEMENTS - 2 - item_height item)

abbrev pub past : Walk → Item → Option Walk
past walk item = if is_low walk item && may_count walk item then Some (beyond walk item) else None

-- after items that can all be passed, where no page is open after them
abbrev pub after : Option Walk → List Item → Option Walk
after None items = None
after (Some walk) [] = if walk.opened == 0 then Some walk else None
after (Some walk) (item ∷ items) = if has_values_in_range item then after (past walk item) items else None

-- after one net
abbrev pub after_net : Walk → NetTree → Option Walk
after_net walk net = if is_valued_id net.id && is_valued_name_if_any net.name then after (Some walk) net.items else None

-- the nets can be passed, one after the other
abbrev pub walks : Option Walk → List NetTree → Bool
walks None nets = false
walks (Some walk) [] = true
walks (Some walk) (net ∷ nets) = walks (after_net walk net) nets

unfoldable pub is_valued : Document → Bool
is_valued document =
    nat_le 1 (length document.nets) && nat_le (length document.nets) MAX_NETS && walks (Some start) document.nets
