-- The test of a value is exact: of an id, of a name, and of the values of an item.
use Rattle.std.proofs.Common.{◌≡◌, ℕ, ◌≤◌, ◌^◌, Bool, true, List, [], ◌∷◌, Option, Some, None, refl, sym, ap, ◌∙◌, length}
use Rattle.std.specs.Prelude.{◌==◌, ◌&&◌, not, nat_le, nat_lt, chars, IsUtf8}
use Rattle.std.specs.List.{AllByRecursion, list_all}
use Rattle.std.specs.Str.{is_utf8, all_scalars}
use Rattle.std.proofs.Math.Utf8.{scalar}
use Rattle.std.proofs.lemmas.Bool.{and_parts, and_from, leb-true, ltb-true, le-leb, lt-ltb, eqb-false, ne_eqb, not-true}
use Rattle.std.proofs.lemmas.Str.{chars-encodes, encodes-chars, IsUtf8-from_is_utf8, is_utf8-from_IsUtf8}
use Rattle.net_values.specs.declared.limits.TheConstants.{MAX_ID_BYTES, MAX_NAME_BYTES}
use Rattle.net_values.specs.declared.document.RefNode.{RefNode}
use Rattle.net_values.specs.declared.document.Item.{Item}
use Rattle.net_values.specs.declared.document.Item.TheVariants.{Page, PageEnd, Place, Transition, RefPlace, RefTransition, Arc}
use Rattle.net_values.specs.Characters.{IsLegalCharacter, IsTextOf, IsIdCharacter, IsId, IsNameValue}
use Rattle.pnml_grammar.specs.Resolving.{is_legal_character}
use Rattle.pnml_grammar.specs.Valued.{IsNameIfAny, HasValuesInRange}
use Rattle.pnml_grammar.specs.ValuedTests.{is_text_of, is_id_character, is_valued_id, is_valued_name, is_valued_name_if_any, is_weight, has_values_in_range}
use Rattle.pnml_grammar.proofs.EachLaws.{each_found, each_tested}
use Rattle.pnml_grammar.proofs.ReferenceLaws.{legal_is, legal_found}
use Rattle.pnml_grammar.proofs.TextLaws.{legal_scalar}

-- ---- what the code finds of texts

pub valued_id_is : (bytes : List ℕ) (b : Bool) → IsUtf8 bytes → 1 ≤ length bytes → length bytes ≤ MAX_ID_BYTES → b ≡ list_all is_id_character (chars bytes) → b ≡ is_valued_id bytes
unfolding is_valued_id
valued_id_is bytes b text some few e = rw (is_utf8-from_IsUtf8 bytes text, le-leb 1 (length bytes) some, le-leb (length bytes) MAX_ID_BYTES few) e

pub valued_name_is : (bytes : List ℕ) (b : Bool) → IsUtf8 bytes → length bytes ≤ MAX_NAME_BYTES → b ≡ list_all is_legal_character (chars bytes) → b ≡ is_valued_name bytes
unfolding is_valued_name
valued_name_is bytes b text few e = rw (is_utf8-from_IsUtf8 bytes text, le-leb (length bytes) MAX_NAME_BYTES few) e

-- ---- values

text_found : (Property : ℕ → Type 0) (test : ℕ → Bool) (bytes : List ℕ) → ((c : ℕ) → test c ≡ true → Property c) → is_text_of test bytes ≡ true → IsTextOf Property bytes
text_found Property test bytes found e =
    let both = and_parts (is_utf8 bytes) (list_all test (chars bytes)) e in
    (chars bytes, each_found Property test found (chars bytes) both.1, encodes-chars bytes (IsUtf8-from_is_utf8 bytes both.0))

text_is : (Property : ℕ → Type 0) (test : ℕ → Bool) (bytes : List ℕ) → ((c : ℕ) → Property c → test c ≡ true) → ((c : ℕ) → Property c → scalar c ≡ true) → IsTextOf Property bytes → is_text_of test bytes ≡ true
text_is Property test bytes tested scalars h =
    let all : all_scalars h.0 ≡ true = scalars_are h.0 h.1 in
    let cs : chars bytes ≡ h.0 = ap chars (sym h.2) ∙ chars-encodes h.0 all in
    and_from (is_utf8 bytes) (list_all test (chars bytes)) (is_utf8-from_IsUtf8 bytes (h.0, (all, h.2))) (ap (list_all test) cs ∙ each_tested Property test tested h.0 h.1)
  where
    scalars_are : (cs : List ℕ) → AllByRecursion Property cs → all_scalars cs ≡ true
    scalars_are [] each = refl
    scalars_are (c ∷ cs) each = and_from (scalar c) (all_scalars cs) (scalars c each.0) (scalars_are cs each.1)

id_character_found : (c : ℕ) → is_id_character c ≡ true → IsIdCharacter c
id_character_found c e =
    let p = and_parts (is_legal_character c && nat_lt 32 c) (not (c == 127)) e in
    let q = and_parts (is_legal_character c) (nat_lt 32 c) p.0 in
    (legal_found c q.0, ltb-true 32 c q.1, eqb-false c 127 (not-true (c == 127) p.1))

id_character_is : (c : ℕ) → IsIdCharacter c → is_id_character c ≡ true
id_character_is c h =
    and_from (is_legal_character c && nat_lt 32 c) (not (c == 127)) (and_from (is_legal_character c) (nat_lt 32 c) (legal_is c h.0) (lt-ltb 32 c h.1))
    (ap not (ne_eqb c 127 h.2))

id_found : (bytes : List ℕ) → is_valued_id bytes ≡ true → IsId bytes
unfolding is_valued_id
id_found bytes e =
    let p = and_parts (nat_le 1 (length bytes) && nat_le (length bytes) MAX_ID_BYTES) (is_text_of is_id_character bytes) e in
    let q = and_parts (nat_le 1 (length bytes)) (nat_le (length bytes) MAX_ID_BYTES) p.0 in
    record { characters = text_found IsIdCharacter is_id_character bytes id_character_found p.1; nonempty = leb-true 1 (length bytes) q.0; short = leb-true (length bytes) MAX_ID_BYTES q.1 }

id_is : (bytes : List ℕ) → IsId bytes → is_valued_id bytes ≡ true
unfolding is_valued_id
id_is bytes h =
    and_from (nat_le 1 (length bytes) && nat_le (length bytes) MAX_ID_BYTES) (is_text_of is_id_character bytes)
    (and_from (nat_le 1 (length bytes)) (nat_le (length bytes) MAX_ID_BYTES) (le-leb 1 (length bytes) h.nonempty) (le-leb (length bytes) MAX_ID_BYTES h.short))
    (text_is IsIdCharacter is_id_character bytes id_character_is (λ c is. legal_scalar c is.0) h.characters)

name_found : (bytes : List ℕ) → is_valued_name bytes ≡ true → IsNameValue bytes
unfolding is_valued_name
name_found bytes e =
    let p = and_parts (nat_le (length bytes) MAX_NAME_BYTES) (is_text_of is_legal_character bytes) e in
    record { characters = text_found IsLegalCharacter is_legal_character bytes legal_found p.1; short = leb-true (length bytes) MAX_NAME_BYTES p.0 }

name_is : (bytes : List ℕ) → IsNameValue bytes → is_valued_name bytes ≡ true
unfolding is_valued_name
name_is bytes h =
    and_from (nat_le (length bytes) MAX_NAME_BYTES) (is_text_of is_legal_character bytes) (le-leb (length bytes) MAX_NAME_BYTES h.short)
    (text_is IsLegalCharacter is_legal_character bytes legal_is legal_scalar h.characters)

name_if_any_found : (name : Option (List ℕ)) → is_valued_name_if_any name ≡ true → IsNameIfAny name
name_if_any_found None e = tt
name_if_any_found (Some name) e = name_found name e

name_if_any_is : (name : Option (List ℕ)) → IsNameIfAny name → is_valued_name_if_any name ≡ true
name_if_any_is None h = refl
name_if_any_is (Some name) h = name_is name h

-- ---- items

-- an id and a name, which all items but the end of a page have
pub node_found : (id : List ℕ) (name : Option (List ℕ)) → (is_valued_id id && is_valued_name_if_any name) ≡ true → IsId id × IsNameIfAny name
node_found id name e =
    let p = and_parts (is_valued_id id) (is_valued_name_if_any name) e in
    (id_found id p.0, name_if_any_found name p.1)

pub node_is : (id : List ℕ) (name : Option (List ℕ)) → IsId id → IsNameIfAny name → (is_valued_id id && is_valued_name_if_any name) ≡ true
node_is id name is named = and_from (is_valued_id id) (is_valued_name_if_any name) (id_is id is) (name_if_any_is name named)

reference_found : (node : RefNode) → (is_valued_id node.id && is_valued_name_if_any node.name && is_valued_id node.target) ≡ true → IsId node.id × IsNameIfAny node.name × IsId node.target
reference_found node e =
    let p = and_parts (is_valued_id node.id && is_valued_name_if_any node.name) (is_valued_id node.target) e in
    let q = node_found node.id node.name p.0 in
    (q.0, q.1, id_found node.target p.1)

reference_is : (node : RefNode) → IsId node.id × IsNameIfAny node.name × IsId node.target → (is_valued_id node.id && is_valued_name_if_any node.name && is_valued_id node.target) ≡ true
reference_is node h = and_from (is_valued_id node.id && is_valued_name_if_any node.name) (is_valued_id node.target) (node_is node.id node.name h.0 h.1) (id_is node.target h.2)

pub item_found : (item : Item) → has_values_in_range item ≡ true → HasValuesInRange item
item_found (Page page) e = node_found page.id page.name e
item_found PageEnd e = tt
item_found (Place place) e =
    let p = and_parts (is_valued_id place.id && is_valued_name_if_any place.name) (nat_lt place.initial (2 ^ 64)) e in
    let q = node_found place.id place.name p.0 in
    (q.0, q.1, ltb-true place.initial (2 ^ 64) p.1)
item_found (Transition transition) e = node_found transition.id transition.name e
item_found (RefPlace node) e = reference_found node e
item_found (RefTransition node) e = reference_found node e
item_found (Arc arc) e =
    let named = is_valued_id arc.id && is_valued_name_if_any arc.name in
    let p = and_parts (named && is_valued_id arc.source && is_valued_id arc.target) (is_weight arc.weight) e in
    let q = and_parts (named && is_valued_id arc.source) (is_valued_id arc.target) p.0 in
    let r = and_parts named (is_valued_id arc.source) q.0 in
    let node = node_found arc.id arc.name r.0 in
    let weight = and_parts (nat_le 1 arc.weight) (nat_lt arc.weight (2 ^ 64)) p.1 in
    (node.0, node.1, id_found arc.source r.1, id_found arc.target q.1, leb-true 1 arc.weight weight.0, ltb-true arc.weight (2 ^ 64) weight.1)

pub item_is : (item : Item) → HasValuesInRange item → has_values_in_range item ≡ true
item_is (Page page) h = node_is page.id page.name h.0 h.1
item_is PageEnd h = refl
item_is (Place place) h =
    and_from (is_valued_id place.id && is_valued_name_if_any place.name) (nat_lt place.initial (2 ^ 64)) (node_is place.id place.name h.0 h.1) (lt-ltb place.initial (2 ^ 64) h.2)
item_is (Transition transition) h = node_is transition.id transition.name h.0 h.1
item_is (RefPlace node) h = reference_is node h
item_is (RefTransition node) h = reference_is node h
item_is (Arc arc) h =
    let named = is_valued_id arc.id && is_valued_name_if_any arc.name in
    let node : named ≡ true = node_is arc.id arc.name h.0 h.1 in
    let source : (named && is_valued_id arc.source) ≡ true = and_from named (is_valued_id arc.source) node (id_is arc.source h.2) in
    let target : (named && is_valued_id arc.source && is_valued_id arc.target) ≡ true = and_from (named && is_valued_id arc.source) (is_valued_id arc.target) source (id_is arc.target h.3) in
    and_from (named && is_valued_id arc.source && is_valued_id arc.target) (is_weight arc.weight) target
    (and_from (nat_le 1 arc.weight) (nat_lt arc.weight (2 ^ 64)) (le-leb 1 arc.weight h.4) (lt-ltb arc.weight (2 ^ 64) h.5))
