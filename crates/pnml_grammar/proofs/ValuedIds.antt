-- The ids of a tag that may occur: the test of bytes is one of characters, since a byte of a character above
-- U+007F passes it, and the attributes that an element needs are there.
use Rattle.std.proofs.Common.{◌≡◌, ℕ, Bool, true, false, cond, List, [], ◌∷◌, Option, Some, None, refl, sym, ap, ◌∙◌, arith, inl, inr, length}
use Rattle.std.specs.Prelude.{◌==◌, ◌&&◌, ◌||◌, not, nat_le, nat_lt, codes, bytes_eq, is_some, unwrap_or, encode_utf8}
use Rattle.std.specs.List.{AllByRecursion, list_all, list_any}
use Rattle.std.specs.Str.{encode_utf8_all}
use Rattle.std.proofs.lemmas.Bool.{cases_Bool, and_parts, leb-true, ltb-true, ltb-false, not-true, eqb-false}
use Rattle.std.proofs.lemmas.List.Folds.{list_all-append}
use Rattle.std.proofs.lemmas.Slice.Eq.{bytes_eq-Decides}
use Rattle.std.proofs.lemmas.Str.{encode_ascii}
use Rattle.net_values.specs.declared.limits.TheConstants.{MAX_ID_BYTES}
use Rattle.net_values.specs.Characters.{IsLegalCharacter, IsLegalText, IsIdCharacter, IsId}
use Rattle.pnml_grammar.specs.declared.element.ElementKind.{ElementKind}
use Rattle.pnml_grammar.specs.declared.element.AttributeKind.{AttributeKind}
use Rattle.pnml_grammar.specs.declared.element.AttributeKind.TheVariants.{Id, NetType, Source, Target, Ref}
use Rattle.pnml_grammar.specs.declared.token.Attribute.{Attribute}
use Rattle.pnml_grammar.specs.Elements.{attribute_named, attribute_names, attribute_kinds, value_of, needs, is_id, fits_as, fits_as_if_any, fits, has_if_needed, has_needed, is_skipped, has_attributes}
use Rattle.pnml_grammar.specs.Contents.{value_in}
use Rattle.pnml_grammar.specs.LegalTexts.{HaveLegalValues}
use Rattle.pnml_grammar.proofs.RunLaws.{some_is}

-- ---- the bytes of an id

abbrev is_id_byte : ℕ → Bool
is_id_byte byte = nat_lt 32 byte && not (byte == 127)

id_character : (c : ℕ) → IsLegalCharacter c → list_all is_id_byte (encode_utf8 c) ≡ true → IsIdCharacter c
id_character c legal e =
    elim (cases_Bool (nat_lt c 128)) [
      | inl low ↦
          let one : list_all is_id_byte (c ∷ []) ≡ true = sym (ap (list_all is_id_byte) (encode_ascii c (ltb-true c 128 low))) ∙ e in
          let tests = and_parts (nat_lt 32 c) (not (c == 127)) (and_parts (is_id_byte c) true one).0 in
          (legal, ltb-true 32 c tests.0, eqb-false c 127 (not-true (c == 127) tests.1))
      | inr high ↦ (legal, omega (arith, ltb-false c 128 high), λ same. omega (arith, same, ltb-false c 128 high))
    ]

id_characters : (cs : List ℕ) → AllByRecursion IsLegalCharacter cs → list_all is_id_byte (encode_utf8_all cs) ≡ true → AllByRecursion IsIdCharacter cs
id_characters [] legal e = tt
id_characters (c ∷ cs) legal e =
    let both = and_parts (list_all is_id_byte (encode_utf8 c)) (list_all is_id_byte (encode_utf8_all cs)) (sym (list_all-append is_id_byte (encode_utf8 c) (encode_utf8_all cs)) ∙ e) in
    (id_character c legal.0 both.0, id_characters cs legal.1 both.1)

-- a legal text that passes the test is an id
id_is : (value : List ℕ) → IsLegalText value → is_id value ≡ true → IsId value
unfolding is_id
id_is value legal e =
    let p = and_parts (nat_le 1 (length value) && nat_le (length value) MAX_ID_BYTES) (list_all is_id_byte value) e in
    let q = and_parts (nat_le 1 (length value)) (nat_le (length value) MAX_ID_BYTES) p.0 in
    record {
      characters = (legal.0, id_characters legal.0 legal.1 (ap (list_all is_id_byte) legal.2 ∙ p.1), legal.2);
      nonempty = leb-true 1 (length value) q.0;
      short = leb-true (length value) MAX_ID_BYTES q.1;
    }

-- ---- the attributes of a tag

-- the value of an attribute that is there fits, and it is legal
found_fits : (kind : ElementKind) (name value : List ℕ) (attributes : List Attribute) → list_all (fits kind) attributes ≡ true → HaveLegalValues attributes → value_of name attributes ≡ Some value
    → (fits kind record { name = name; value = value } ≡ true) × IsLegalText value
found_fits kind name value [] each legal e = absurd cc
found_fits kind name value (a ∷ attributes) each legal e =
    let both = and_parts (fits kind a) (list_all (fits kind) attributes) each in
    elim (cases_Bool (bytes_eq a.name name)) [
      | inl same ↦
          let value_is : a.value ≡ value = some_is a.value value (sym (ap (λ b. cond b (Some a.value) (value_of name attributes)) same) ∙ e) in
          let name_is : a.name ≡ name = (bytes_eq-Decides a.name name).0 same in
          rw (← name_is, ← value_is) (both.0, legal.0)
      | inr other ↦ found_fits kind name value attributes both.1 legal.1 (sym (ap (λ b. cond b (Some a.value) (value_of name attributes)) other) ∙ e)
    ]

-- an attribute whose value is an id
record IsIdKey (key : AttributeKind) (name : List ℕ) : Type 0 where
  named : attribute_named name ≡ Some key
  plain : list_any (λ byte. byte == 58) name ≡ false
  tested : (kind : ElementKind) (value : List ℕ) → fits_as kind key value ≡ (needs kind key && is_id value)

fits_is_id : (key : AttributeKind) (name value : List ℕ) (kind : ElementKind) → IsIdKey key name → fits kind record { name = name; value = value } ≡ true → is_id value ≡ true
unfolding fits
fits_is_id key name value kind is e =
    let fitting : fits_as_if_any kind (attribute_named name) value ≡ true = sym (ap (λ b. b || fits_as_if_any kind (attribute_named name) value) is.plain) ∙ e in
    let at : (needs kind key && is_id value) ≡ true = sym (is.tested kind value) ∙ sym (ap (λ k. fits_as_if_any kind k value) is.named) ∙ fitting in
    (and_parts (needs kind key) (is_id value) at).1

id_in_range : (key : AttributeKind) (name : List ℕ) (kind : ElementKind) (attributes : List Attribute) (found : Option (List ℕ)) → IsIdKey key name → list_all (fits kind) attributes ≡ true → HaveLegalValues attributes
    → value_of name attributes ≡ found → is_some found ≡ true → IsId (unwrap_or found [])
id_in_range key name kind attributes None is each legal e there = absurd cc
id_in_range key name kind attributes (Some value) is each legal e there =
    let p = found_fits kind name value attributes each legal e in
    id_is value p.1 (fits_is_id key name value kind is p.0)

-- ---- the four attributes

keys : IsIdKey Id (codes "id") × IsIdKey Source (codes "source") × IsIdKey Target (codes "target") × IsIdKey Ref (codes "ref")
unfolding attribute_named attribute_names attribute_kinds
keys = (
  record { named = refl; plain = refl; tested = λ kind value. refl },
  record { named = refl; plain = refl; tested = λ kind value. refl },
  record { named = refl; plain = refl; tested = λ kind value. refl },
  record { named = refl; plain = refl; tested = λ kind value. refl },
)

record HasNeeded (kind : ElementKind) (attributes : List Attribute) : Type 0 where
  id : has_if_needed kind attributes Id (codes "id") ≡ true
  source : has_if_needed kind attributes Source (codes "source") ≡ true
  target : has_if_needed kind attributes Target (codes "target") ≡ true
  ref : has_if_needed kind attributes Ref (codes "ref") ≡ true

needed_are : (kind : ElementKind) (attributes : List Attribute) → has_needed kind attributes ≡ true → HasNeeded kind attributes
unfolding has_needed
needed_are kind attributes e =
    let has = has_if_needed kind attributes in
    let p4 = and_parts (has Id (codes "id") && has NetType (codes "type") && has Source (codes "source") && has Target (codes "target")) (has Ref (codes "ref")) e in
    let p3 = and_parts (has Id (codes "id") && has NetType (codes "type") && has Source (codes "source")) (has Target (codes "target")) p4.0 in
    let p2 = and_parts (has Id (codes "id") && has NetType (codes "type")) (has Source (codes "source")) p3.0 in
    let p1 = and_parts (has Id (codes "id")) (has NetType (codes "type")) p2.0 in
    record { id = p1.0; source = p2.1; target = p3.1; ref = p4.1 }

is_there : (kind : ElementKind) (attributes : List Attribute) (key : AttributeKind) (name : List ℕ) → needs kind key ≡ true → has_if_needed kind attributes key name ≡ true → is_some (value_of name attributes) ≡ true
is_there kind attributes key name needed e = sym (ap (λ b. not b || is_some (value_of name attributes)) needed) ∙ e

-- the ids that a tag of the kind needs are in range
pub record HasIds (kind : ElementKind) (attributes : List Attribute) : Type 0 where
  pub id : needs kind Id ≡ true → IsId (value_in (codes "id") attributes)
  pub source : needs kind Source ≡ true → IsId (value_in (codes "source") attributes)
  pub target : needs kind Target ≡ true → IsId (value_in (codes "target") attributes)
  pub ref : needs kind Ref ≡ true → IsId (value_in (codes "ref") attributes)

pub ids_are_in_range : (kind : ElementKind) (attributes : List Attribute) → is_skipped kind ≡ false → has_attributes kind attributes ≡ true → HaveLegalValues attributes → HasIds kind attributes
unfolding has_attributes
ids_are_in_range kind attributes read e legal =
    let both = and_parts (list_all (fits kind) attributes) (has_needed kind attributes) (sym (ap (λ b. b || (list_all (fits kind) attributes && has_needed kind attributes)) read) ∙ e) in
    let there = needed_are kind attributes both.1 in
    record {
      id = λ needed. id_in_range Id (codes "id") kind attributes _ keys.0 both.0 legal refl (is_there kind attributes Id (codes "id") needed there.id);
      source = λ needed. id_in_range Source (codes "source") kind attributes _ keys.1 both.0 legal refl (is_there kind attributes Source (codes "source") needed there.source);
      target = λ needed. id_in_range Target (codes "target") kind attributes _ keys.2 both.0 legal refl (is_there kind attributes Target (codes "target") needed there.target);
      ref = λ needed. id_in_range Ref (codes "ref") kind attributes _ keys.3 both.0 legal refl (is_there kind attributes Ref (codes "ref") needed there.ref);
    }
