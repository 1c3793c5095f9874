-- An empty tag of ASCII with few attributes, whose values represent themselves: what reading gives of it.
use Rattle.std.proofs.Common.{◌≡◌, ℕ, Bool, true, false, List, [], ◌∷◌, ◌++◌, ◌+◌, ◌<◌, ◌≤◌, Option, Some, None, Bor, length, length-set, take, set, map, subst, refl, sym, ap, ◌∙◌, arith}
use Rattle.std.specs.Prelude.{◌==◌, codes, option_copied, IfSome}
use Rattle.std.specs.List.{list_all, AllByRecursion}
use Rattle.std.proofs.lemmas.Bool.{and_parts, and_from}
use Rattle.std.proofs.lemmas.Bool.Decides.{nat_tests}
use Rattle.std.proofs.lemmas.List.{append-nil, take_more_set, map_push}
use Rattle.std.proofs.lemmas.Str.{is_utf8-from_IsUtf8, IsUtf8-from_ascii}
use Rattle.pnml_grammar.specs.declared.token.Attribute.{Attribute}
use Rattle.pnml_grammar.specs.declared.token.Token.TheVariants.{Empty}
use Rattle.pnml_grammar.specs.Characters.{Each, is_space}
use Rattle.pnml_grammar.specs.Names.{is_name_start}
use Rattle.pnml_grammar.specs.Declarations.{RawAttribute}
use Rattle.pnml_grammar.specs.Runs.{beyond, past, past_text}
use Rattle.pnml_grammar.specs.Reading.{name_at, raw_attribute_at, all_raw_attributes_at, attribute_of, attributes_of, distinct_attributes_of, are_new, raw_attribute_name, tag_at, tag_closed, markup_at, shape_at, before_rest, is_spelling, token_from}
use Rattle.pnml_grammar.specs.Resolving.{text_of, value_of, resolved, literal}
use Rattle.pnml_grammar.proofs.RunLaws.{past_found, chosen}
use Rattle.pnml_grammar.proofs.TagLaws.{tag_made}
use Rattle.pnml_grammar.proofs.EachLaws.{each_append}
use Rattle.pnml_token.specs.declared.attributes.RawAttribute.{RawAttribute as Lent}
use Rattle.pnml_token.specs.Views.{view, views}
use Rattle.pnml_token.specs.declared.runs.ByteClass.TheVariants.{Plain, Literal}
use Rattle.pnml_token.specs.ByteClasses.{in_class, is_plain_byte}
use Rattle.pnml_token.specs.EmptyTags.{HasReading, HasSimpleAttributes, ReadsEmptyTag, IsEmptyTag}
use Rattle.pnml_token.proofs.LegalTexts.{plain_are_ascii}
use Rattle.pnml_token.proofs.PieceLaws.{literal_run, resolved_run}
use Rattle.pnml_token.proofs.RawAttributes.{Loops, loop_begins, loop_goes_on, loop_ends}

-- ---- an attribute

plain_is_read : (bytes : List ℕ) → list_all is_plain_byte bytes ≡ true → text_of bytes ≡ Some bytes
unfolding text_of
plain_is_read bytes plain = rw (is_utf8-from_IsUtf8 bytes (IsUtf8-from_ascii bytes (plain_are_ascii bytes plain))) refl

each_of_all : (p : ℕ → Bool) (bytes : List ℕ) → list_all p bytes ≡ true → Each p bytes
each_of_all p [] all = tt
each_of_all p (b ∷ bytes) all = let both = and_parts (p b) (list_all p bytes) all in (both.0, each_of_all p bytes both.1)

none_literal : (spaces : Bool) → literal spaces [] ≡ []
none_literal true = refl
none_literal false = refl

pub itself : (spaces : Bool) (body : List ℕ) → list_all (in_class (Plain spaces)) body ≡ true → resolved (literal spaces body) ≡ Some body
itself spaces body all =
    let each = each_of_all (in_class (Plain spaces)) body all in
    ap (λ (t : List ℕ). resolved (literal spaces t)) (sym (append-nil body))
    ∙ ap resolved (literal_run spaces body [] each)
    ∙ ap (λ (t : List ℕ). resolved (body ++ t)) (none_literal spaces)
    ∙ resolved_run spaces body [] each
    ∙ ap (λ (t : List ℕ). Some t) (append-nil body)

value_is : (body : List ℕ) → list_all is_plain_byte body ≡ true → list_all (in_class (Plain true)) body ≡ true → value_of true body ≡ Some body
unfolding value_of
value_is body plain all = rw (plain_is_read body plain) (itself true body all)

literal_is_plain : (b : ℕ) → in_class Literal b ≡ true → (is_plain_byte b ≡ true) × (in_class (Plain true) b ≡ true)
literal_is_plain b e = (grind (arith, nat_tests), grind (arith, nat_tests))

literal_are_plain : (bytes : List ℕ) → list_all (in_class Literal) bytes ≡ true → (list_all is_plain_byte bytes ≡ true) × (list_all (in_class (Plain true)) bytes ≡ true)
literal_are_plain [] all = (refl, refl)
literal_are_plain (b ∷ bytes) all =
    let p = and_parts (in_class Literal b) (list_all (in_class Literal) bytes) all in
    let first = literal_is_plain b p.0 in
    let rest = literal_are_plain bytes p.1 in
    (and_from (is_plain_byte b) (list_all is_plain_byte bytes) first.0 rest.0, and_from (in_class (Plain true) b) (list_all (in_class (Plain true)) bytes) first.1 rest.1)

pub simple_is_read : (s : RawAttribute) → list_all is_plain_byte s.name ≡ true → list_all (in_class Literal) s.body ≡ true → HasReading s
unfolding attribute_of
simple_is_read s name body =
    let plain = literal_are_plain s.body body in
    (record { name = s.name; value = s.body }, rw (plain_is_read s.name name, value_is s.body plain.0 plain.1) refl)

-- ---- few attributes

read_all : (raw_attributes : List RawAttribute) → AllByRecursion HasReading raw_attributes → (attributes : List Attribute) × (attributes_of raw_attributes ≡ Some attributes)
unfolding attributes_of
read_all [] each = ([], refl)
read_all (s ∷ raw_attributes) each = let more = read_all raw_attributes each.1 in (each.0.0 ∷ more.0, rw (each.0.1, more.1) refl)

pub distinct_are_read : (raw_attributes : List RawAttribute) → AllByRecursion HasReading raw_attributes → are_new [] (map raw_attribute_name raw_attributes) ≡ true
    → (attributes : List Attribute) × (distinct_attributes_of raw_attributes ≡ Some attributes)
unfolding distinct_attributes_of
distinct_are_read raw_attributes each new = let read = read_all raw_attributes each in (read.0, rw new read.1)

-- so many attributes are gathered, each is read, and the others occur in the rest
pub record Gathers (raw_attributes : List Lent) (count : ℕ) (rest bytes : List ℕ) : Type 0 where
  pub few : count ≤ length raw_attributes
  pub each : AllByRecursion HasReading (views (take count raw_attributes))
  pub loops : Loops (views (take count raw_attributes)) rest bytes

pub gathers_none : (raw_attributes : List Lent) (bytes : List ℕ) → Gathers raw_attributes 0 bytes bytes
gathers_none raw_attributes bytes = record { few = omega arith; each = tt; loops = loop_begins bytes }

pub gathers_more : (raw_attributes : List Lent) (count : ℕ) (s : Lent) (rest beyond bytes : List ℕ) → count < length raw_attributes → raw_attribute_at rest ≡ Some (view s, beyond) → HasReading (view s)
    → Gathers raw_attributes count rest bytes → Gathers (set raw_attributes count s) (count + 1) beyond bytes
gathers_more raw_attributes count s rest beyond bytes lt found read h =
    let more : views (take (count + 1) (set raw_attributes count s)) ≡ views (take count raw_attributes) ++ view s ∷ [] =
    ap views (take_more_set raw_attributes count s lt) ∙ map_push view (take count raw_attributes) s
    in
    record {
      few = omega (arith, lt, length-set raw_attributes count s);
      each = subst (AllByRecursion HasReading) (sym more) (each_append HasReading (views (take count raw_attributes)) (view s ∷ []) h.each (read, tt));
      loops = subst (λ (front : List RawAttribute). Loops front beyond bytes) (sym more) (loop_goes_on (views (take count raw_attributes)) rest bytes (view s) beyond found h.loops);
    }

pub gathers_all : (raw_attributes : List Lent) (count : ℕ) (rest bytes : List ℕ) → raw_attribute_at rest ≡ None → are_new [] (map raw_attribute_name (views (take count raw_attributes))) ≡ true
    → Gathers raw_attributes count rest bytes → HasSimpleAttributes bytes rest
gathers_all raw_attributes count rest bytes none new h =
    let all = loop_ends (views (take count raw_attributes)) rest bytes none h.loops in
    let read = distinct_are_read (views (take count raw_attributes)) h.each new in
    (read.0, ap (λ (found : List RawAttribute × List ℕ). distinct_attributes_of found.0) (sym all) ∙ read.1, ap (λ (found : List RawAttribute × List ℕ). found.1) (sym all))

-- ---- the tag

name_begins : (byte : ℕ) → is_name_start byte ≡ true → ((33 == byte) ≡ false) × ((byte == 63) ≡ false) × ((byte == 47) ≡ false)
name_begins byte start = (grind (arith, nat_tests), grind (arith, nat_tests), grind (arith, nat_tests))

no_other_markup : (bytes : List ℕ) → past_text (codes "!--") bytes ≡ None → past_text (codes "![CDATA[") bytes ≡ None → past 63 bytes ≡ None → past 47 bytes ≡ None → markup_at bytes ≡ tag_at bytes
unfolding markup_at
no_other_markup bytes comment section instruction end = rw (comment, section, instruction, end) refl

markup_is_tag : (bytes : List ℕ) (found : List ℕ × List ℕ) → name_at bytes ≡ Some found → markup_at bytes ≡ tag_at bytes
markup_is_tag [] found named = absurd cc
markup_is_tag (byte ∷ bytes) found named =
    let start = chosen (is_name_start byte) _ _ named in
    let other = name_begins byte start.0 in
    no_other_markup (byte ∷ bytes) (rw other.0 refl) (rw other.0 refl) (rw other.1 refl) (rw other.2 refl)

closed : (name : List ℕ) (attributes : List Attribute) (bytes rest : List ℕ) → past 62 bytes ≡ Some rest → tag_closed name attributes (47 ∷ bytes) ≡ Some (Empty name attributes, rest)
closed name attributes bytes rest end = rw end refl

pub empty_is_read : (bytes after name behind attributed slash rest : List ℕ) → past 60 bytes ≡ Some after → name_at after ≡ Some (name, behind) → list_all is_plain_byte name ≡ true
    → HasSimpleAttributes behind attributed → past 47 (beyond is_space attributed) ≡ Some slash → past 62 slash ≡ Some rest → ReadsEmptyTag bytes rest
unfolding shape_at
empty_is_read bytes after name behind attributed slash rest begins named plain has slashed ends =
    let tag : tag_at after ≡ Some (Empty name has.0, rest) =
    tag_made after name behind (all_raw_attributes_at behind).0 (all_raw_attributes_at behind).1 name has.0 (47 ∷ slash) (Some (Empty name has.0, rest)) named (plain_is_read name plain) refl has.1
    (ap (beyond is_space) has.2 ∙ past_found 47 (beyond is_space attributed) slash slashed) (closed name has.0 slash rest ends)
    in
    (name, has.0, ap shape_at (past_found 60 bytes after begins) ∙ markup_is_tag after (name, behind) named ∙ tag)

pub empty_if_read : (bytes after name behind attributed slash : List ℕ) (end : Option (Bor (List ℕ))) → past 60 bytes ≡ Some after → name_at after ≡ Some (name, behind) → list_all is_plain_byte name ≡ true
    → HasSimpleAttributes behind attributed → past 47 (beyond is_space attributed) ≡ Some slash → option_copied end ≡ past 62 slash → IfSome end (λ rest. ReadsEmptyTag bytes rest.now)
empty_if_read bytes after name behind attributed slash None begins named plain has slashed ends = tt
empty_if_read bytes after name behind attributed slash (Some rest) begins named plain has slashed ends = empty_is_read bytes after name behind attributed slash rest.now begins named plain has slashed (sym ends)

pub legal_is_read : (bytes rest : List ℕ) → ReadsEmptyTag bytes rest → is_spelling (before_rest bytes rest) ≡ true → IsEmptyTag bytes rest
unfolding token_from
legal_is_read bytes rest h legal = (h.0, h.1, rw (h.2, legal) refl)
