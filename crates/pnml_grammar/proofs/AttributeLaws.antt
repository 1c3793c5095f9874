-- The attributes of a tag: those that are read from what is written are those that it means.
use Rattle.std.proofs.Common.{◌≡◌, ◌≢◌, ℕ, ◌<◌, ◌⊎◌, Bool, true, false, List, [], ◌∷◌, ◌++◌, Some, refl, sym, ap, subst, ◌∙◌, append_assoc, arith, inl, inr, map, length, ◌≤◌}
use Rattle.std.specs.Prelude.{not, IsUtf8, bytes_eq}
use Rattle.std.specs.List.{AllByRecursion, AllZip, flat_map, list_any}
use Rattle.std.proofs.lemmas.Bool.{and_parts, and_from, or_from, or_parts, not-true, both_ways, cases_Bool, not_from_false}
use Rattle.std.proofs.lemmas.Bool.Decides.{nat_tests}
use Rattle.std.proofs.lemmas.Slice.Eq.{bytes_eq-Decides}
use Rattle.pnml_grammar.specs.declared.token.Attribute.{Attribute}
use Rattle.pnml_grammar.specs.Characters.{Each, is_space}
use Rattle.pnml_grammar.specs.Values.{Denotes}
use Rattle.pnml_grammar.specs.Attributes.{Written, written, IsWritten, IsAttribute, HaveDistinctNames}
use Rattle.pnml_grammar.specs.Declarations.{RawAttribute, raw_attribute}
use Rattle.pnml_grammar.specs.Resolving.{literal, resolved, text_of, value_of}
use Rattle.pnml_grammar.specs.Reading.{attribute_of, attributes_of, are_new, raw_attribute_name, distinct_attributes_of}
use Rattle.pnml_grammar.proofs.RunLaws.{bind_some, chosen, some_is}
use Rattle.pnml_grammar.proofs.ValueLaws.{resolves_is, resolves_found}
use Rattle.pnml_grammar.proofs.TextLaws.{text_again, text_found, BeginsAscii, space_begins, IsCutAtAscii, cut_after_space, utf8_is_cut}

-- ---- the parts of what is written are text

pub record HasTexts (w : Written) : Type 0 where
  pub name : IsUtf8 w.name
  pub body : IsUtf8 w.body

pub quote_is_ascii : (q : ℕ) → (q ≡ 34) ⊎ (q ≡ 39) → q < 128
quote_is_ascii q h = grind (arith, nat_tests)

parts_again : (gap name before after : List ℕ) (q : ℕ) (body rest : List ℕ)
    → (gap ++ (name ++ (before ++ (61 ∷ (after ++ (q ∷ (body ++ (q ∷ [])))))))) ++ rest
    ≡ gap ++ (name ++ (before ++ (61 ∷ (after ++ (q ∷ (body ++ (q ∷ rest)))))))
parts_again gap name before after q body rest = simp append_assoc

-- a text with an attribute in front is cut into its name, what is between its quotes, and what follows it
pub written_cut : (Property : List ℕ → Type 0) → IsCutAtAscii Property → (w : Written) (rest : List ℕ) → IsWritten w → Property (written w ++ rest)
    → Property w.name × Property w.body × Property rest
written_cut Property cut w rest is h =
    let q = w.quote in
    let t2 = w.body ++ (q ∷ rest) in
    let t1 = w.after ++ (q ∷ t2) in
    let t0 = w.before ++ (61 ∷ t1) in
    let ascii = quote_is_ascii q is.quote in
    let after_space = cut_after_space Property cut in
    let whole : Property (w.gap ++ (w.name ++ t0)) = subst Property (parts_again w.gap w.name w.before w.after q w.body rest) h in
    let named = cut.before w.name t0 (space_begins w.before (61 ∷ t1) is.before (omega arith)) (after_space w.gap (w.name ++ t0) is.gap whole) in
    let after_equals = cut.past 61 t1 (omega arith) (after_space w.before (61 ∷ t1) is.before named.1) in
    let inside = cut.past q t2 ascii (after_space w.after (q ∷ t2) is.after after_equals) in
    let valued = cut.before w.body (q ∷ rest) ascii inside in
    (named.0, valued.0, cut.past q rest ascii valued.1)

written_texts : (w : Written) (rest : List ℕ) → IsWritten w → IsUtf8 (written w ++ rest) → HasTexts w × IsUtf8 rest
written_texts w rest is h = let parts = written_cut IsUtf8 utf8_is_cut w rest is h in (record { name = parts.0; body = parts.1 }, parts.2)

pub writtens_texts : (ws : List Written) (rest : List ℕ) → AllByRecursion IsWritten ws → IsUtf8 (flat_map written ws ++ rest) → AllByRecursion HasTexts ws × IsUtf8 rest
writtens_texts [] rest each h = (tt, h)
writtens_texts (w ∷ ws) rest each h =
    let one = written_texts w (flat_map written ws ++ rest) each.0 (subst IsUtf8 (append_assoc (written w) (flat_map written ws) rest) h) in
    let more = writtens_texts ws rest each.1 one.1 in
    ((one.0, more.0), more.1)

pub writtens_begin : (ws : List Written) (rest : List ℕ) → AllByRecursion IsWritten ws → BeginsAscii rest → BeginsAscii (flat_map written ws ++ rest)
writtens_begin [] rest each ascii = ascii
writtens_begin (w ∷ ws) rest each ascii = gap_begins w.gap each.0.gap each.0.apart
  where
    gap_begins : (gap : List ℕ) → Each is_space gap → 1 ≤ length gap → BeginsAscii ((gap ++ (w.name ++ (w.before ++ (61 ∷ (w.after ++ (w.quote ∷ (w.body ++ (w.quote ∷ []))))))) ++ flat_map written ws) ++ rest)
    gap_begins [] space some = absurd (omega arith)
    gap_begins (g ∷ gs) space some = space_begins (g ∷ []) [] (space.0, tt) tt

-- ---- values

pub value_again : (spaces : Bool) (body value : List ℕ) → IsUtf8 body → Denotes (literal spaces body) value → value_of spaces body ≡ Some value
unfolding value_of
value_again spaces body value text is = rw (text_again body text) (resolves_is (literal spaces body) value is)

pub value_found : (spaces : Bool) (body value : List ℕ) → value_of spaces body ≡ Some value → Denotes (literal spaces body) value
unfolding value_of
value_found spaces body value e =
    let w = bind_some (text_of body) (λ text. resolved (literal spaces text)) value e in
    let same : resolved (literal spaces body) ≡ Some value = ap (λ (t : List ℕ). resolved (literal spaces t)) (text_found body w.0 w.1) ∙ w.2 in
    resolves_found (literal spaces body) value same

-- ---- attributes

attribute_made : (s : RawAttribute) (name value : List ℕ) → text_of s.name ≡ Some name → value_of true s.body ≡ Some value → attribute_of s ≡ Some record { name = name; value = value }
unfolding attribute_of
attribute_made s name value e0 e1 = rw (e0, e1) refl

attribute_again : (w : Written) (a : Attribute) → HasTexts w → IsAttribute w a → attribute_of (raw_attribute w) ≡ Some a
attribute_again w a texts is =
    attribute_made (raw_attribute w) a.name a.value (text_again w.name texts.name ∙ ap (λ (n : List ℕ). Some n) (sym is.name)) (value_again true w.body a.value texts.body is.value)

attribute_found : (w : Written) (a : Attribute) → attribute_of (raw_attribute w) ≡ Some a → IsAttribute w a
unfolding attribute_of
attribute_found w a e =
    let n = bind_some (text_of w.name) _ a e in
    let v = bind_some (value_of true w.body) _ a n.2 in
    let same = some_is (record { name = n.0; value = v.0 }) a v.2 in
    let here : IsAttribute w (record { name = n.0; value = v.0 }) = record { name = sym (text_found w.name n.0 n.1); value = value_found true w.body v.0 v.1 } in
    subst (IsAttribute w) same here

attributes_made : (s : RawAttribute) (raw_attributes : List RawAttribute) (a : Attribute) (attributes : List Attribute) → attribute_of s ≡ Some a → attributes_of raw_attributes ≡ Some attributes
    → attributes_of (s ∷ raw_attributes) ≡ Some (a ∷ attributes)
unfolding attributes_of
attributes_made s raw_attributes a attributes e0 e1 = rw (e0, e1) refl

attributes_again : (ws : List Written) (attributes : List Attribute) → AllByRecursion HasTexts ws → AllZip IsAttribute ws attributes → attributes_of (map raw_attribute ws) ≡ Some attributes
unfolding attributes_of
attributes_again [] [] texts are = refl
attributes_again [] (a ∷ attributes) texts are = absurd are
attributes_again (w ∷ ws) [] texts are = absurd are
attributes_again (w ∷ ws) (a ∷ attributes) texts are =
    attributes_made (raw_attribute w) (map raw_attribute ws) a attributes (attribute_again w a texts.0 are.0) (attributes_again ws attributes texts.1 are.1)

attributes_found : (ws : List Written) (attributes : List Attribute) → attributes_of (map raw_attribute ws) ≡ Some attributes → AllZip IsAttribute ws attributes
unfolding attributes_of
attributes_found [] attributes e = subst (AllZip IsAttribute []) (some_is [] attributes e) tt
attributes_found (w ∷ ws) attributes e =
    let a = bind_some (attribute_of (raw_attribute w)) _ attributes e in
    let more = bind_some (attributes_of (map raw_attribute ws)) _ attributes a.2 in
    subst (AllZip IsAttribute (w ∷ ws)) (some_is (a.0 ∷ more.0) attributes more.2) (attribute_found w a.0 a.1, attributes_found ws more.0 more.1)

-- ---- names that repeat none

abbrev attribute_name : Attribute → List ℕ
attribute_name a = a.name

-- the name is none of those seen
abbrev IsNew : List (List ℕ) → Attribute → Type 0
IsNew seen a = AllByRecursion (λ name. name ≢ a.name) seen

new_one : (seen : List (List ℕ)) (name : List ℕ) → AllByRecursion (λ other. other ≢ name) seen → list_any (bytes_eq name) seen ≡ false
new_one [] name each = refl
new_one (other ∷ seen) name each =
    or_from (bytes_eq name other) (list_any (bytes_eq name) seen)
    (elim (cases_Bool (bytes_eq name other)) [ inl same ↦ absurd (each.0 (sym ((bytes_eq-Decides name other).0 same))) | inr apart ↦ apart ])
    (new_one seen name each.1)

one_new : (seen : List (List ℕ)) (name : List ℕ) → list_any (bytes_eq name) seen ≡ false → AllByRecursion (λ other. other ≢ name) seen
one_new [] name e = tt
one_new (other ∷ seen) name e =
    let p = or_parts (bytes_eq name other) (list_any (bytes_eq name) seen) e in
    (λ same. both_ways (bytes_eq name other) p.0 ((bytes_eq-Decides name other).1 (sym same)), one_new seen name p.1)

both_new : (name : List ℕ) (seen : List (List ℕ)) (attributes : List Attribute) → AllByRecursion (λ other. name ≢ other.name) attributes → AllByRecursion (IsNew seen) attributes
    → AllByRecursion (IsNew (name ∷ seen)) attributes
both_new name seen [] first rest = tt
both_new name seen (a ∷ attributes) first rest = ((first.0, rest.0), both_new name seen attributes first.1 rest.1)

new_parts : (name : List ℕ) (seen : List (List ℕ)) (attributes : List Attribute) → AllByRecursion (IsNew (name ∷ seen)) attributes
    → AllByRecursion (λ other. name ≢ other.name) attributes × AllByRecursion (IsNew seen) attributes
new_parts name seen [] each = (tt, tt)
new_parts name seen (a ∷ attributes) each =
    let more = new_parts name seen attributes each.1 in
    ((each.0.0, more.0), (each.0.1, more.1))

new_again : (seen : List (List ℕ)) (attributes : List Attribute) → HaveDistinctNames attributes → AllByRecursion (IsNew seen) attributes → are_new seen (map attribute_name attributes) ≡ true
new_again seen [] distinct each = refl
new_again seen (a ∷ attributes) distinct each =
    and_from (not (list_any (bytes_eq a.name) seen)) (are_new (a.name ∷ seen) (map attribute_name attributes))
    (not_from_false (list_any (bytes_eq a.name) seen) (new_one seen a.name each.0))
    (new_again (a.name ∷ seen) attributes distinct.1 (both_new a.name seen attributes distinct.0 each.1))

new_found : (seen : List (List ℕ)) (attributes : List Attribute) → are_new seen (map attribute_name attributes) ≡ true → HaveDistinctNames attributes × AllByRecursion (IsNew seen) attributes
new_found seen [] e = (tt, tt)
new_found seen (a ∷ attributes) e =
    let p = and_parts (not (list_any (bytes_eq a.name) seen)) (are_new (a.name ∷ seen) (map attribute_name attributes)) e in
    let ih = new_found (a.name ∷ seen) attributes p.1 in
    let more = new_parts a.name seen attributes ih.1 in
    ((more.0, ih.0), (one_new seen a.name (not-true (list_any (bytes_eq a.name) seen) p.0), more.1))

none_seen : (attributes : List Attribute) → AllByRecursion (IsNew []) attributes
none_seen [] = tt
none_seen (a ∷ attributes) = (tt, none_seen attributes)

names_are : (ws : List Written) (attributes : List Attribute) → AllZip IsAttribute ws attributes → map raw_attribute_name (map raw_attribute ws) ≡ map attribute_name attributes
names_are [] [] are = refl
names_are [] (a ∷ attributes) are = absurd are
names_are (w ∷ ws) [] are = absurd are
names_are (w ∷ ws) (a ∷ attributes) are = rw (are.0.name, names_are ws attributes are.1) refl

-- ---- all of it

pub distinct_again : (ws : List Written) (attributes : List Attribute) → AllByRecursion HasTexts ws → AllZip IsAttribute ws attributes → HaveDistinctNames attributes
    → distinct_attributes_of (map raw_attribute ws) ≡ Some attributes
unfolding distinct_attributes_of
distinct_again ws attributes texts are distinct =
    let new : are_new [] (map raw_attribute_name (map raw_attribute ws)) ≡ true = ap (are_new []) (names_are ws attributes are) ∙ new_again [] attributes distinct (none_seen attributes) in
    rw new (attributes_again ws attributes texts are)

pub distinct_found : (ws : List Written) (attributes : List Attribute) → distinct_attributes_of (map raw_attribute ws) ≡ Some attributes
    → AllZip IsAttribute ws attributes × HaveDistinctNames attributes
unfolding distinct_attributes_of
distinct_found ws attributes e =
    let g = chosen (are_new [] (map raw_attribute_name (map raw_attribute ws))) (attributes_of (map raw_attribute ws)) attributes e in
    let are = attributes_found ws attributes g.1 in
    let new : are_new [] (map attribute_name attributes) ≡ true = ap (are_new []) (sym (names_are ws attributes are)) ∙ g.0 in
    (are, (new_found [] attributes new).0)
