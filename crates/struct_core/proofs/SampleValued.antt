-- The document of the sample net is valued: its ids are words and numbers in ASCII, its one page ends, and its
-- counts are small.
use Rattle.std.proofs.Common.{◌≡◌, ℕ, zero, suc, ◌+◌, ◌*◌, ◌%◌, ◌<◌, ◌≤◌, ◌^◌, List, [], ◌∷◌, ◌++◌, Bool, true, false, cond, None, map, length, refl, sym, ap, subst, append-nil, ◌∙◌, arith, inl, inr, append_assoc, length-append}
use Rattle.std.specs.Prelude.{codes, decimal, count_by, nat_lt, ◌&&◌}
use Rattle.std.specs.List.{flat_map, range_with_len, AllByRecursion, list_all}
use Rattle.std.specs.Str.{encode_utf8_all}
use Rattle.std.proofs.Math.Nat.{mod-lt}
use Rattle.std.proofs.lemmas.Bool.{and_parts, and_from, ltb-true}
use Rattle.std.proofs.lemmas.Bool.Decides.{nat_tests}
use Rattle.std.proofs.lemmas.Fmt.{decimal_by_steps, decimal_nonempty, length-decimal-le}
use Rattle.std.proofs.lemmas.List.Folds.{list_all-append}
use Rattle.std.proofs.lemmas.List.Sums.{sum_by-cons}
use Rattle.std.proofs.lemmas.Str.{encode_ascii}
use Rattle.net_values.specs.declared.document.Item.{Item}
use Rattle.net_values.specs.declared.document.Item.TheVariants.{Page, PageEnd}
use Rattle.net_values.specs.Characters.{IsIdCharacter, IsId}
use Rattle.net_values.specs.Items.{is_page, is_place, is_transition, is_arc, is_reference}
use Rattle.pnml_grammar.specs.Canon.{canon}
use Rattle.pnml_grammar.specs.Valued.{HasValuesInRange, PagesMatch, IsShallow, IsWithinLimits, IsValuedNet, Valued}
use Rattle.pnml_grammar.proofs.CanonLaws.{canon_is}
use Rattle.struct_core.specs.Sample.{numbered, place, transitions_of, arcs_of, sample_items, sample_tree, sample_document}
use Rattle.struct_core.specs.Outcome.{Profile}
use Rattle.struct_core.specs.Laws.{SamplesAreInTheProfile}
use Rattle.struct_core.proofs.SampleItems.{Nodes, every_item}
use Rattle.struct_core.proofs.SampleRules.{breaks_no_rule}

-- ---- ids

-- a printed byte of ASCII that is no space
abbrev is_letter : ℕ → Bool
is_letter byte = nat_lt 32 byte && nat_lt byte 127

letter_is : (byte : ℕ) → is_letter byte ≡ true → IsIdCharacter byte
letter_is byte e =
    let both = and_parts (nat_lt 32 byte) (nat_lt byte 127) e in
    let low : 32 < byte = ltb-true 32 byte both.0 in
    let high : byte < 127 = ltb-true byte 127 both.1 in
    (inr (inr (inr (inl (omega (arith, low), omega (arith, high))))), low, λ same. omega (arith, same, high))

letters_are : (bytes : List ℕ) → list_all is_letter bytes ≡ true → AllByRecursion IsIdCharacter bytes
letters_are [] e = tt
letters_are (byte ∷ bytes) e =
    let both = and_parts (is_letter byte) (list_all is_letter bytes) e in (letter_is byte both.0, letters_are bytes both.1)

letters_encoded : (bytes : List ℕ) → list_all is_letter bytes ≡ true → encode_utf8_all bytes ≡ bytes
letters_encoded [] e = refl
letters_encoded (byte ∷ bytes) e =
    let both = and_parts (is_letter byte) (list_all is_letter bytes) e in
    let high : byte < 127 = ltb-true byte 127 (and_parts (nat_lt 32 byte) (nat_lt byte 127) both.0).1 in
    ap (λ (t : List ℕ). t ++ encode_utf8_all bytes) (encode_ascii byte (omega (arith, high))) ∙ ap (λ (t : List ℕ). byte ∷ t) (letters_encoded bytes both.1)

one_digit : (d : ℕ) → d < 10 → list_all is_letter ((48 + d) ∷ []) ≡ true
one_digit d small =
    let e : is_letter (48 + d) ≡ true = grind (arith, nat_tests) in rw e refl

digits_letters : (i : ℕ) → i < 2 ^ 64 → list_all is_letter (decimal i) ≡ true
digits_letters i small =
    decimal_by_steps (λ m ds. list_all is_letter ds ≡ true) one_digit
    (λ m ds some is. list_all-append is_letter ds ((48 + m % 10) ∷ []) ∙ and_from (list_all is_letter ds) _ is (one_digit (m % 10) (mod-lt m (omega arith)))) i small

numbered_id : (word : List ℕ) (i : ℕ) → list_all is_letter word ≡ true → length word ≤ 7 → i < 2 ^ 64 → IsId (numbered word i)
numbered_id word i letters short small =
    let all : list_all is_letter (numbered word i) ≡ true = list_all-append is_letter word (decimal i) ∙ and_from (list_all is_letter word) _ letters (digits_letters i small) in
    let size : length (numbered word i) ≡ length word + length (decimal i) = length-append word (decimal i) in
    let some : 0 < length (decimal i) = decimal_nonempty i small in
    let few : length (decimal i) ≤ 20 = length-decimal-le 20 i (omega arith) (omega (arith, small)) small in
    record {
      characters = (numbered word i, letters_are (numbered word i) all, letters_encoded (numbered word i) all);
      nonempty = omega (arith, size, some);
      short = omega (arith, size, short, few);
    }

word_id : (word : List ℕ) → list_all is_letter word ≡ true → length word ≤ 7 → 1 ≤ length word → IsId word
word_id word letters short some = record {
  characters = (word, letters_are word letters, letters_encoded word letters);
  nonempty = some;
  short = omega (arith, short);
}

-- ---- the page

-- what holds of items holds with those of each number in front of them
over_numbers : (H : List Item → Type 0) (f : ℕ → Item) → ((i : ℕ) (rest : List Item) → H rest → H (f i ∷ rest)) → (a k : ℕ) (rest : List Item) → H rest
    → H (map f (range_with_len a k) ++ rest)
over_numbers H f step a zero rest is = is
over_numbers H f step a (suc k) rest is = step a (map f (range_with_len (a + 1) k) ++ rest) (over_numbers H f step (a + 1) k rest is)

over_lists : (H : List Item → Type 0) (f : ℕ → List Item) → ((i : ℕ) (rest : List Item) → H rest → H (f i ++ rest)) → (a k : ℕ) (rest : List Item) → H rest
    → H (flat_map f (range_with_len a k) ++ rest)
over_lists H f step a zero rest is = is
over_lists H f step a (suc k) rest is =
    subst H (sym (append_assoc (f a) (flat_map f (range_with_len (a + 1) k)) rest))
    (step a (flat_map f (range_with_len (a + 1) k) ++ rest) (over_lists H f step (a + 1) k rest is))

-- after the start of the page
after_page : (n : ℕ) (H : List Item → Type 0) → H (PageEnd ∷ [])
    → ((i : ℕ) (rest : List Item) → H rest
    → H (place (codes "think") 1 i ∷ rest) × H (place (codes "fork") 1 i ∷ rest) × H (place (codes "eat") 0 i ∷ rest) × H (transitions_of i ++ rest) × H (arcs_of n i ++ rest))
    → H (map (place (codes "think") 1) (range_with_len 0 n)
    ++ (map (place (codes "fork") 1) (range_with_len 0 n)
    ++ (map (place (codes "eat") 0) (range_with_len 0 n)
    ++ (flat_map transitions_of (range_with_len 0 n)
    ++ (flat_map (arcs_of n) (range_with_len 0 n)
    ++ PageEnd ∷ [])))))
after_page n H end step =
    over_numbers H (place (codes "think") 1) (λ i rest is. (step i rest is).0) 0 n _
    (over_numbers H (place (codes "fork") 1) (λ i rest is. (step i rest is).1) 0 n _
    (over_numbers H (place (codes "eat") 0) (λ i rest is. (step i rest is).2) 0 n _
    (over_lists H transitions_of (λ i rest is. (step i rest is).3) 0 n _
    (over_lists H (arcs_of n) (λ i rest is. (step i rest is).4) 0 n (PageEnd ∷ []) end))))

pages_match : (n : ℕ) → PagesMatch 0 (sample_items n)
pages_match n = after_page n (PagesMatch 1) (omega arith, refl) (λ i rest is. (is, is, is, is, is))

shallow_node : (rest : List Item) → IsShallow 3 rest → (3 + 1 ≤ 128) × IsShallow 3 rest
shallow_node rest is = (omega arith, is)

is_shallow : (n : ℕ) → IsShallow 2 (sample_items n)
is_shallow n = (
  omega arith,
  after_page n (IsShallow 3) tt
      (λ i rest is. (
        (omega arith, is),
        (omega arith, is),
        (omega arith, is),
        (omega arith, (omega arith, is)),
        (omega arith, (omega arith, (omega arith, (omega arith, (omega arith, (omega arith, (omega arith, (omega arith, is)))))))),
      )),
)

-- ---- the counts

count_more : (p : Item → Bool) (item : Item) (rest : List Item) → count_by p (item ∷ rest) ≡ cond (p item) 1 0 + count_by p rest
count_more p item rest = sum_by-cons (λ (x : Item). cond (p x) 1 0) item rest

-- where each item counts at most c
over_counted : (p : Item → Bool) (c : ℕ) (f : ℕ → Item) → ((i : ℕ) → cond (p (f i)) 1 0 ≤ c) → (a k : ℕ) (rest : List Item)
    → count_by p (map f (range_with_len a k) ++ rest) ≤ c * k + count_by p rest
over_counted p c f each a zero rest = omega arith
over_counted p c f each a (suc k) rest =
    let more = count_more p (f a) (map f (range_with_len (a + 1) k) ++ rest) in
    omega (arith, more, each a, over_counted p c f each (a + 1) k rest)

list_counted : (p : Item → Bool) (c : ℕ) (items rest : List Item) → AllByRecursion (λ item. cond (p item) 1 0 ≤ c) items
    → count_by p (items ++ rest) ≤ c * length items + count_by p rest
list_counted p c [] rest each = omega arith
list_counted p c (item ∷ items) rest each =
    let more = count_more p item (items ++ rest) in
    omega (arith, more, each.0, list_counted p c items rest each.1)

lists_counted : (p : Item → Bool) (c size : ℕ) (f : ℕ → List Item) → ((i : ℕ) → AllByRecursion (λ item. cond (p item) 1 0 ≤ c) (f i)) → ((i : ℕ) → length (f i) ≡ size)
    → (a k : ℕ) (rest : List Item) → count_by p (flat_map f (range_with_len a k) ++ rest) ≤ c * size * k + count_by p rest
lists_counted p c size f each sized a zero rest = omega arith
lists_counted p c size f each sized a (suc k) rest =
    let others = flat_map f (range_with_len (a + 1) k) in
    let first : count_by p (f a ++ (others ++ rest)) ≤ c * size + count_by p (others ++ rest) =
    subst (λ (m : ℕ). count_by p (f a ++ (others ++ rest)) ≤ c * m + count_by p (others ++ rest)) (sized a) (list_counted p c (f a) (others ++ rest) (each a)) in
    subst (λ (items : List Item). count_by p items ≤ c * size * suc k + count_by p rest) (sym (append_assoc (f a) others rest))
    (omega (arith, first, lists_counted p c size f each sized (a + 1) k rest))

-- a kind that places, transitions and arcs count so for
record CountsAtMost (p : Item → Bool) (places transitions arcs : ℕ) : Type 0 where
  place_is : (word : List ℕ) (initial i : ℕ) → cond (p (place word initial i)) 1 0 ≤ places
  transition_is : (i : ℕ) → AllByRecursion (λ item. cond (p item) 1 0 ≤ transitions) (transitions_of i)
  arc_is : (n i : ℕ) → AllByRecursion (λ item. cond (p item) 1 0 ≤ arcs) (arcs_of n i)
  end_is : p PageEnd ≡ false

end_counts : (p : Item → Bool) → p PageEnd ≡ false → count_by p (PageEnd ∷ []) ≡ 0
end_counts p none = count_more p PageEnd [] ∙ ap (λ (b : Bool). cond b 1 0 + count_by p []) none

at_most_one : (b : Bool) → cond b 1 0 ≤ 1
at_most_one true = omega arith
at_most_one false = omega arith

abbrev page : Item
page = Page record { id = codes "page"; name = None }

counted : (n : ℕ) (p : Item → Bool) (places transitions arcs : ℕ) → CountsAtMost p places transitions arcs
    → count_by p (sample_items n) ≤ 1 + (3 * (places * n) + (transitions * 2 * n + arcs * 8 * n))
counted n p places transitions arcs is =
    let after_arcs : List Item = PageEnd ∷ [] in
    let after_transitions : List Item = flat_map (arcs_of n) (range_with_len 0 n) ++ after_arcs in
    let after_eats : List Item = flat_map transitions_of (range_with_len 0 n) ++ after_transitions in
    let after_forks : List Item = map (place (codes "eat") 0) (range_with_len 0 n) ++ after_eats in
    let after_thinks : List Item = map (place (codes "fork") 1) (range_with_len 0 n) ++ after_forks in
    let on_page : List Item = map (place (codes "think") 1) (range_with_len 0 n) ++ after_thinks in
    let first = over_counted p places (place (codes "think") 1) (is.place_is (codes "think") 1) 0 n after_thinks in
    let second = over_counted p places (place (codes "fork") 1) (is.place_is (codes "fork") 1) 0 n after_forks in
    let third = over_counted p places (place (codes "eat") 0) (is.place_is (codes "eat") 0) 0 n after_eats in
    let fourth = lists_counted p transitions 2 transitions_of is.transition_is (λ i. refl) 0 n after_transitions in
    let fifth = lists_counted p arcs 8 (arcs_of n) (is.arc_is n) (λ i. refl) 0 n after_arcs in
    let more = count_more p page on_page in
    omega (arith, more, at_most_one (p page), first, second, third, fourth, fifth, end_counts p is.end_is)

places_only : CountsAtMost is_place 1 0 0
places_only = record {
  place_is = λ word initial i. omega arith;
  transition_is = λ i. (omega arith, (omega arith, tt));
  arc_is = λ n i. (omega arith, (omega arith, (omega arith, (omega arith, (omega arith, (omega arith, (omega arith, (omega arith, tt))))))));
  end_is = refl;
}

transitions_only : CountsAtMost is_transition 0 1 0
transitions_only = record {
  place_is = λ word initial i. omega arith;
  transition_is = λ i. (omega arith, (omega arith, tt));
  arc_is = λ n i. (omega arith, (omega arith, (omega arith, (omega arith, (omega arith, (omega arith, (omega arith, (omega arith, tt))))))));
  end_is = refl;
}

arcs_only : CountsAtMost is_arc 0 0 1
arcs_only = record {
  place_is = λ word initial i. omega arith;
  transition_is = λ i. (omega arith, (omega arith, tt));
  arc_is = λ n i. (omega arith, (omega arith, (omega arith, (omega arith, (omega arith, (omega arith, (omega arith, (omega arith, tt))))))));
  end_is = refl;
}

no_references : CountsAtMost is_reference 0 0 0
no_references = record {
  place_is = λ word initial i. omega arith;
  transition_is = λ i. (omega arith, (omega arith, tt));
  arc_is = λ n i. (omega arith, (omega arith, (omega arith, (omega arith, (omega arith, (omega arith, (omega arith, (omega arith, tt))))))));
  end_is = refl;
}

no_pages : CountsAtMost is_page 0 0 0
no_pages = record {
  place_is = λ word initial i. omega arith;
  transition_is = λ i. (omega arith, (omega arith, tt));
  arc_is = λ n i. (omega arith, (omega arith, (omega arith, (omega arith, (omega arith, (omega arith, (omega arith, (omega arith, tt))))))));
  end_is = refl;
}

within_limits : (n : ℕ) → n ≤ 200 → IsWithinLimits (sample_items n)
within_limits n small = record {
  places = omega (arith, counted n is_place 1 0 0 places_only);
  transitions = omega (arith, counted n is_transition 0 1 0 transitions_only);
  arcs = omega (arith, counted n is_arc 0 0 1 arcs_only);
  references = omega (arith, counted n is_reference 0 0 0 no_references);
  pages = omega (arith, counted n is_page 0 0 0 no_pages);
}

-- ---- the document

ids : (n : ℕ) → n ≤ 200 → Nodes n IsId IsId
ids n small = record {
  think = λ i below. numbered_id (codes "think") i refl (omega arith) (omega (arith, small, below));
  fork = λ i below. numbered_id (codes "fork") i refl (omega arith) (omega (arith, small, below));
  eat = λ i below. numbered_id (codes "eat") i refl (omega arith) (omega (arith, small, below));
  take = λ i below. numbered_id (codes "take") i refl (omega arith) (omega (arith, small, below));
  release = λ i below. numbered_id (codes "release") i refl (omega arith) (omega (arith, small, below));
}

tree_valued : (n : ℕ) → n ≤ 200 → IsValuedNet (sample_tree n)
tree_valued n small = record {
  id = word_id (codes "sample") refl (omega arith) (omega arith);
  name = tt;
  items = every_item n HasValuesInRange IsId IsId (ids n small)
      (λ k source target below p t. (numbered_id (codes "a") k refl (omega arith) (omega (arith, small, below)), tt, p, t, omega arith, omega arith))
      (λ k source target below t p. (numbered_id (codes "a") k refl (omega arith) (omega (arith, small, below)), tt, t, p, omega arith, omega arith))
      (word_id (codes "page") refl (omega arith) (omega arith), tt) tt
      (λ i below. (((ids n small).think i below, tt, omega arith), ((ids n small).fork i below, tt, omega arith), ((ids n small).eat i below, tt, omega arith)))
      (λ i below. (((ids n small).take i below, tt), ((ids n small).release i below, tt)));
  pages = pages_match n;
  shallow = is_shallow n;
}

pub sample_valued : (n : ℕ) → n ≤ 200 → Valued (sample_document n)
sample_valued n small = record {
  some = omega arith;
  few = omega arith;
  nets = (tree_valued n small, tt);
  limits = subst IsWithinLimits (sym (append-nil (sample_items n))) (within_limits n small);
}

pub sample_profile : (n : ℕ) → n ≤ 200 → Profile (canon (sample_document n)) (sample_document n)
sample_profile n small = record {
  spelled = canon_is (sample_document n) (sample_valued n small);
  rules = breaks_no_rule n (omega (arith, small));
}

pub samples_are : SamplesAreInTheProfile
samples_are n low high = sample_profile n high
