-- Whether the names so far have a name tells whether it is one of those seen. The names so far are kept as a set, or
-- where there are few they are gone over again.
use Rattle.std.proofs.Common.{◌≡◌, ℕ, ◌+◌, ◌<◌, ◌≤◌, Bool, true, false, cond, List, [], ◌∷◌, length, get_or, take, drop, map, refl, sym, ap, ◌∙◌, Bor}
use Rattle.std.specs.Prelude.{not, ◌||◌, ◌&&◌, bytes_eq}
use Rattle.std.specs.List.{list_any}
use Rattle.std.specs.Ordering.{is_eq, nat_cmp}
use Rattle.std.specs.Cmp.Lexicographic.{slice_cmp}
use Rattle.std.specs.BTreeSet.{BTreeSet}
use Rattle.std.proofs.Math.Bool.{or_comm}
use Rattle.std.proofs.lemmas.Bool.Decides.{same_from_decides, Decides-like}
use Rattle.std.proofs.lemmas.List.Folds.{list_any_more}
use Rattle.std.proofs.lemmas.Slice.Eq.{bytes_eq-Decides}
use Rattle.std.proofs.lemmas.Map.Text.{is_eq-slice_cmp}
use Rattle.pnml_grammar.specs.Declarations.{RawAttribute}
use Rattle.pnml_grammar.specs.Reading.{are_new, raw_attribute_name}
use Rattle.pnml_token.specs.declared.attributes.RawAttribute.{RawAttribute as Lent}
use Rattle.pnml_token.specs.Views.{views}
use Rattle.pnml_token.proofs.AttributeLists.{views_more, views_all}

-- whether the set has a name
abbrev pub has : BTreeSet (Bor (List ℕ)) → Bor (List ℕ) → Bool
has s name = list_any (λ key. is_eq (slice_cmp nat_cmp name.now key.now)) s.keys

-- whether one of the attributes has a name
abbrev pub is_name_of : List Lent → Bor (List ℕ) → Bool
is_name_of raw_attributes name = list_any (λ (other : Lent). bytes_eq other.name.now name.now) raw_attributes

-- the test finds the names seen, and those that are left decide what all decide
pub record Seen (found : Bor (List ℕ) → Bool) (raw_attributes : List Lent) (i : ℕ) : Type 0 where
  pub names : List (List ℕ)
  pub finds : (q : Bor (List ℕ)) → found q ≡ list_any (bytes_eq q.now) names
  pub left : are_new names (map raw_attribute_name (drop i (views raw_attributes))) ≡ are_new [] (map raw_attribute_name (views raw_attributes))

pub seen_none : (found : Bor (List ℕ) → Bool) (raw_attributes : List Lent) → ((q : Bor (List ℕ)) → found q ≡ false) → Seen found raw_attributes 0
seen_none found raw_attributes none = record { names = []; finds = none; left = refl }

-- the test of the next name, of those that are left
next_is : (found : Bor (List ℕ) → Bool) (raw_attributes : List Lent) (i : ℕ) (d : Lent) (h : Seen found raw_attributes i) → i < length raw_attributes
    → (not (list_any (bytes_eq (get_or raw_attributes i d).name.now) h.names) && are_new ((get_or raw_attributes i d).name.now ∷ h.names) (map raw_attribute_name (drop (i + 1) (views raw_attributes))))
    ≡ are_new [] (map raw_attribute_name (views raw_attributes))
next_is found raw_attributes i d h lt = ap (λ (t : List RawAttribute). are_new h.names (map raw_attribute_name t)) (sym (views_more raw_attributes i d lt)) ∙ h.left

pub seen_twice : (found : Bor (List ℕ) → Bool) (raw_attributes : List Lent) (i : ℕ) (d : Lent) → i < length raw_attributes → Seen found raw_attributes i
    → found (get_or raw_attributes i d).name ≡ true → false ≡ are_new [] (map raw_attribute_name (views raw_attributes))
seen_twice found raw_attributes i d lt h repeated =
    let old : not (list_any (bytes_eq (get_or raw_attributes i d).name.now) h.names) ≡ false = ap not (sym (h.finds (get_or raw_attributes i d).name) ∙ repeated) in
    sym (ap (λ b. b && are_new ((get_or raw_attributes i d).name.now ∷ h.names) (map raw_attribute_name (drop (i + 1) (views raw_attributes)))) old)
    ∙ next_is found raw_attributes i d h lt

pub seen_more : (found more : Bor (List ℕ) → Bool) (raw_attributes : List Lent) (i : ℕ) (d : Lent) → i < length raw_attributes → Seen found raw_attributes i
    → found (get_or raw_attributes i d).name ≡ false
    → ((q : Bor (List ℕ)) → more q ≡ (bytes_eq q.now (get_or raw_attributes i d).name.now || found q)) → Seen more raw_attributes (i + 1)
seen_more found more raw_attributes i d lt h new adds =
    let name = (get_or raw_attributes i d).name in
    let fresh : not (list_any (bytes_eq name.now) h.names) ≡ true = ap not (sym (h.finds name) ∙ new) in
    record {
      names = name.now ∷ h.names;
      finds = λ q. adds q ∙ ap (λ b. bytes_eq q.now name.now || b) (h.finds q);
      left = sym (ap (λ b. b && are_new (name.now ∷ h.names) (map raw_attribute_name (drop (i + 1) (views raw_attributes)))) fresh) ∙ next_is found raw_attributes i d h lt;
    }

pub seen_all : (found : Bor (List ℕ) → Bool) (raw_attributes : List Lent) (i : ℕ) → length raw_attributes ≤ i → Seen found raw_attributes i
    → true ≡ are_new [] (map raw_attribute_name (views raw_attributes))
seen_all found raw_attributes i le h = ap (λ (t : List RawAttribute). are_new h.names (map raw_attribute_name t)) (sym (views_all raw_attributes i le)) ∙ h.left

-- ---- as a set

bytes_eq_flips : (xs ys : List ℕ) → bytes_eq xs ys ≡ bytes_eq ys xs
bytes_eq_flips xs ys = same_from_decides (bytes_eq xs ys) (bytes_eq ys xs) (bytes_eq-Decides xs ys) (Decides-like (bytes_eq ys xs) sym sym (bytes_eq-Decides ys xs))

cond_is_or : (a b : Bool) → cond a true b ≡ (a || b)
cond_is_or true b = refl
cond_is_or false b = refl

pub not_added : (b added : Bool) → added ≡ not b → added ≡ false → b ≡ true
not_added true added is old = refl
not_added false added is old = absurd cc

was_added : (b added : Bool) → added ≡ not b → added ≡ true → b ≡ false
was_added true added is new = absurd cc
was_added false added is new = refl

pub seen_added : (s n : BTreeSet (Bor (List ℕ))) (raw_attributes : List Lent) (i : ℕ) (d : Lent) (added : Bool) → i < length raw_attributes → Seen (has s) raw_attributes i
    → added ≡ not (has s (get_or raw_attributes i d).name) → added ≡ true
    → ((q : Bor (List ℕ)) → has n q ≡ cond (is_eq (slice_cmp nat_cmp (get_or raw_attributes i d).name.now q.now)) true (has s q)) → Seen (has n) raw_attributes (i + 1)
seen_added s n raw_attributes i d added lt h is new updates =
    let name = (get_or raw_attributes i d).name in
    seen_more (has s) (has n) raw_attributes i d lt h (was_added (has s name) added is new) (λ q.
    updates q ∙ rw (is_eq-slice_cmp name.now q.now, bytes_eq_flips name.now q.now) (cond_is_or (bytes_eq q.now name.now) (has s q)))

-- ---- as the attributes gone over

pub front_more : (raw_attributes : List Lent) (i : ℕ) (d : Lent) → i < length raw_attributes → Seen (is_name_of (take i raw_attributes)) raw_attributes i
    → is_name_of (take i raw_attributes) (get_or raw_attributes i d).name ≡ false → Seen (is_name_of (take (i + 1) raw_attributes)) raw_attributes (i + 1)
front_more raw_attributes i d lt h new =
    let name = (get_or raw_attributes i d).name in
    seen_more (is_name_of (take i raw_attributes)) (is_name_of (take (i + 1) raw_attributes)) raw_attributes i d lt h new (λ q.
    list_any_more (λ (other : Lent). bytes_eq other.name.now q.now) raw_attributes i d lt
    ∙ or_comm (is_name_of (take i raw_attributes) q) (bytes_eq name.now q.now)
    ∙ ap (λ b. b || is_name_of (take i raw_attributes) q) (bytes_eq_flips name.now q.now))
