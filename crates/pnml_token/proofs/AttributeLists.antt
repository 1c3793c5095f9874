-- Making attributes one after the other, as a loop does.
use Rattle.std.proofs.Common.{◌≡◌, ℕ, ◌+◌, ◌<◌, ◌≤◌, List, [], ◌∷◌, ◌++◌, Option, Some, None, length, get_or, drop, map, refl, sym, ap, ◌∙◌, append_assoc}
use Rattle.std.proofs.lemmas.List.{append-nil, drop_more, drop_all, drop-map}
use Rattle.pnml_grammar.specs.declared.token.Attribute.{Attribute}
use Rattle.pnml_grammar.specs.Declarations.{RawAttribute}
use Rattle.pnml_grammar.specs.Runs.{◌>>=◌}
use Rattle.pnml_grammar.specs.Reading.{attribute_of, attributes_of}
use Rattle.pnml_token.specs.declared.miss.Miss.{Miss}
use Rattle.pnml_token.specs.declared.miss.Miss.TheVariants.{NoToken, NoMemory}
use Rattle.pnml_token.specs.declared.attributes.RawAttribute.{RawAttribute as Lent}
use Rattle.pnml_token.specs.Views.{view, views}
use Rattle.pnml_token.specs.Gives.{Misses}

abbrev pub with_attributes : List Attribute → Option (List Attribute) → Option (List Attribute)
with_attributes front made = made >>= λ more. Some (front ++ more)

pub made_first : (made : Option (List Attribute)) → with_attributes [] made ≡ made
made_first None = refl
made_first (Some more) = refl

regroup : (front : List Attribute) (a : Attribute) (made : Option (List Attribute)) → with_attributes front (made >>= λ more. Some (a ∷ more)) ≡ with_attributes (front ++ a ∷ []) made
regroup front a None = refl
regroup front a (Some more) = ap (λ (t : List Attribute). Some t) (sym (append_assoc front (a ∷ []) more))

pub made_more : (front : List Attribute) (s : RawAttribute) (raw_attributes : List RawAttribute) (a : Attribute) (total : Option (List Attribute)) → attribute_of s ≡ Some a
    → with_attributes front (attributes_of (s ∷ raw_attributes)) ≡ total → with_attributes (front ++ a ∷ []) (attributes_of raw_attributes) ≡ total
unfolding attributes_of
made_more front s raw_attributes a total e is =
    let one : with_attributes front (attributes_of (s ∷ raw_attributes)) ≡ with_attributes (front ++ a ∷ []) (attributes_of raw_attributes) = rw e (regroup front a (attributes_of raw_attributes)) in
    sym one ∙ is

pub made_none : (miss : Miss) (front : List Attribute) (s : RawAttribute) (raw_attributes : List RawAttribute) (total : Option (List Attribute)) → Misses miss (attribute_of s)
    → with_attributes front (attributes_of (s ∷ raw_attributes)) ≡ total → Misses miss total
unfolding attributes_of
made_none NoMemory front s raw_attributes total e is = tt
made_none NoToken front s raw_attributes total e is =
    let one : with_attributes front (attributes_of (s ∷ raw_attributes)) ≡ None = rw e refl in
    sym is ∙ one

pub made_all : (front : List Attribute) (total : Option (List Attribute)) → with_attributes front (attributes_of []) ≡ total → total ≡ Some front
unfolding attributes_of
made_all front total is = sym is ∙ ap (λ (t : List Attribute). Some t) (append-nil front)

pub views_more : (raw_attributes : List Lent) (i : ℕ) (d : Lent) → i < length raw_attributes → drop i (views raw_attributes) ≡ view (get_or raw_attributes i d) ∷ drop (i + 1) (views raw_attributes)
views_more raw_attributes i d lt =
    drop-map view i raw_attributes ∙ ap (map view) (drop_more raw_attributes i d lt) ∙ ap (λ (t : List RawAttribute). view (get_or raw_attributes i d) ∷ t) (sym (drop-map view (i + 1) raw_attributes))

pub views_all : (raw_attributes : List Lent) (i : ℕ) → length raw_attributes ≤ i → drop i (views raw_attributes) ≡ []
views_all raw_attributes i le = drop-map view i raw_attributes ∙ ap (map view) (drop_all i raw_attributes le)

pub step_more : (front : List Attribute) (raw_attributes : List Lent) (i : ℕ) (d : Lent) (a : Attribute) (total : Option (List Attribute)) → i < length raw_attributes
    → attribute_of (view (get_or raw_attributes i d)) ≡ Some a → with_attributes front (attributes_of (drop i (views raw_attributes))) ≡ total
    → with_attributes (front ++ a ∷ []) (attributes_of (drop (i + 1) (views raw_attributes))) ≡ total
step_more front raw_attributes i d a total lt e is =
    made_more front (view (get_or raw_attributes i d)) (drop (i + 1) (views raw_attributes)) a total e
    (ap (λ (t : List RawAttribute). with_attributes front (attributes_of t)) (sym (views_more raw_attributes i d lt)) ∙ is)

pub step_none : (miss : Miss) (front : List Attribute) (raw_attributes : List Lent) (i : ℕ) (d : Lent) (total : Option (List Attribute)) → i < length raw_attributes
    → Misses miss (attribute_of (view (get_or raw_attributes i d))) → with_attributes front (attributes_of (drop i (views raw_attributes))) ≡ total → Misses miss total
step_none miss front raw_attributes i d total lt misses is =
    made_none miss front (view (get_or raw_attributes i d)) (drop (i + 1) (views raw_attributes)) total misses
    (ap (λ (t : List RawAttribute). with_attributes front (attributes_of t)) (sym (views_more raw_attributes i d lt)) ∙ is)

pub step_all : (front : List Attribute) (raw_attributes : List Lent) (i : ℕ) (total : Option (List Attribute)) → length raw_attributes ≤ i
    → with_attributes front (attributes_of (drop i (views raw_attributes))) ≡ total → total ≡ Some front
step_all front raw_attributes i total le is = made_all front total (ap (λ (t : List RawAttribute). with_attributes front (attributes_of t)) (sym (views_all raw_attributes i le)) ∙ is)
