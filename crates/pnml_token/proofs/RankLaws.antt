-- Names whose numbers ascend are distinct: the number of each is greater than those of all before it.
use Rattle.std.proofs.Common.{◌≡◌, ℕ, ◌+◌, ◌<◌, ◌≤◌, true, false, List, [], ◌∷◌, length, get_or, drop, map, refl, sym, ap, ◌∙◌, arith, inl, inr}
use Rattle.std.specs.Prelude.{not, ◌&&◌, bytes_eq}
use Rattle.std.specs.List.{list_any, AllByRecursion}
use Rattle.std.proofs.lemmas.Bool.{cases_Bool}
use Rattle.std.proofs.lemmas.Slice.Eq.{bytes_eq-Decides}
use Rattle.pnml_grammar.specs.Declarations.{RawAttribute}
use Rattle.pnml_grammar.specs.Reading.{are_new, raw_attribute_name}
use Rattle.pnml_grammar.proofs.EachLaws.{each_weaker}
use Rattle.pnml_token.specs.declared.attributes.RawAttribute.{RawAttribute as Lent}
use Rattle.pnml_token.specs.Ranks.{rank}
use Rattle.pnml_token.specs.Views.{views}
use Rattle.pnml_token.proofs.AttributeLists.{views_more, views_all}

abbrev pub IsUpTo : ℕ → List ℕ → Type 0
IsUpTo most name = rank name ≤ most

-- the numbers of the names so far are at most the last, and those that are left decide what all decide
pub record Ascends (raw_attributes : List Lent) (i last : ℕ) : Type 0 where
  pub names : List (List ℕ)
  pub low : AllByRecursion (IsUpTo last) names
  pub left : are_new names (map raw_attribute_name (drop i (views raw_attributes))) ≡ are_new [] (map raw_attribute_name (views raw_attributes))

other : (name before : List ℕ) → rank before < rank name → bytes_eq name before ≡ false
other name before lt = elim (cases_Bool (bytes_eq name before)) [
  | inl same ↦ absurd (omega (arith, lt, ap rank ((bytes_eq-Decides name before).0 same)))
  | inr apart ↦ apart
]

pub none_before : (names : List (List ℕ)) (name : List ℕ) (last : ℕ) → last < rank name → AllByRecursion (IsUpTo last) names → list_any (bytes_eq name) names ≡ false
none_before [] name last lt low = refl
none_before (before ∷ names) name last lt low = rw (other name before (omega (arith, lt, low.0)), none_before names name last lt low.1) refl

pub ascends_none : (raw_attributes : List Lent) → Ascends raw_attributes 0 0
ascends_none raw_attributes = record { names = []; low = tt; left = refl }

pub ascends_more : (raw_attributes : List Lent) (i last next : ℕ) (d : Lent) → i < length raw_attributes → last < next → next ≡ rank (get_or raw_attributes i d).name.now → Ascends raw_attributes i last → Ascends raw_attributes (i + 1) next
ascends_more raw_attributes i last next d lt up next_is h =
    let name = (get_or raw_attributes i d).name.now in
    let new : not (list_any (bytes_eq name) h.names) ≡ true = ap not (none_before h.names name last (omega (arith, up, next_is)) h.low) in
    record {
      names = name ∷ h.names;
      low = (omega (arith, next_is), each_weaker (IsUpTo last) (IsUpTo next) (λ n le. omega (arith, le, up)) h.names h.low);
      left =
          sym (ap (λ b. b && are_new (name ∷ h.names) (map raw_attribute_name (drop (i + 1) (views raw_attributes)))) new)
          ∙ ap (λ (t : List RawAttribute). are_new h.names (map raw_attribute_name t)) (sym (views_more raw_attributes i d lt)) ∙ h.left;
    }

pub ascends_all : (raw_attributes : List Lent) (i last : ℕ) → length raw_attributes ≤ i → Ascends raw_attributes i last → are_new [] (map raw_attribute_name (views raw_attributes)) ≡ true
ascends_all raw_attributes i last le h = sym h.left ∙ ap (λ (t : List RawAttribute). are_new h.names (map raw_attribute_name t)) (views_all raw_attributes i le)
