-- A pass over items, each of which gives a list: what holds of the lists of the items so far holds of all of
-- them at the end, and the first member without it in one item's list is the first of all.
use Rattle.std.proofs.Common.{◌≡◌, refl, sym, ap, ◌∙◌, subst, ℕ, ◌+◌, ◌<◌, ◌≤◌, List, [], ◌∷◌, ◌++◌, length, drop, get_or, append_assoc}
use Rattle.std.specs.List.{flat_map, AllByRecursion}
use Rattle.std.proofs.lemmas.List.{append-nil, drop_more, drop_all}
use Rattle.pnml_grammar.proofs.EachLaws.{each_append, each_back, each_front, each_weaker}
use Rattle.page_flatten.specs.Rules.{IsFirstWithout}

-- the item that is read, and those after it
pub item_and_rest : {X : Type 0} (items : List X) (k : ℕ) (item : X) → k < length items → item ≡ get_or items k item → drop k items ≡ item ∷ drop (k + 1) items
item_and_rest items k item within is = drop_more items k item within ∙ ap (λ x. x ∷ drop (k + 1) items) (sym is)

pub each_after : {Y : Type 0} (P : Y → Type 0) (xs ys : List Y) → AllByRecursion P (xs ++ ys) → AllByRecursion P xs × AllByRecursion P ys
each_after P xs ys a = (each_front P xs ys a, each_back P xs ys a)

pub first_same : {Y : Type 0} (P Q : Y → Type 0) → ((y : Y) → P y → Q y) → ((y : Y) → Q y → P y) → (ys : List Y) (y : Y) → IsFirstWithout P ys y → IsFirstWithout Q ys y
first_same P Q there back ys y first = record {
  front = first.front;
  back = first.back;
  occurs = first.occurs;
  before = each_weaker P Q there first.front first.before;
  lacks = λ good. first.lacks (back y good);
}

-- where each member has it there is none without
pub none_first : {X : Type 0} (P : X → Type 0) (xs : List X) (x : X) → AllByRecursion P xs → IsFirstWithout P xs x → ⊥
none_first P xs x all first = first.lacks (each_after P first.front (x ∷ first.back) (subst (AllByRecursion P) first.occurs all)).1.0

-- the first of a list of one
pub first_only : {Y : Type 0} (P : Y → Type 0) (y : Y) → (P y → ⊥) → IsFirstWithout P (y ∷ []) y
first_only P y lacks = record { front = []; back = []; occurs = refl; before = tt; lacks = lacks }

-- the first of a list after one that is good
pub first_after : {Y : Type 0} (P : Y → Type 0) (x : Y) (ys : List Y) (y : Y) → P x → IsFirstWithout P ys y → IsFirstWithout P (x ∷ ys) y
first_after P x ys y good first = record {
  front = x ∷ first.front;
  back = first.back;
  occurs = ap (λ l. x ∷ l) first.occurs;
  before = (good, first.before);
  lacks = first.lacks;
}

-- the first of a front is the first of the whole
pub first_before : {Y : Type 0} (P : Y → Type 0) (xs ys : List Y) (y : Y) → IsFirstWithout P xs y → IsFirstWithout P (xs ++ ys) y
first_before P xs ys y first = record {
  front = first.front;
  back = first.back ++ ys;
  occurs = ap (λ l. l ++ ys) first.occurs ∙ append_assoc first.front (y ∷ first.back) ys;
  before = first.before;
  lacks = first.lacks;
}

-- what the items so far give has the property
pub record Passed {X Y : Type 0} (f : X → List Y) (Good : Y → Type 0) (items : List X) (k : ℕ) : Type 0 where
  pub front : List Y
  pub split : flat_map f items ≡ front ++ flat_map f (drop k items)
  pub each : AllByRecursion Good front

module _ {X Y : Type 0} (f : X → List Y) (Good : Y → Type 0) (items : List X) where
  pub passed_none : Passed f Good items 0
  passed_none = record { front = []; split = refl; each = tt }

  pub split_more : (k : ℕ) (item : X) → k < length items → item ≡ get_or items k item → flat_map f (drop k items) ≡ f item ++ flat_map f (drop (k + 1) items)
  split_more k item within is = ap (flat_map f) (item_and_rest items k item within is)

  pub passed_more : (k : ℕ) (item : X) → k < length items → item ≡ get_or items k item → Passed f Good items k → AllByRecursion Good (f item) → Passed f Good items (k + 1)
  passed_more k item within is passed good = record {
    front = passed.front ++ f item;
    split = passed.split ∙ ap (λ l. passed.front ++ l) (split_more k item within is) ∙ sym (append_assoc passed.front (f item) (flat_map f (drop (k + 1) items)));
    each = each_append Good passed.front (f item) passed.each good;
  }

  pub passed_all : (k : ℕ) → length items ≤ k → Passed f Good items k → AllByRecursion Good (flat_map f items)
  passed_all k all passed =
      let whole : flat_map f items ≡ passed.front =
      passed.split ∙ ap (λ l. passed.front ++ flat_map f l) (drop_all k items all) ∙ append-nil passed.front in
      subst (AllByRecursion Good) (sym whole) passed.each

  pub failed_here : (k : ℕ) (item : X) (y : Y) → k < length items → item ≡ get_or items k item → Passed f Good items k → IsFirstWithout Good (f item) y → IsFirstWithout Good (flat_map f items) y
  failed_here k item y within is passed first =
      let rest : List Y = flat_map f (drop (k + 1) items) in
      let here : IsFirstWithout Good (f item ++ rest) y = first_before Good (f item) rest y first in
      let whole : flat_map f items ≡ passed.front ++ (f item ++ rest) = passed.split ∙ ap (λ l. passed.front ++ l) (split_more k item within is) in
      record {
        front = passed.front ++ here.front;
        back = here.back;
        occurs = whole ∙ ap (λ l. passed.front ++ l) here.occurs ∙ sym (append_assoc passed.front here.front (y ∷ here.back));
        before = each_append Good passed.front here.front passed.each here.before;
        lacks = here.lacks;
      }
