-- A pass over the nets of a document: what holds of each net so far holds of all of them at the end, and the first
-- member without a property in one net is the first of all nets where those before have none.
use Rattle.std.proofs.Common.{◌≡◌, refl, sym, ap, ◌∙◌, subst, ℕ, zero, suc, ◌+◌, ◌≤◌, List, [], ◌∷◌, ◌++◌, Some, length, take, drop, slice_get, arith}
use Rattle.std.proofs.Math.Seq.{take_all}
use Rattle.std.specs.List.{AllByRecursion, AllZip}
use Rattle.net_values.specs.declared.document.NetTree.{NetTree}
use Rattle.pnml_grammar.proofs.EachLaws.{each_append}
use Rattle.page_flatten.specs.Rules.{AreDistinct, HasDistinctIds, ids_of, ids_in, IsFirstWithout, IsFirstIn}
use Rattle.page_flatten.proofs.Lists.{some_is, get_front}
use Rattle.page_flatten.proofs.Passes.{none_first}

-- ---- lists

one_more : (k : ℕ) → suc k ≡ k + 1
one_more k = omega arith

module _ {X : Type 0} where
  take_next : (xs : List X) (k : ℕ) (x : X) → slice_get xs k ≡ Some x → take (suc k) xs ≡ take k xs ++ x ∷ []
  take_next [] k x at = absurd cc
  take_next (y ∷ xs) zero x at = ap (λ z. z ∷ []) (some_is at)
  take_next (y ∷ xs) (suc k) x at = ap (λ l. y ∷ l) (take_next xs k x at)

  pub take_more : (xs : List X) (k : ℕ) (x : X) → slice_get xs k ≡ Some x → take (k + 1) xs ≡ take k xs ++ x ∷ []
  take_more xs k x at = ap (λ n. take n xs) (sym (one_more k)) ∙ take_next xs k x at

  pub cut_at : (xs : List X) (k : ℕ) (x : X) → slice_get xs k ≡ Some x → xs ≡ take k xs ++ x ∷ drop (suc k) xs
  cut_at [] k x at = absurd cc
  cut_at (y ∷ xs) zero x at = ap (λ z. z ∷ xs) (some_is at)
  cut_at (y ∷ xs) (suc k) x at = ap (λ l. y ∷ l) (cut_at xs k x at)

  -- a list of one member
  pub only_member : (xs : List X) (x : X) → length xs ≡ 1 → slice_get xs 0 ≡ Some x → xs ≡ x ∷ []
  only_member [] x one at = absurd cc
  only_member (y ∷ []) x one at = ap (λ z. z ∷ []) (some_is at)
  only_member (y ∷ z ∷ xs) x one at = absurd (omega (arith, one))

  module _ (P : X → Type 0) where
    pub each_more : (xs : List X) (k : ℕ) (x : X) → slice_get xs k ≡ Some x → AllByRecursion P (take k xs) → P x → AllByRecursion P (take (k + 1) xs)
    each_more xs k x at passed good = subst (AllByRecursion P) (sym (take_more xs k x at)) (each_append P (take k xs) (x ∷ []) passed (good, tt))

    pub each_all : (xs : List X) (k : ℕ) → length xs ≤ k → AllByRecursion P (take k xs) → AllByRecursion P xs
    each_all xs k all passed = subst (AllByRecursion P) (take_all k xs all) passed

    pub each_at : (xs : List X) (k : ℕ) (x : X) → slice_get xs k ≡ Some x → AllByRecursion P xs → P x
    each_at [] k x at each = absurd cc
    each_at (y ∷ xs) zero x at each = subst P (some_is at) each.0
    each_at (y ∷ xs) (suc k) x at each = each_at xs k x at each.1

module _ {X Y : Type 0} (R : X → Y → Type 0) where
  zip_push : (xs : List X) (ys : List Y) (x : X) (y : Y) → AllZip R xs ys → R x y → AllZip R (xs ++ x ∷ []) (ys ++ y ∷ [])
  zip_push [] [] x y all is = (is, tt)
  zip_push [] (z ∷ ys) x y all is = absurd all
  zip_push (z ∷ xs) [] x y all is = absurd all
  zip_push (z ∷ xs) (w ∷ ys) x y all is = (all.0, zip_push xs ys x y all.1 is)

  pub zip_more : (xs : List X) (ys zs : List Y) (k : ℕ) (x : X) (y : Y) → slice_get xs k ≡ Some x → AllZip R (take k xs) ys → R x y → zs ≡ ys ++ y ∷ [] → AllZip R (take (k + 1) xs) zs
  zip_more xs ys zs k x y at all is grown =
      subst (λ l. AllZip R l zs) (sym (take_more xs k x at)) (subst (AllZip R (take k xs ++ x ∷ [])) (sym grown) (zip_push (take k xs) ys x y all is))

  pub zip_all : (xs : List X) (ys : List Y) (k : ℕ) → length xs ≤ k → AllZip R (take k xs) ys → AllZip R xs ys
  zip_all xs ys k all zipped = subst (λ l. AllZip R l ys) (take_all k xs all) zipped

  pub zip_at : (xs : List X) (ys : List Y) (k : ℕ) (x : X) (y : Y) → slice_get xs k ≡ Some x → slice_get ys k ≡ Some y → AllZip R xs ys → R x y
  zip_at [] ys k x y at also all = absurd cc
  zip_at (z ∷ xs) [] k x y at also all = absurd all
  zip_at (z ∷ xs) (w ∷ ys) zero x y at also all = subst (λ a. R a y) (some_is at) (subst (R z) (some_is also) all.0)
  zip_at (z ∷ xs) (w ∷ ys) (suc k) x y at also all = zip_at xs ys k x y at also all.1

  pub zip_length : (xs : List X) (ys : List Y) → AllZip R xs ys → length xs ≡ length ys
  zip_length [] [] all = refl
  zip_length [] (y ∷ ys) all = absurd all
  zip_length (x ∷ xs) [] all = absurd all
  zip_length (x ∷ xs) (y ∷ ys) all = ap suc (zip_length xs ys all.1)

-- ---- nets

-- a front and a back of distinct ids are distinct
get_behind : {X : Type 0} (xs ys : List X) (n : ℕ) (x : X) → slice_get ys n ≡ Some x → slice_get (xs ++ ys) (length xs + n) ≡ Some x
get_behind [] ys n x at = let same : n ≡ 0 + n = omega arith in subst (λ m. slice_get ys m ≡ Some x) same at
get_behind (z ∷ xs) ys n x at =
    let same : suc (length xs + n) ≡ suc (length xs) + n = omega arith in
    subst (λ m. slice_get (z ∷ (xs ++ ys)) m ≡ Some x) same (get_behind xs ys n x at)

distinct_front : (ids more : List (List ℕ)) → AreDistinct (ids ++ more) → AreDistinct ids
distinct_front ids more distinct m n id at also = distinct m n id (get_front ids more m id at) (get_front ids more n id also)

distinct_back : (ids more : List (List ℕ)) → AreDistinct (ids ++ more) → AreDistinct more
distinct_back ids more distinct m n id at also =
    let same : length ids + m ≡ length ids + n = distinct (length ids + m) (length ids + n) id (get_behind ids more m id at) (get_behind ids more n id also) in
    omega (arith, same)

-- each net of a document with distinct ids has distinct ids
pub distinct_at : (nets : List NetTree) (k : ℕ) (net : NetTree) → slice_get nets k ≡ Some net → AreDistinct (ids_in nets) → AreDistinct (ids_of net)
distinct_at [] k net at distinct = absurd cc
distinct_at (tree ∷ nets) zero net at distinct = subst (λ t. AreDistinct (ids_of t)) (some_is at) (distinct_front (ids_of tree) (ids_in nets) distinct)
distinct_at (tree ∷ nets) (suc k) net at distinct = distinct_at nets k net at (distinct_back (ids_of tree) (ids_in nets) distinct)

pub distinct_each : (nets : List NetTree) → AreDistinct (ids_in nets) → AllByRecursion HasDistinctIds nets
distinct_each [] distinct = tt
distinct_each (net ∷ nets) distinct = (distinct_front (ids_of net) (ids_in nets) distinct, distinct_each nets (distinct_back (ids_of net) (ids_in nets) distinct))

-- the first member of a net is the first of all, where the nets before have none
module _ {X : Type 0} (list : NetTree → List X) (Property : NetTree → X → Type 0) where
  abbrev Keeps : NetTree → Type 0
  Keeps net = AllByRecursion (Property net) (list net)

  pub first_in : (nets : List NetTree) (k : ℕ) (net : NetTree) (x : X) → slice_get nets k ≡ Some net → AllByRecursion Keeps (take k nets) → IsFirstWithout (Property net) (list net) x → IsFirstIn list Property nets x
  first_in nets k net x at passed first = record {
    net = net;
    net_is = record {
      front = take k nets;
      back = drop (suc k) nets;
      occurs = cut_at nets k net at;
      before = passed;
      lacks = λ keeps. none_first (Property net) (list net) x keeps first;
    };
    first = first;
  }
