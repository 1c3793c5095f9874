-- Lists in ascending order of a key, and the reading of their words one by one.
use Rattle.std.proofs.Common.{◌≡◌, refl, sym, ap, ◌∙◌, ℕ, zero, suc, ◌+◌, ◌<◌, ◌≤◌, if◌then◌else◌, Bool, true, false, List, [], ◌∷◌, ◌++◌, map, Option, Some, None, append_assoc, append-nil, arith}
use Rattle.std.specs.Prelude.{nat_le, All, AllPairs, slice_index_or}
use Rattle.std.specs.List.{AllByRecursion}
use Rattle.std.specs.Option.{option_and_then}
use Rattle.std.proofs.lemmas.Bool.Decides.{nat_tests}
use Rattle.std.proofs.lemmas.List.Kept.{AllPairs-cons}
use Rattle.certificates.specs.Words.{listed}

pub le_true : (a b : ℕ) → a ≤ b → nat_le a b ≡ true
le_true a b h = grind (arith, nat_tests)

pub le_from : (a b : ℕ) → nat_le a b ≡ true → a ≤ b
le_from a b h = grind (arith, nat_tests)

pub all_each : {X : Type 0} (P : X → Type 0) (xs : List X) → All P xs → AllByRecursion P xs
all_each P [] all = tt
all_each P (x ∷ xs) all = (all 0 x (omega arith), all_each P xs (λ k d below. all (suc k) d (omega (arith, below))))

pub each_all : {X : Type 0} (P : X → Type 0) (xs : List X) → AllByRecursion P xs → All P xs
each_all P [] each k d below = absurd (omega (arith, below))
each_all P (x ∷ xs) each zero d below = each.0
each_all P (x ∷ xs) each (suc k) d below = each_all P xs each.1 k d (omega (arith, below))

pub each_map : {X : Type 0} (P Q : X → Type 0) → ((x : X) → P x → Q x) → (xs : List X) → AllByRecursion P xs → AllByRecursion Q xs
each_map P Q f [] each = tt
each_map P Q f (x ∷ xs) each = (f x each.0, each_map P Q f xs each.1)

pub each_mapped : {X Y : Type 0} (P : Y → Type 0) (f : X → Y) (xs : List X) → AllByRecursion (λ x. P (f x)) xs → AllByRecursion P (map f xs)
each_mapped P f [] each = tt
each_mapped P f (x ∷ xs) each = (each.0, each_mapped P f xs each.1)

pub each_append : {X : Type 0} (P : X → Type 0) (xs ys : List X) → AllByRecursion P xs → AllByRecursion P ys → AllByRecursion P (xs ++ ys)
each_append P [] ys each more = more
each_append P (x ∷ xs) ys each more = (each.0, each_append P xs ys each.1 more)

module _ {X : Type 0} (key : X → ℕ) where
  -- each key is from the least, and above the one before
  abbrev pub Ascends : ℕ → List X → Type 0
  Ascends least [] = Unit {0}
  Ascends least (x ∷ xs) = (least ≤ key x) × Ascends (key x + 1) xs

  -- the least key that may follow
  abbrev pub least_after : ℕ → List X → ℕ
  least_after least [] = least
  least_after least (x ∷ xs) = least_after (key x + 1) xs

  abbrev pub IsAbove : ℕ → X → Type 0
  IsAbove least x = least ≤ key x

  ascends_above : (least low : ℕ) (xs : List X) → low ≤ least → Ascends least xs → AllByRecursion (IsAbove low) xs
  ascends_above least low [] le ascends = tt
  ascends_above least low (x ∷ xs) le ascends = let here : least ≤ key x = ascends.0 in (omega (arith, here, le), ascends_above (key x + 1) low xs (omega (arith, here, le)) ascends.1)

  pub pairs_ascending : (least : ℕ) (xs : List X) → Ascends least xs → AllPairs (λ one later. key one < key later) xs
  pairs_ascending least [] ascends = λ i j d before within. absurd (omega (arith, within))
  pairs_ascending least (x ∷ xs) ascends =
      let low : AllByRecursion (IsAbove (key x + 1)) xs = ascends_above (key x + 1) (key x + 1) xs (omega arith) ascends.1 in
      let all = each_all (IsAbove (key x + 1)) xs low in
      AllPairs-cons (λ one later. key one < key later) x xs (λ k d below. let h = all k d below in omega (arith, h)) (pairs_ascending (key x + 1) xs ascends.1)

  pub ascends_from : (least : ℕ) (xs : List X) → AllByRecursion (IsAbove least) xs → AllPairs (λ one later. key one < key later) xs → Ascends least xs
  ascends_from least [] above pairs = tt
  ascends_from least (x ∷ xs) above pairs =
      let later = all_each (IsAbove (key x + 1)) xs (λ k d below. let h : key x < key (slice_index_or xs k d) = pairs 0 (suc k) d (omega arith) (omega (arith, below)) in omega (arith, h)) in
      (above.0, ascends_from (key x + 1) xs later (λ i j d before within. pairs (suc i) (suc j) d (omega (arith, before)) (omega (arith, within))))

  any_above : (xs : List X) → AllByRecursion (IsAbove 0) xs
  any_above [] = tt
  any_above (x ∷ xs) = (omega arith, any_above xs)

  pub ascends_all : (xs : List X) → AllPairs (λ one later. key one < key later) xs → Ascends 0 xs
  ascends_all xs pairs = ascends_from 0 xs (any_above xs) pairs

  pub ascends_more : (least : ℕ) (xs : List X) (x : X) → Ascends least xs → least_after least xs ≤ key x → Ascends least (xs ++ x ∷ [])
  ascends_more least [] x ascends low = (low, tt)
  ascends_more least (y ∷ xs) x ascends low = (ascends.0, ascends_more (key y + 1) xs x ascends.1 low)

  pub least_more : (least : ℕ) (xs : List X) (x : X) → least_after least (xs ++ x ∷ []) ≡ key x + 1
  least_more least [] x = refl
  least_more least (y ∷ xs) x = least_more (key y + 1) xs x

-- ---- words that spell things with keys

module _ {X : Type 0} (parsed : List ℕ → Option X) (key : X → ℕ) (word : X → List ℕ) (IsGood : X → Type 0) where
  -- what the words spell, after what was found
  pub record IsListing (least : ℕ) (found : List X) (words : List (List ℕ)) (xs : List X) : Type 0 where
    pub more : List X
    pub list_is : xs ≡ found ++ more
    pub words_are : words ≡ map word more
    pub ascends : Ascends key least more
    pub good : AllByRecursion IsGood more

  module _ (exact : (text : List ℕ) (x : X) → parsed text ≡ Some x → (text ≡ word x) × IsGood x) where
    tested : (least : ℕ) (found : List X) (text : List ℕ) (words : List (List ℕ)) (xs : List X) (x : X) → parsed text ≡ Some x →
        (listed parsed key (key x + 1) (found ++ x ∷ []) words ≡ Some xs → IsListing (key x + 1) (found ++ x ∷ []) words xs) →
        (test : Bool) → nat_le least (key x) ≡ test → (if test then listed parsed key (key x + 1) (found ++ x ∷ []) words else None) ≡ Some xs → IsListing least found (text ∷ words) xs
    tested least found text words xs x spells rest true e is =
        let h = rest is in
        let one = exact text x spells in
        record {
          more = x ∷ h.more;
          list_is = h.list_is ∙ append_assoc found (x ∷ []) h.more;
          words_are = ap (λ (w : List ℕ). w ∷ words) one.0 ∙ ap (λ (ws : List (List ℕ)). word x ∷ ws) h.words_are;
          ascends = (le_from least (key x) e, h.ascends);
          good = (one.1, h.good);
        }
    tested least found text words xs x spells rest false e is = absurd (cc)

    pub listed_found : (least : ℕ) (found : List X) (words : List (List ℕ)) (xs : List X) → listed parsed key least found words ≡ Some xs → IsListing least found words xs
    listed_found least found [] xs = λ is. let same : found ≡ xs = cc in record { more = []; list_is = sym same ∙ sym (append-nil found); words_are = refl; ascends = tt; good = tt }
    listed_found least found (text ∷ words) xs = go (parsed text) refl (λ x rest. listed_found (key x + 1) (found ++ x ∷ []) words xs rest) where
      go : (o : Option X) → parsed text ≡ o → ((x : X) → listed parsed key (key x + 1) (found ++ x ∷ []) words ≡ Some xs → IsListing (key x + 1) (found ++ x ∷ []) words xs) → option_and_then (λ x. if nat_le least (key x) then listed parsed key (key x + 1) (found ++ x ∷ []) words else None) o ≡ Some xs → IsListing least found (text ∷ words) xs
      go None e rest is = absurd (cc)
      go (Some x) e rest is = tested least found text words xs x e (rest x) (nat_le least (key x)) refl is

  module _ (again : (x : X) → IsGood x → parsed (word x) ≡ Some x) where
    pub listed_again : (least : ℕ) (found xs : List X) → Ascends key least xs → AllByRecursion IsGood xs → listed parsed key least found (map word xs) ≡ Some (found ++ xs)
    listed_again least found [] ascends good = ap Some (sym (append-nil found))
    listed_again least found (x ∷ xs) ascends good =
        rw (again x good.0, le_true least (key x) ascends.0) (listed_again (key x + 1) (found ++ x ∷ []) xs ascends.1 good.1 ∙ ap Some (append_assoc found (x ∷ []) xs))

-- ---- a word more

module _ {X : Type 0} (parsed : List ℕ → Option X) (key : X → ℕ) where
  pub listed_step : (least : ℕ) (found : List X) (all words : List (List ℕ)) (word : List ℕ) (x : X) → all ≡ word ∷ words → parsed word ≡ Some x → least ≤ key x →
      listed parsed key least found all ≡ listed parsed key (key x + 1) (found ++ x ∷ []) words
  listed_step least found all words word x is spells low = ap (listed parsed key least found) is ∙ rw (spells, le_true least (key x) low) refl

  pub listed_other : (least : ℕ) (found : List X) (all words : List (List ℕ)) (word : List ℕ) → all ≡ word ∷ words → parsed word ≡ None → listed parsed key least found all ≡ None
  listed_other least found all words word is spells = ap (listed parsed key least found) is ∙ rw spells refl

  pub listed_lower : (least : ℕ) (found : List X) (all words : List (List ℕ)) (word : List ℕ) (x : X) → all ≡ word ∷ words → parsed word ≡ Some x → key x < least → listed parsed key least found all ≡ None
  listed_lower least found all words word x is spells low = let test : nat_le least (key x) ≡ false = grind (arith, nat_tests, low) in ap (listed parsed key least found) is ∙ rw (spells, test) refl
