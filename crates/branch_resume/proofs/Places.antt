-- The list of the places of a set: it ascends, it tells which places the set has, a place above all others comes last,
-- and it can be walked through from one place to the next.
use Rattle.std.proofs.Common.{◌≡◌, refl, sym, ap, ◌∙◌, subst, ℕ, zero, suc, ◌+◌, ◌<◌, ◌≤◌, ◌⊎◌, List, [], ◌∷◌, ◌++◌, Bool, true, false, length, length-set, map, drop, decimal, get_or-set_other, slice_set, append_assoc, append-nil, inl, inr, arith}
use Rattle.std.specs.Prelude.{IsTrue}
use Rattle.std.specs.List.{flat_map, AllByRecursion}
use Rattle.std.proofs.lemmas.Bool.{cases_Bool, cases_order, both_ways}
use Rattle.certificates.specs.Words.{words_in}
use Rattle.certificates.proofs.Lists.{Ascends}
use Rattle.net_values.specs.PlaceSets.{has, HasNoneFrom, IsEmpty, IsFirstFrom}
use Rattle.branch_resume.specs.Tokens.{places_from, places_of, signed}
use Rattle.branch_resume.specs.Lines.{IsSignedPlace, place_after}

abbrev pub itself : ℕ → ℕ
itself p = p

abbrev pub Ascend : ℕ → List ℕ → Type 0
Ascend least places = Ascends itself least places

lower : (low least : ℕ) (places : List ℕ) → low ≤ least → Ascend least places → Ascend low places
lower low least [] le up = tt
lower low least (p ∷ places) le up = let here : least ≤ p = up.0 in (omega (arith, le, here), up.1)

pub places_ascend : (from : ℕ) (set : List Bool) → Ascend from (places_from from set)
places_ascend from [] = tt
places_ascend from (true ∷ set) = (omega arith, places_ascend (from + 1) set)
places_ascend from (false ∷ set) = lower from (from + 1) (places_from (from + 1) set) (omega arith) (places_ascend (from + 1) set)

-- what holds of each place that the set has holds of each place of the list
pub each_place : (P : ℕ → Type 0) (from : ℕ) (set : List Bool) → ((p : ℕ) → IsTrue (has set p) → P (from + p)) → AllByRecursion P (places_from from set)
each_place P from [] holds = tt
each_place P from (true ∷ set) holds =
    let here : from + 0 ≡ from = omega arith in
    (subst P here (holds 0 refl), each_place P (from + 1) set (λ p some. let there : from + suc p ≡ (from + 1) + p = omega arith in subst P there (holds (suc p) some)))
each_place P from (false ∷ set) holds = each_place P (from + 1) set (λ p some. let there : from + suc p ≡ (from + 1) + p = omega arith in subst P there (holds (suc p) some))

pub no_places : (from : ℕ) (set : List Bool) → ((p : ℕ) → has set p ≡ false) → places_from from set ≡ []
no_places from [] none = refl
no_places from (true ∷ set) none = absurd (both_ways true (none 0) refl)
no_places from (false ∷ set) none = no_places (from + 1) set (λ p. none (suc p))

not_above : (from : ℕ) (places more : List ℕ) → from ∷ more ≡ places → Ascend (from + 1) places → ⊥
not_above from places more same up =
    let there : Ascend (from + 1) (from ∷ more) = subst (Ascend (from + 1)) (sym same) up in
    let here : from + 1 ≤ from = there.0 in omega (arith, here)

-- sets with the same places have the same
pub same_places : (from : ℕ) (one other : List Bool) → places_from from one ≡ places_from from other → (p : ℕ) → has one p ≡ has other p
same_places from [] [] same p = refl
same_places from [] (true ∷ other) same p = absurd (cc)
same_places from [] (false ∷ other) same zero = refl
same_places from [] (false ∷ other) same (suc p) = same_places (from + 1) [] other same p
same_places from (true ∷ one) [] same p = absurd (cc)
same_places from (false ∷ one) [] same zero = refl
same_places from (false ∷ one) [] same (suc p) = same_places (from + 1) one [] same p
same_places from (true ∷ one) (true ∷ other) same zero = refl
same_places from (true ∷ one) (true ∷ other) same (suc p) =
    let tails : places_from (from + 1) one ≡ places_from (from + 1) other = cc in same_places (from + 1) one other tails p
same_places from (true ∷ one) (false ∷ other) same p = absurd (not_above from (places_from (from + 1) other) (places_from (from + 1) one) same (places_ascend (from + 1) other))
same_places from (false ∷ one) (true ∷ other) same p = absurd (not_above from (places_from (from + 1) one) (places_from (from + 1) other) (sym same) (places_ascend (from + 1) one))
same_places from (false ∷ one) (false ∷ other) same zero = refl
same_places from (false ∷ one) (false ∷ other) same (suc p) = same_places (from + 1) one other same p

-- sets of one size with the same places are equal
pub same_set : (from : ℕ) (one other : List Bool) → length one ≡ length other → places_from from one ≡ places_from from other → one ≡ other
same_set from [] [] size same = refl
same_set from [] (b ∷ other) size same = absurd (omega (arith, size))
same_set from (b ∷ one) [] size same = absurd (omega (arith, size))
same_set from (true ∷ one) (true ∷ other) size same =
    let tails : places_from (from + 1) one ≡ places_from (from + 1) other = cc in ap (λ (set : List Bool). true ∷ set) (same_set (from + 1) one other (omega (arith, size)) tails)
same_set from (true ∷ one) (false ∷ other) size same = absurd (not_above from (places_from (from + 1) other) (places_from (from + 1) one) same (places_ascend (from + 1) other))
same_set from (false ∷ one) (true ∷ other) size same = absurd (not_above from (places_from (from + 1) one) (places_from (from + 1) other) (sym same) (places_ascend (from + 1) one))
same_set from (false ∷ one) (false ∷ other) size same = ap (λ (set : List Bool). false ∷ set) (same_set (from + 1) one other (omega (arith, size)) same)

-- a place above all others comes last
insert_from : (from : ℕ) (set : List Bool) (p : ℕ) → p < length set → ((q : ℕ) → p ≤ q → has set q ≡ false) → places_from from (slice_set set p true) ≡ places_from from set ++ (from + p) ∷ []
insert_from from [] p below none = absurd (omega (arith, below))
insert_from from (true ∷ set) zero below none = absurd (both_ways true (none 0 (omega arith)) refl)
insert_from from (false ∷ set) zero below none =
    let rest = no_places (from + 1) set (λ q. none (suc q) (omega arith)) in
    let here : from ≡ from + 0 = omega arith in
    ap (λ (places : List ℕ). from ∷ places) rest ∙ ap (λ (p : ℕ). p ∷ []) here ∙ ap (λ (places : List ℕ). places ++ (from + 0) ∷ []) (sym rest)
insert_from from (true ∷ set) (suc p) below none =
    let there : (from + 1) + p ≡ from + suc p = omega arith in
    ap (λ (places : List ℕ). from ∷ places) (insert_from (from + 1) set p (omega (arith, below)) (λ q low. none (suc q) (omega (arith, low))) ∙ ap (λ (q : ℕ). places_from (from + 1) set ++ q ∷ []) there)
insert_from from (false ∷ set) (suc p) below none =
    let there : (from + 1) + p ≡ from + suc p = omega arith in
    insert_from (from + 1) set p (omega (arith, below)) (λ q low. none (suc q) (omega (arith, low))) ∙ ap (λ (q : ℕ). places_from (from + 1) set ++ q ∷ []) there

pub insert_last : (set : List Bool) (p : ℕ) → p < length set → ((q : ℕ) → p ≤ q → has set q ≡ false) → places_of (slice_set set p true) ≡ places_of set ++ p ∷ []
insert_last set p below none = let here : 0 + p ≡ p = omega arith in insert_from 0 set p below none ∙ ap (λ (q : ℕ). places_of set ++ q ∷ []) here

pub after_more : (least : ℕ) (places : List ℕ) (p : ℕ) → place_after least (places ++ p ∷ []) ≡ p + 1
after_more least [] p = refl
after_more least (q ∷ places) p = after_more (q + 1) places p

-- ---- from one place to the next

-- the places that aren't below one
abbrev pub places_left : List Bool → ℕ → List ℕ
places_left set from = places_from from (drop from set)

next_from : (base : ℕ) (set : List Bool) (from p : ℕ) → p < length set → from ≤ p → has set p ≡ true → ((q : ℕ) → from ≤ q → q < p → has set q ≡ false) → places_from (base + from) (drop from set) ≡ (base + p) ∷ places_from (suc (base + p)) (drop (suc p) set)
next_from base [] from p below low some none = absurd (omega (arith, below))
next_from base (b ∷ set) (suc from) zero below low some none = absurd (omega (arith, low))
next_from base (b ∷ set) (suc from) (suc p) below low some none =
    let there : base + suc from ≡ (base + 1) + from = omega arith in
    let here : (base + 1) + p ≡ base + suc p = omega arith in
    ap (λ (k : ℕ). places_from k (drop from set)) there
    ∙ next_from (base + 1) set from p (omega (arith, below)) (omega (arith, low)) some (λ q least less. none (suc q) (omega (arith, least)) (omega (arith, less)))
    ∙ ap (λ (k : ℕ). k ∷ places_from (suc k) (drop (suc p) set)) here
next_from base (true ∷ set) zero zero below low some none =
    let here : base ≡ base + 0 = omega arith in
    let next : base + 1 ≡ suc (base + 0) = omega arith in
    sym (ap (λ (k : ℕ). places_from k (true ∷ set)) here) ∙ (λ i. here i ∷ places_from (next i) set)
next_from base (false ∷ set) zero zero below low some none = absurd (both_ways false refl some)
next_from base (true ∷ set) zero (suc p) below low some none = absurd (both_ways true (none 0 (omega arith) (omega arith)) refl)
next_from base (false ∷ set) zero (suc p) below low some none =
    let there : base + 0 + 1 ≡ (base + 1) + 0 = omega arith in
    let here : (base + 1) + p ≡ base + suc p = omega arith in
    ap (λ (k : ℕ). places_from k set) there
    ∙ next_from (base + 1) set 0 p (omega (arith, below)) (omega arith) some (λ q least less. none (suc q) (omega arith) (omega (arith, less)))
    ∙ ap (λ (k : ℕ). k ∷ places_from (suc k) (drop (suc p) set)) here

pub next_place : (set : List Bool) (from p : ℕ) → IsFirstFrom set from p → places_left set from ≡ p ∷ places_left set (p + 1)
next_place set from p first =
    let start : from ≡ 0 + from = omega arith in
    let here : 0 + p ≡ p = omega arith in
    let more : suc p ≡ p + 1 = omega arith in
    ap (λ (k : ℕ). places_from k (drop from set)) start ∙ next_from 0 set from p first.below_size first.not_before first.member first.first ∙ ap (λ (k : ℕ). k ∷ places_from (suc k) (drop (suc p) set)) here ∙ ap (λ (k : ℕ). p ∷ places_left set k) more

none_from : (base : ℕ) (set : List Bool) (from : ℕ) → ((q : ℕ) → from ≤ q → has set q ≡ false) → places_from base (drop from set) ≡ []
none_from base set zero none = no_places base set (λ p. none p (omega arith))
none_from base [] (suc from) none = refl
none_from base (b ∷ set) (suc from) none = none_from base set from (λ q low. none (suc q) (omega (arith, low)))

pub no_place_left : (set : List Bool) (from : ℕ) → HasNoneFrom set from → places_left set from ≡ []
no_place_left set from none = none_from from set from none

-- ---- places taken from words

map_more : (f : ℕ → List ℕ) (places : List ℕ) (p : ℕ) (words : List (List ℕ)) → map f (places ++ p ∷ []) ++ words ≡ map f places ++ (f p ∷ words)
map_more f [] p words = refl
map_more f (q ∷ places) p words = ap (λ (ws : List (List ℕ)). f q ∷ ws) (map_more f places p words)

-- the words so far are those of the places in the set, all of which are below the least that may follow
pub record IsTaken (sign size : ℕ) (words : List ℕ) (set : List Bool) (least : ℕ) (left : List ℕ) : Type 0 where
  pub words_are : words_in words ≡ map (signed sign) (places_of set) ++ words_in left
  pub below : (q : ℕ) → IsTrue (has set q) → q < least
  pub least_is : least ≡ place_after 0 (places_of set)
  pub sized : length set ≡ size

pub taken_none : (sign : ℕ) (words : List ℕ) (set : List Bool) → IsEmpty set → IsTaken sign (length set) words set 0 words
taken_none sign words set none =
    let nothing : places_of set ≡ [] = no_places 0 set none in
    record {
      words_are = ap (λ (places : List ℕ). map (signed sign) places ++ words_in words) (sym nothing);
      below = λ q some. absurd (both_ways (has set q) (none q) some);
      least_is = ap (place_after 0) (sym nothing);
      sized = refl;
    }

-- a place above all others is put in
with_last : (set : List Bool) (p q : ℕ) → IsTrue (has (slice_set set p true) q) → (q ≡ p) ⊎ IsTrue (has set q)
with_last set p q some = elim (cases_order p q) [
  | inl same ↦ inl (sym same)
  | inr other ↦ inr (sym (get_or-set_other set p q true false (λ same. elim other [ inl less ↦ omega (arith, less, same) | inr more ↦ omega (arith, more, same) ])) ∙ some)
]

none_above : (set : List Bool) (least p q : ℕ) → ((q : ℕ) → IsTrue (has set q) → q < least) → least ≤ p → p ≤ q → has set q ≡ false
none_above set least p q below low high = elim (cases_Bool (has set q)) [
  | inl some ↦ let here : q < least = below q some in absurd (omega (arith, here, low, high))
  | inr none ↦ none
]

pub taken_more : (sign size : ℕ) (words : List ℕ) (set : List Bool) (least : ℕ) (left word after : List ℕ) (p : ℕ) → IsTaken sign size words set least left → words_in left ≡ word ∷ words_in after → IsSignedPlace sign least (length set) word p
    → IsTaken sign size words (slice_set set p true) (p + 1) after
taken_more sign size words set least left word after p taken next is =
    let low : least ≤ p = is.low in
    let last : places_of (slice_set set p true) ≡ places_of set ++ p ∷ [] = insert_last set p is.high (λ q high. none_above set least p q taken.below low high) in
    record {
      words_are = taken.words_are ∙ ap (λ (ws : List (List ℕ)). map (signed sign) (places_of set) ++ ws) (next ∙ ap (λ (w : List ℕ). w ∷ words_in after) is.spelled) ∙ sym (map_more (signed sign) (places_of set) p (words_in after))
          ∙ ap (λ (places : List ℕ). map (signed sign) places ++ words_in after) (sym last);
      below = λ q some. elim (with_last set p q some) [
        | inl same ↦ omega (arith, same)
        | inr there ↦ let here : q < least = taken.below q there in omega (arith, here, low)
      ];
      least_is = sym (ap (place_after 0) last ∙ after_more 0 (places_of set) p);
      sized = length-set set p true ∙ taken.sized;
    }

-- ---- places printed

pub printed_more : (text now old piece : List ℕ) (set : List Bool) (from p : ℕ) → IsFirstFrom set from p → text ++ flat_map (λ q. piece ++ decimal q) (places_left set from) ≡ old
    → now ≡ (text ++ piece) ++ decimal p → now ++ flat_map (λ q. piece ++ decimal q) (places_left set (p + 1)) ≡ old
printed_more text now old piece set from p first before grown =
    let rest = flat_map (λ (q : ℕ). piece ++ decimal q) (places_left set (p + 1)) in
    ap (λ (xs : List ℕ). xs ++ rest) (grown ∙ append_assoc text piece (decimal p)) ∙ append_assoc text (piece ++ decimal p) rest
    ∙ ap (λ (places : List ℕ). text ++ flat_map (λ q. piece ++ decimal q) places) (sym (next_place set from p first)) ∙ before

pub printed_all : (text old piece : List ℕ) (set : List Bool) (from : ℕ) → HasNoneFrom set from → text ++ flat_map (λ q. piece ++ decimal q) (places_left set from) ≡ old → text ≡ old
printed_all text old piece set from none before =
    sym (append-nil text) ∙ ap (λ (places : List ℕ). text ++ flat_map (λ q. piece ++ decimal q) places) (sym (no_place_left set from none)) ∙ before
