-- The line of a class, by its words: it has the words of its places and no others, and no two classes with other places
-- have one line.
use Rattle.std.proofs.Common.{◌≡◌, ◌≢◌, refl, sym, ap, ◌∙◌, subst, ℕ, ◌<◌, ◌≤◌, List, [], ◌∷◌, ◌++◌, Bool, length, map, codes, inl, inr, append_assoc, append-nil, arith, replicate, false}
use Rattle.std.specs.List.{flat_map, AllByRecursion}
use Rattle.std.proofs.lemmas.List.{append_cancel_right, length-replicate}
use Rattle.std.proofs.lemmas.Grind.{flat_map-append}
use Rattle.net_values.specs.declared.limits.TheConstants.{MAX_PLACES}
use Rattle.certificates.specs.BadLines.{IsLine}
use Rattle.certificates.specs.Words.{before, from_first, cut, words_in}
use Rattle.certificates.proofs.Cuts.{IsFree, joined, cut_joins, cut_again, cut_first, cut_others}
use Rattle.certificates.proofs.Lists.{each_all, each_map, each_mapped, each_append}
use Rattle.certificates.proofs.LineReading.{decimal_text}
use Rattle.certificates.proofs.LineSplits.{NoFeed}
use Rattle.certificates.proofs.LineWords.{IsText, text_free, joined_free}
use Rattle.siphon_branch.specs.declared.branch.Branch.{Branch}
use Rattle.siphon_branch.specs.Classes.{HasSize, IsConsistent}
use Rattle.siphon_branch.proofs.Complements.{has_within}
use Rattle.branch_resume.specs.Tokens.{places_of, signed, class_line, IsNameable}
use Rattle.branch_resume.specs.Pending.{IsOfNet}
use Rattle.branch_resume.specs.Disjoint.{HaveCommon}
use Rattle.branch_resume.specs.Lines.{NamesClass, NamesNone, StopsAfter, StopsFrom, place_after}
use Rattle.branch_resume.proofs.Places.{places_ascend, each_place, same_places, same_set}
use Rattle.branch_resume.proofs.Words.{IsBelow, same_front, minus_is_other}

abbrev name : List ℕ
name = codes "class"

abbrev pub class_words : Branch → List (List ℕ)
class_words class = map (signed 43) (places_of class.contains) ++ map (signed 45) (places_of class.avoids)

-- a class's line without its line feed
abbrev pub front_of : Branch → List ℕ
front_of class = joined 32 name (class_words class)

words_joined : (sign : ℕ) (places : List ℕ) → flat_map (λ p. 32 ∷ signed sign p) places ≡ flat_map (λ piece. 32 ∷ piece) (map (signed sign) places)
words_joined sign [] = refl
words_joined sign (p ∷ places) = ap (λ (xs : List ℕ). (32 ∷ signed sign p) ++ xs) (words_joined sign places)

pub line_is : (class : Branch) → class_line class ≡ front_of class ++ 10 ∷ []
unfolding class_line
line_is class =
    let plus = words_joined 43 (places_of class.contains) in
    let minus = words_joined 45 (places_of class.avoids) in
    let both = flat_map-append (λ (piece : List ℕ). 32 ∷ piece) (map (signed 43) (places_of class.contains)) (map (signed 45) (places_of class.avoids)) in
    (λ i. ((name ++ plus i) ++ minus i) ++ 10 ∷ [])
    ∙ ap (λ (xs : List ℕ). xs ++ 10 ∷ []) (append_assoc name (flat_map (λ (piece : List ℕ). 32 ∷ piece) (map (signed 43) (places_of class.contains))) (flat_map (λ (piece : List ℕ). 32 ∷ piece) (map (signed 45) (places_of class.avoids))) ∙ ap (λ (xs : List ℕ). name ++ xs) (sym both))

name_text : IsText name
name_text = (omega arith, (omega arith, (omega arith, (omega arith, (omega arith, tt)))))

signed_text : (sign p : ℕ) → 32 < sign → p < MAX_PLACES → IsText (signed sign p)
signed_text sign p shown low = (shown, decimal_text p (omega (arith, low)))

signed_texts : (sign : ℕ) (places : List ℕ) → 32 < sign → AllByRecursion (IsBelow MAX_PLACES) places → AllByRecursion IsText (map (signed sign) places)
signed_texts sign places shown within = each_mapped IsText (signed sign) places (each_map (IsBelow MAX_PLACES) (λ p. IsText (signed sign p)) (λ p low. signed_text sign p shown low) places within)

module _ (size : ℕ) (fits : size ≤ MAX_PLACES) (class : Branch) (inside : IsOfNet size class) where
  pub contained_below : AllByRecursion (IsBelow size) (places_of class.contains)
  contained_below = each_place (IsBelow size) 0 class.contains (λ p some. let below : p < size = inside p (inl some) in omega (arith, below))

  pub avoided_below : AllByRecursion (IsBelow size) (places_of class.avoids)
  avoided_below = each_place (IsBelow size) 0 class.avoids (λ p some. let below : p < size = inside p (inr some) in omega (arith, below))

  widened : (places : List ℕ) → AllByRecursion (IsBelow size) places → AllByRecursion (IsBelow MAX_PLACES) places
  widened places within = each_map (IsBelow size) (IsBelow MAX_PLACES) (λ p low. let here : p < size = low in omega (arith, here, fits)) places within

  class_texts : AllByRecursion IsText (class_words class)
  class_texts =
      each_append IsText (map (signed 43) (places_of class.contains)) (map (signed 45) (places_of class.avoids))
      (signed_texts 43 (places_of class.contains) (omega arith) (widened (places_of class.contains) contained_below))
      (signed_texts 45 (places_of class.avoids) (omega arith) (widened (places_of class.avoids) avoided_below))

  pub front_free : IsFree 10 (front_of class)
  front_free = each_append NoFeed name (flat_map (λ piece. 32 ∷ piece) (class_words class)) (text_free 10 (omega arith) name name_text) (joined_free (class_words class) class_texts)

  pub is_line : IsLine (class_line class)
  is_line = (front_of class, each_all NoFeed (front_of class) front_free, line_is class)

  class_cut : cut 32 (front_of class) ≡ (name, class_words class)
  class_cut = cut_again 32 name (class_words class) (text_free 32 (omega arith) name name_text) (each_map IsText (IsFree 32) (text_free 32 (omega arith)) (class_words class) class_texts)

  module _ (line : List ℕ) (spelled : class_line class ≡ line ++ 10 ∷ []) where
    front_is : front_of class ≡ line
    front_is = append_cancel_right (front_of class) line (10 ∷ []) (sym (line_is class) ∙ spelled)

    pub first_word : before 32 line ≡ name
    first_word = sym (cut_first 32 line) ∙ ap (λ (xs : List ℕ). (cut 32 xs).0) (sym front_is) ∙ ap (λ (x : List ℕ × List (List ℕ)). x.0) class_cut

    pub other_words : words_in (from_first 32 line) ≡ class_words class
    other_words = sym (cut_others line) ∙ ap (λ (xs : List ℕ). (cut 32 xs).1) (sym front_is) ∙ ap (λ (x : List ℕ × List (List ℕ)). x.1) class_cut

-- ---- what is read of a line

-- the places of the words of a line, in two sets of the size, and what follows them
pub record ReadsWords (size : ℕ) (line rest : List ℕ) (contains avoids : List Bool) (more last : List ℕ) : Type 0 where
  pub fits : size ≤ MAX_PLACES
  pub some : length contains ≡ size
  pub others : length avoids ≡ size
  pub word : before 32 line ≡ name
  pub following : rest ≡ from_first 32 line
  pub plus : words_in rest ≡ map (signed 43) (places_of contains) ++ words_in more
  pub plus_stops : StopsAfter 43 contains (words_in more)
  pub minus : words_in more ≡ map (signed 45) (places_of avoids) ++ words_in last
  pub minus_stops : StopsAfter 45 avoids (words_in last)

pub reads_words : (size : ℕ) (line rest : List ℕ) (contains avoids first second : List Bool) (more last : List ℕ) → size ≤ MAX_PLACES
    → first ≡ replicate size false → second ≡ replicate size false → length contains ≡ length first → length avoids ≡ length second
    → before 32 line ≡ name → rest ≡ from_first 32 line
    → words_in rest ≡ map (signed 43) (places_of contains) ++ words_in more → StopsAfter 43 contains (words_in more)
    → words_in more ≡ map (signed 45) (places_of avoids) ++ words_in last → StopsAfter 45 avoids (words_in last)
    → ReadsWords size line rest contains avoids more last
reads_words size line rest contains avoids first second more last fits first_is second_is some others word following plus plus_stops minus minus_stops = record {
  fits = fits;
  some = some ∙ ap length first_is ∙ length-replicate size false;
  others = others ∙ ap length second_is ∙ length-replicate size false;
  word = word;
  following = following;
  plus = plus;
  plus_stops = plus_stops;
  minus = minus;
  minus_stops = minus_stops;
}

module _ (size : ℕ) (line rest : List ℕ) (contains avoids : List Bool) (more last : List ℕ) (h : ReadsWords size line rest contains avoids more last) where
  abbrev read : Branch
  read = record { contains = contains; avoids = avoids }

  read_inside : IsOfNet size read
  read_inside p either = elim either [
    | inl some ↦ has_within size contains p h.some some
    | inr some ↦ has_within size avoids p h.others some
  ]

  -- a class whose line it is has the same places, and nothing follows them
  record IsSame (class : Branch) : Type 0 where
    contained : places_of contains ≡ places_of class.contains
    avoided : places_of avoids ≡ places_of class.avoids
    ended : words_in last ≡ []

  words_same : (class : Branch) → IsOfNet size class → class_line class ≡ line ++ 10 ∷ [] → IsSame class
  words_same class inside spelled =
      let all : map (signed 43) (places_of contains) ++ words_in more ≡ class_words class = sym h.plus ∙ ap words_in h.following ∙ other_words size h.fits class inside line spelled in
      let plus = same_front 43 size h.fits 0 (places_of contains) (places_of class.contains) (words_in more) (map (signed 45) (places_of class.avoids))
      (places_ascend 0 contains) (contained_below size h.fits read read_inside) (places_ascend 0 class.contains) (contained_below size h.fits class inside)
      (subst (λ (n : ℕ). StopsFrom 43 (place_after 0 (places_of contains)) n (words_in more)) h.some h.plus_stops) (minus_is_other (places_of class.avoids)) all in
      let others : map (signed 45) (places_of avoids) ++ words_in last ≡ map (signed 45) (places_of class.avoids) ++ [] = sym h.minus ∙ plus.1 ∙ sym (append-nil (map (signed 45) (places_of class.avoids))) in
      let minus = same_front 45 size h.fits 0 (places_of avoids) (places_of class.avoids) (words_in last) []
      (places_ascend 0 avoids) (avoided_below size h.fits read read_inside) (places_ascend 0 class.avoids) (avoided_below size h.fits class inside)
      (subst (λ (n : ℕ). StopsFrom 45 (place_after 0 (places_of avoids)) n (words_in last)) h.others h.minus_stops) tt others in
      record { contained = plus.0; avoided = minus.0; ended = minus.1 }

  nothing_left : words_in last ≡ [] → last ≡ []
  nothing_left = go last where
    go : (bytes : List ℕ) → words_in bytes ≡ [] → bytes ≡ []
    go [] none = refl
    go (byte ∷ bytes) none = absurd (cc)

  -- bytes that follow the words, or a place in both sets, make it the line of no class
  pub more_names_none : last ≢ [] → NamesNone size line
  more_names_none some class inside consistent spelled = some (nothing_left (words_same class inside spelled).ended)

  pub common_names_none : HaveCommon contains avoids → NamesNone size line
  common_names_none common class inside consistent spelled =
      let same = words_same class inside spelled in
      consistent common.place (sym (same_places 0 contains class.contains same.contained common.place) ∙ common.in_one) (sym (same_places 0 avoids class.avoids same.avoided common.place) ∙ common.in_other)

  -- else it is that of the class that was read
  pub names_read : last ≡ [] → (HaveCommon contains avoids → ⊥) → NamesClass size line read
  names_read none apart =
      let ended : map (signed 45) (places_of avoids) ++ words_in last ≡ map (signed 45) (places_of avoids) = ap (λ (xs : List ℕ). map (signed 45) (places_of avoids) ++ words_in xs) none ∙ append-nil (map (signed 45) (places_of avoids)) in
      let words : (cut 32 line).1 ≡ class_words read = cut_others line ∙ ap words_in (sym h.following) ∙ h.plus ∙ ap (λ (ws : List (List ℕ)). map (signed 43) (places_of contains) ++ ws) (h.minus ∙ ended) in
      let word : (cut 32 line).0 ≡ name = cut_first 32 line ∙ h.word in
      let front : line ≡ front_of read = cut_joins 32 line ∙ ap (λ (w : List ℕ). joined 32 w (cut 32 line).1) word ∙ ap (joined 32 name) words in
      record {
        sizes = record { contains = h.some; avoids = h.others };
        consistent = λ p one other. apart record { place = p; in_one = one; in_other = other };
        spelled = line_is read ∙ ap (λ (xs : List ℕ). xs ++ 10 ∷ []) (sym front);
      }

-- a line of another first word is that of no class
pub other_names_none : (size : ℕ) (line : List ℕ) → size ≤ MAX_PLACES → before 32 line ≢ name → NamesNone size line
other_names_none size line fits other class inside consistent spelled = other (first_word size fits class inside line spelled)

-- ---- one line, one set of places

minus_stops : (least size : ℕ) (places : List ℕ) → StopsFrom 43 least size (map (signed 45) places)
minus_stops least size [] = tt
minus_stops least size (p ∷ places) = λ q is. let same : signed 45 p ≡ signed 43 q = is.spelled in let signs : ◌≡◌ {A = ℕ} 45 43 = cc in omega (arith, signs)

-- classes with one line contain and avoid the same places
pub record HaveSamePlaces (one other : Branch) : Type 0 where
  pub contained : places_of one.contains ≡ places_of other.contains
  pub avoided : places_of one.avoids ≡ places_of other.avoids

pub same_line_places : (size : ℕ) → size ≤ MAX_PLACES → (one other : Branch) → IsOfNet size one → IsOfNet size other → class_line one ≡ class_line other → HaveSamePlaces one other
same_line_places size fits one other inside within same =
    let words : class_words one ≡ class_words other = sym (other_words size fits one inside (front_of one) (line_is one)) ∙ other_words size fits other within (front_of one) (sym same ∙ line_is one) in
    let plus = same_front 43 size fits 0 (places_of one.contains) (places_of other.contains) (map (signed 45) (places_of one.avoids)) (map (signed 45) (places_of other.avoids))
    (places_ascend 0 one.contains) (contained_below size fits one inside) (places_ascend 0 other.contains) (contained_below size fits other within)
    (minus_stops (place_after 0 (places_of one.contains)) size (places_of one.avoids)) (minus_is_other (places_of other.avoids)) words in
    let others : map (signed 45) (places_of one.avoids) ++ [] ≡ map (signed 45) (places_of other.avoids) ++ [] = append-nil (map (signed 45) (places_of one.avoids)) ∙ plus.1 ∙ sym (append-nil (map (signed 45) (places_of other.avoids))) in
    let minus = same_front 45 size fits 0 (places_of one.avoids) (places_of other.avoids) [] []
    (places_ascend 0 one.avoids) (avoided_below size fits one inside) (places_ascend 0 other.avoids) (avoided_below size fits other within) tt tt others in
    record { contained = plus.0; avoided = minus.0 }

-- and are equal where they are of one size
pub same_class : (size : ℕ) (one other : Branch) → HasSize size one → HasSize size other → HaveSamePlaces one other → one ≡ other
same_class size one other sized alike same =
    let contains : one.contains ≡ other.contains = same_set 0 one.contains other.contains (sized.contains ∙ sym alike.contains) same.contained in
    let avoids : one.avoids ≡ other.avoids = same_set 0 one.avoids other.avoids (sized.avoids ∙ sym alike.avoids) same.avoided in
    λ i. record { contains = contains i; avoids = avoids i }

-- a class whose places are in the range of place numbers
pub named_inside : (class : Branch) → IsNameable class → IsOfNet MAX_PLACES class
named_inside class named p either = elim either [
  | inl some ↦ let below = has_within (length class.contains) class.contains p refl some in let room = named.contains in omega (arith, below, room)
  | inr some ↦ let below = has_within (length class.avoids) class.avoids p refl some in let room = named.avoids in omega (arith, below, room)
]

pub sized_inside : (size : ℕ) (class : Branch) → HasSize size class → IsOfNet size class
sized_inside size class sized p either = elim either [
  | inl some ↦ has_within size class.contains p sized.contains some
  | inr some ↦ has_within size class.avoids p sized.avoids some
]

pub sized_named : (size : ℕ) (class : Branch) → size ≤ MAX_PLACES → HasSize size class → IsConsistent class → IsNameable class
sized_named size class fits sized consistent = let one = sized.contains in let other = sized.avoids in record {
  contains = omega (arith, fits, one);
  avoids = omega (arith, fits, other);
  consistent = consistent;
}
