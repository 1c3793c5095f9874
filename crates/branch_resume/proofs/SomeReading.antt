-- Any bytes stand for classes, or have a line that keeps them from being read. There are finitely many classes of a size,
-- so it is decided whether bytes begin with the line of one of them. Such lines are taken from the front as long as there
-- are some; what follows them, and whether two of the classes overlap, tells the rest.
use Rattle.std.proofs.Common.{◌≡◌, ◌⊎◌, refl, sym, ap, ◌∙◌, subst, ℕ, zero, suc, ◌+◌, ◌<◌, ◌≤◌, List, [], ◌∷◌, ◌++◌, Bool, true, false, IsTrue, length, length-append, codes, inl, inr, append_assoc, arith}
use Rattle.std.proofs.lemmas.Bool.{both_ways, cases_Bool, cases_eq, cases_lt, false≢true}
use Rattle.std.proofs.lemmas.List.{length-replicate}
use Rattle.std.proofs.lemmas.List.Elements.{All-nil, All-cons}
use Rattle.std.specs.List.{flat_map}
use Rattle.std.specs.Cmp.Lexicographic.{slice_cmp}
use Rattle.std.specs.Ordering.{bool_cmp}
use Rattle.net_values.specs.PlaceSets.{has}
use Rattle.net_values.specs.TheList.{IsTheList}
use Rattle.net_values.specs.declared.limits.TheConstants.{MAX_PLACES}
use Rattle.siphon_branch.specs.declared.branch.Branch.{Branch}
use Rattle.siphon_branch.specs.Classes.{AreDisjoint, HasSize, IsConsistent, every_set}
use Rattle.siphon_branch.proofs.AllSets.{Decided, Sized, the_list_of}
use Rattle.siphon_branch.proofs.Divisions.{pairs_one}
use Rattle.siphon_branch.proofs.Lists.{contains_none}
use Rattle.siphon_branch.proofs.Roots.{zeros_have}
use Rattle.branch_resume.specs.Tokens.{class_line, places_from, places_of, signed}
use Rattle.branch_resume.specs.Pending.{ReadsPending, IsOfNet}
use Rattle.branch_resume.specs.Lines.{BeginsNoClass, IsFront}
use Rattle.branch_resume.specs.Laws.{IsReadOrRefused, SomeReading}
use Rattle.branch_resume.proofs.Places.{no_places, same_places}
use Rattle.branch_resume.proofs.TokenLines.{class_bytes, end_line, first_line, malformed_first}
use Rattle.branch_resume.proofs.Fronts.{malformed_lines, overlap_rejected, place_rejected, lines_read}
use Rattle.branch_resume.proofs.Overlaps.{decide_common, disjoint_or_overlap}

-- ---- what is decided of bytes, and of the sets of a size

decide_front : (front bytes : List ℕ) → Decided ((more : List ℕ) × (bytes ≡ front ++ more))
decide_front [] bytes = inl (bytes, refl)
decide_front (x ∷ front) [] = inr (λ is. let none = is.1 in absurd (cc))
decide_front (x ∷ front) (y ∷ bytes) =
    elim (cases_eq y x) [
      | inr other ↦ inr (λ is. let whole = is.1 in other (cc))
      | inl same ↦ elim (decide_front front bytes) [
        | inl rest ↦ inl (rest.0, λ i. same i ∷ rest.1 i)
        | inr fails ↦ inr (λ is. let whole = is.1 in fails (is.0, cc))
      ]
    ]

decide_some : (n : ℕ) (P : List Bool → Type 0) → ((set : List Bool) → Decided (P set)) → Decided ((set : List Bool) × Sized n P set)
decide_some n P decide = go (the_list_of n P decide).0 (the_list_of n P decide).1 where
  go : (sets : List (List Bool)) → IsTheList (slice_cmp bool_cmp) (Sized n P) sets → Decided ((set : List Bool) × Sized n P set)
  go [] is = inr (λ some. contains_none some.0 ((is.members some.0).1 some.1))
  go (set ∷ sets) is = inl (set, (is.members set).0 (0, omega arith, refl))

-- ---- a set of another size with the same places

abbrev resized : ℕ → List Bool → List Bool
resized zero set = []
resized (suc n) [] = false ∷ resized n []
resized (suc n) (b ∷ set) = b ∷ resized n set

resized_length : (n : ℕ) (set : List Bool) → length (resized n set) ≡ n
resized_length zero set = refl
resized_length (suc n) [] = ap suc (resized_length n [])
resized_length (suc n) (b ∷ set) = ap suc (resized_length n set)

resized_places : (n from : ℕ) (set : List Bool) → ((p : ℕ) → IsTrue (has set p) → p < n) → places_from from (resized n set) ≡ places_from from set
resized_places zero from set within = sym (no_places from set (λ p. elim (cases_Bool (has set p)) [
  | inl some ↦ absurd (let low = within p some in omega (arith, low))
  | inr none ↦ none
]))
resized_places (suc n) from [] within = resized_places n (from + 1) [] (λ p some. absurd (false≢true some))
resized_places (suc n) from (true ∷ set) within = ap (λ (places : List ℕ). from ∷ places) (resized_places n (from + 1) set (λ p some. let low = within (suc p) some in omega (arith, low)))
resized_places (suc n) from (false ∷ set) within = resized_places n (from + 1) set (λ p some. let low = within (suc p) some in omega (arith, low))

module _ (size : ℕ) (class : Branch) (inside : IsOfNet size class) where
  abbrev sized : Branch
  sized = record { contains = resized size class.contains; avoids = resized size class.avoids }

  contained : places_of sized.contains ≡ places_of class.contains
  contained = resized_places size 0 class.contains (λ p some. inside p (inl some))

  avoided : places_of sized.avoids ≡ places_of class.avoids
  avoided = resized_places size 0 class.avoids (λ p some. inside p (inr some))

  sized_line : class_line class ≡ class_line sized
  unfolding class_line
  sized_line = λ i. ((codes "class" ++ flat_map (λ p. 32 ∷ signed 43 p) (sym contained i)) ++ flat_map (λ p. 32 ∷ signed 45 p) (sym avoided i)) ++ codes "\n"

  sized_consistent : IsConsistent class → IsConsistent sized
  sized_consistent consistent p one other =
      consistent p (sym (same_places 0 sized.contains class.contains contained p) ∙ one) (sym (same_places 0 sized.avoids class.avoids avoided p) ∙ other)

-- ---- the line of a class of a size

-- the bytes begin with the line of the class, and no place is both contained and avoided
record BeginsWith (bytes : List ℕ) (contains avoids : List Bool) : Type 0 where
  consistent : IsConsistent record { contains = contains; avoids = avoids }
  more : List ℕ
  joined : bytes ≡ class_line record { contains = contains; avoids = avoids } ++ more

decide_begins : (bytes : List ℕ) (contains avoids : List Bool) → Decided (BeginsWith bytes contains avoids)
decide_begins bytes contains avoids =
    elim (decide_common contains avoids) [
      | inl common ↦ inr (λ begins. begins.consistent common.place common.in_one common.in_other)
      | inr apart ↦ elim (decide_front (class_line record { contains = contains; avoids = avoids }) bytes) [
        | inl is ↦ inl record { consistent = λ p one other. apart record { place = p; in_one = one; in_other = other }; more = is.0; joined = is.1 }
        | inr fails ↦ inr (λ begins. fails (begins.more, begins.joined))
      ]
    ]

record BeginsWithClass (size : ℕ) (bytes : List ℕ) : Type 0 where
  class : Branch
  has_size : HasSize size class
  consistent : IsConsistent class
  more : List ℕ
  joined : bytes ≡ class_line class ++ more

class_or_none : (size : ℕ) (bytes : List ℕ) → BeginsWithClass size bytes ⊎ BeginsNoClass size bytes
class_or_none size bytes =
    elim (decide_some size (λ contains. (avoids : List Bool) × Sized size (BeginsWith bytes contains) avoids) (λ contains. decide_some size (BeginsWith bytes contains) (decide_begins bytes contains))) [
      | inl found ↦
          let begins = found.1.1.1.1 in
          inl record {
            class = record { contains = found.0; avoids = found.1.1.0 };
            has_size = record { contains = found.1.0; avoids = found.1.1.1.0 };
            consistent = begins.consistent;
            more = begins.more;
            joined = begins.joined;
          }
      | inr none ↦ inr (λ class inside consistent more same.
          none (
            resized size class.contains,
            (
              resized_length size class.contains,
              (
                resized size class.avoids,
                (
                  resized_length size class.avoids,
                  record { consistent = sized_consistent size class inside consistent; more = more; joined = same ∙ ap (λ (xs : List ℕ). xs ++ more) (sized_line size class inside) },
                ),
              ),
            ),
          ))
    ]

-- ---- the lines at the front

line_some : (class : Branch) → 0 < length (class_line class)
unfolding class_line
line_some class = omega arith

pub fronts : (steps size : ℕ) (bytes : List ℕ) → length bytes < steps → (classes : List Branch) × (left : List ℕ) × IsFront size bytes classes left
fronts zero size bytes few = absurd (omega (arith, few))
fronts (suc steps) size bytes few =
    elim (class_or_none size bytes) [
      | inr stops ↦ ([], bytes, record { sizes = All-nil (HasSize size); consistent = All-nil IsConsistent; joined = refl; room = omega arith; stops = stops })
      | inl begins ↦
          let some = line_some begins.class in
          let count : length bytes ≡ length (class_line begins.class) + length begins.more = ap length begins.joined ∙ length-append (class_line begins.class) begins.more in
          let rest = fronts steps size begins.more (omega (arith, few, some, count)) in
          let front = rest.2 in
          let room = front.room in (
            begins.class ∷ rest.0,
            rest.1,
            record {
              sizes = All-cons (HasSize size) begins.class rest.0 begins.has_size front.sizes;
              consistent = All-cons IsConsistent begins.class rest.0 begins.consistent front.consistent;
              joined = begins.joined ∙ ap (λ (xs : List ℕ). class_line begins.class ++ xs) front.joined ∙ sym (append_assoc (class_line begins.class) (class_bytes rest.0) rest.1);
              room = omega (arith, some, count, room);
              stops = front.stops;
            },
          )
    ]

-- ---- what is read of bytes

module _ (places : ℕ) (fits : places ≤ MAX_PLACES) where
  of_all : ReadsPending places [] (every_set places ∷ [])
  of_all = record {
    pending = record {
      sizes = All-cons (HasSize places) (every_set places) [] record { contains = length-replicate places false; avoids = length-replicate places false } (All-nil (HasSize places));
      consistent = All-cons IsConsistent (every_set places) [] (λ p one other. both_ways _ (zeros_have places p) one) (All-nil IsConsistent);
      disjoint = pairs_one AreDisjoint (every_set places);
    };
    spelled = inl (refl, refl);
  }

  of_lines : (lines : List ℕ) → IsReadOrRefused places (first_line ++ lines)
  of_lines lines =
      let front = fronts (suc (length lines)) places lines (omega arith) in
      let beyond = fronts (suc (length front.1)) MAX_PLACES front.1 (omega arith) in
      elim (decide_front end_line beyond.1) [
        | inr unended ↦ inr (inl (
          length front.0 + length beyond.0 + 2,
          malformed_lines places fits lines front.1 beyond.1 front.0 beyond.0 front.2 beyond.2 (λ rest same. unended (rest, same)),
        ))
        | inl ended ↦ elim (disjoint_or_overlap front.0) [
          | inr found ↦ inr (inr (found.0 + 2, overlap_rejected places fits lines front.1 beyond.1 front.0 beyond.0 front.2 beyond.2 ended.0 ended.1 found.0 found.1))
          | inl disjoint ↦ elim (cases_lt 0 (length beyond.0)) [
            | inl some ↦ inr (inr (length front.0 + 2, place_rejected places fits lines front.1 beyond.1 front.0 beyond.0 front.2 beyond.2 ended.0 ended.1 some disjoint))
            | inr none ↦ inl (front.0, lines_read places fits lines front.1 beyond.1 front.0 beyond.0 front.2 beyond.2 ended.0 ended.1 (omega (arith, none)) disjoint)
          ]
        ]
      ]

  of_bytes : (bytes : List ℕ) → IsReadOrRefused places bytes
  of_bytes [] = inl (every_set places ∷ [], of_all)
  of_bytes (byte ∷ bytes) =
      elim (decide_front first_line (byte ∷ bytes)) [
        | inl is ↦ subst (IsReadOrRefused places) (sym is.1) (of_lines is.0)
        | inr other ↦ inr (inl (1, malformed_first (byte ∷ bytes) (λ none. absurd (cc)) (λ more same. other (more, same))))
      ]

pub some_reading : SomeReading
some_reading places bytes fits = of_bytes places fits bytes
