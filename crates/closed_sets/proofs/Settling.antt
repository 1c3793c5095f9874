-- Each place that fell is looked at once: the transitions that it was an input place of are closed, and what
-- falls then is listed. When the list is empty the greatest siphon is left.
use Rattle.std.proofs.Common.{◌≡◌, refl, sym, ap, ◌∙◌, subst, ℕ, ◌+◌, ◌<◌, ◌≤◌, List, [], ◌∷◌, ◌++◌, Bool, true, false, IsTrue, MatchBool, length, get_or, set, inl, inr, Contains, arith}
use Rattle.std.proofs.lemmas.Bool.{cases_lt, cases_eq, and_parts, both_ways, cases_Bool}
use Rattle.std.proofs.lemmas.List.{set-get_or, get_or_past, get_or_default, length_push}
use Rattle.std.proofs.lemmas.List.Elements.{Contains-append_left, Contains-push_cases}
use Rattle.net_values.specs.declared.limits.TheConstants.{MAX_PLACES}
use Rattle.net_values.specs.Net.{Net}
use Rattle.net_values.specs.PlaceArcs.{ListsPositive}
use Rattle.net_values.specs.PlaceSets.{has, HasNoneFrom, IsFirstFrom}
use Rattle.closed_sets.specs.ClosedSets.{has_output_in, IsSiphon, IsGreatestSiphon}
use Rattle.closed_sets.specs.Growth.{is_open}
use Rattle.closed_sets.specs.Passes.{Shrinks, members}
use Rattle.closed_sets.specs.declared.guard.Guard.{Guard}
use Rattle.closed_sets.specs.declared.guard.Guard.TheVariants.{Nothing}
use Rattle.closed_sets.specs.Guards.{guards}
use Rattle.closed_sets.specs.Falling.{Falls, LosesGuarded, Closes, ClosesAll, IsWaiting, IsFalling, Settles}
use Rattle.closed_sets.specs.Kept.{KeepsWithout, LosesWithout}
use Rattle.closed_sets.proofs.Below.{pair_from}
use Rattle.closed_sets.proofs.Firsts.{before_first, before_all}
use Rattle.closed_sets.proofs.Passes.{shrinks_not, shrinks_on, siphon_from_closed, closed_from_siphon}
use Rattle.closed_sets.proofs.Falling.{has_below, never_loses, falls_not, falls_on, falls_one, one_fewer, waiting_on}

pub closes_none : (net : Net) (guard : Guard) (ts : List ℕ) (s : List Bool) (l : List ℕ) → ClosesAll net guard ts 0 s s l l
closes_none net guard ts s l = record {
  falls = falls_not guard s l;
  shrinks = shrinks_not net (has s);
  waiting = λ k below. absurd (omega arith);
}

pub closes_more : (net : Net) (guard : Guard) (ts : List ℕ) (i : ℕ) (s r u : List Bool) (l m n : List ℕ) → ClosesAll net guard ts i s r l m → Closes net guard (get_or ts i 0) r u m n → ClosesAll net guard ts (i + 1) s u l n
closes_more net guard ts i s r u l m n all here = record {
  falls = falls_on guard s r u l m n all.falls here.falls;
  shrinks = shrinks_on net _ _ _ all.shrinks here.shrinks;
  waiting = λ k below. elim (cases_eq k i) [
    | inl same ↦ subst (λ (j : ℕ). IsWaiting net u n (get_or ts j 0)) (sym same) (λ opens. absurd (both_ways _ here.closed opens))
    | inr other ↦ waiting_on net guard r u m n (get_or ts k 0) here.falls (all.waiting k (omega arith))
  ];
}

pub loses_before : (net : Net) (guard : Guard) (ts : List ℕ) (i : ℕ) (s r : List Bool) (l m : List ℕ) → ClosesAll net guard ts i s r l m → LosesGuarded net guard r → LosesGuarded net guard s
loses_before net guard ts i s r l m all lost = record {
  place = lost.place;
  below = lost.below;
  guarded = lost.guarded;
  member = all.falls.within lost.place lost.member;
  lost = λ S siphon within. lost.lost S siphon (all.shrinks.keeps S siphon within);
}

-- each transition of a list of those with a positive weight waits
pub waits_listed : (net : Net) (weights : ℕ → ℕ) (ts : List ℕ) (s : List Bool) (l : List ℕ) → ListsPositive weights ts → ((k : ℕ) → k < length ts → IsWaiting net s l (get_or ts k 0)) → (t : ℕ) → 0 < weights t → IsWaiting net s l t
waits_listed net weights ts s l listed waiting t positive =
    let there = (listed.members t).1 positive in
    subst (λ (u : ℕ). IsWaiting net s l u) (get_or_default ts there.0 0 t there.1 ∙ there.2) (waiting there.0 there.1)

-- the last place on the list was looked at
pub falling_more : (net : Net) (guard : Guard) (first s r : List Bool) (l m : List ℕ) (p : ℕ) (ts : List ℕ) → length first ≡ net.places → IsFalling net guard first s (l ++ p ∷ []) → ListsPositive (λ t. net.pre p t) ts → ClosesAll net guard ts (length ts) s r l m → IsFalling net guard first r m
falling_more net guard first s r l m p ts size falling listed closed = record {
  few = falling.few;
  size = closed.falls.size ∙ falling.size;
  shrinks = shrinks_on net _ _ _ falling.shrinks closed.shrinks;
  guarded = λ q guarded. closed.falls.guarded q guarded ∙ falling.guarded q guarded;
  room = omega (arith, closed.falls.count, falling.room, length_push l p);
  places = λ q there. elim (closed.falls.places q there) [
    | inl before ↦ falling.places q (Contains-append_left l (p ∷ []) q before)
    | inr member ↦ omega (arith, has_below s q member, falling.size)
  ];
  waiting = λ t below. elim (cases_lt 0 (net.pre p t)) [
    | inl takes ↦ waits_listed net (λ u. net.pre p u) ts r m listed closed.waiting t takes
    | inr none ↦ waiting_on net guard s r l m t closed.falls (λ opens.
        let there = falling.waiting t below opens in
        elim (Contains-push_cases l p there.0 there.1) [
          | inl before ↦ (there.0, before, there.2)
          | inr same ↦ let e : net.pre p t ≡ net.pre there.0 t = ap (λ q. net.pre q t) same in absurd (omega (arith, there.2))
        ])
  ];
}

pub loses_earlier : (net : Net) (guard : Guard) (first s : List Bool) (l : List ℕ) → IsFalling net guard first s l → LosesGuarded net guard s → LosesGuarded net guard first
loses_earlier net guard first s l falling lost = record {
  place = lost.place;
  below = lost.below;
  guarded = lost.guarded;
  member = falling.shrinks.within lost.place lost.below lost.member;
  lost = λ S siphon within. lost.lost S siphon (falling.shrinks.keeps S siphon within);
}

pub contains_none : (q : ℕ) → Contains [] q → ⊥
contains_none q some = omega (arith, some.1)

-- none is left on the list
pub falling_over : (net : Net) (guard : Guard) (first s : List Bool) → IsFalling net guard first s [] → Settles net guard first s
falling_over net guard first s falling = record {
  size = falling.size;
  greatest = record {
    siphon = siphon_from_closed net (has s) (λ t below. elim (cases_Bool (is_open net (has s) t)) [
      | inl opens ↦ let there = falling.waiting t below opens in absurd (contains_none there.0 there.1)
      | inr closed ↦ closed
    ]);
    within = falling.shrinks.within;
    greatest = falling.shrinks.keeps;
  };
  guarded = falling.guarded;
}

-- a place that was taken out of a siphon
pub falling_one : (net : Net) (guard : Guard) (s : List Bool) (p : ℕ) → length s ≡ net.places → net.places ≤ MAX_PLACES → members s ≤ length s → IsSiphon net (has s) → IsTrue (has s p) → IsFalling net guard (set s p false) (set s p false) (p ∷ [])
falling_one net guard s p size few count siphon member = record {
  few = few;
  size = refl;
  shrinks = shrinks_not net (has (set s p false));
  guarded = λ q guarded. refl;
  room = omega (arith, one_fewer s p member);
  places = λ q there. elim (Contains-push_cases [] p q there) [
    | inl before ↦ absurd (contains_none q before)
    | inr same ↦ let below = has_below s p member in omega arith
  ];
  waiting = λ t below. waiting_on net Nothing s (set s p false) [] (p ∷ []) t (falls_one s p member Nothing [] refl)
      (λ opens. absurd (both_ways (is_open net (has s) t) (closed_from_siphon net (has s) siphon t below) opens));
}

-- a place that a siphon lacks
pub settles_not : (net : Net) (guard : Guard) (s : List Bool) → IsSiphon net (has s) → Settles net guard s s
settles_not net guard s siphon = record {
  size = refl;
  greatest = record { siphon = siphon; within = λ p below member. member; greatest = λ S siphon within. within };
  guarded = λ q guarded. refl;
}

-- the first look has come to place p
pub record IsLooked (net : Net) (old now : List Bool) (fallen : List ℕ) (p : ℕ) : Type 0 where
  pub falls : Falls Nothing old now [] fallen
  pub shrinks : Shrinks net (has old) (has now)
  pub waiting : (q t : ℕ) → q < p → IsTrue (has now q) → 0 < net.post q t → IsWaiting net now fallen t

pub looked_none : (net : Net) (s : List Bool) → IsLooked net s s [] 0
looked_none net s = record {
  falls = falls_not Nothing s [];
  shrinks = shrinks_not net (has s);
  waiting = λ q t below. absurd (omega arith);
}

-- place p is the first in the set from the one that the look has come to
pub looked_more : (net : Net) (old s r : List Bool) (l m : List ℕ) (from p : ℕ) (ts : List ℕ) (b : Bool) → IsLooked net old s l from → IsFirstFrom s from p → ListsPositive (λ t. net.post p t) ts → MatchBool b (ClosesAll net Nothing ts (length ts) s r l m) (LosesGuarded net Nothing s) → IsLooked net old r m (p + 1)
looked_more net old s r l m from p ts b looked first listed answer = let closed = never_loses {P = ClosesAll net Nothing ts (length ts) s r l m} net s b answer in record {
  falls = falls_on Nothing old s r [] l m looked.falls closed.falls;
  shrinks = shrinks_on net _ _ _ looked.shrinks closed.shrinks;
  waiting = λ q t below member gives. elim (cases_eq q p) [
    | inl same ↦ waits_listed net (λ u. net.post p u) ts r m listed closed.waiting t (subst (λ (k : ℕ). 0 < net.post k t) same gives)
    | inr other ↦ waiting_on net Nothing s r l m t closed.falls (looked.waiting q t (before_first s from p q first (omega arith) (closed.falls.within q member)) (closed.falls.within q member) gives)
  ];
}

pub looked_all : (net : Net) (old s : List Bool) (l : List ℕ) (from : ℕ) → length old ≡ net.places → net.places ≤ MAX_PLACES → members old ≤ length old → HasNoneFrom s from → IsLooked net old s l from → IsFalling net Nothing old s l
looked_all net old s l from size few count none looked = record {
  few = few;
  size = looked.falls.size;
  shrinks = looked.shrinks;
  guarded = looked.falls.guarded;
  room = omega (arith, looked.falls.count);
  places = λ q there. elim (looked.falls.places q there) [
    | inl before ↦ absurd (contains_none q before)
    | inr member ↦ omega (arith, has_below old q member)
  ];
  waiting = λ t below opens.
      let gives = pair_from net.places (has s) (λ q. net.post q t) (and_parts (has_output_in net (has s) t) _ opens).0 in
      looked.waiting gives.0 t (before_all s from gives.0 none gives.2) gives.2 gives.3 opens;
}

-- a place that isn't in the siphon
pub settles_lacking : (net : Net) (guard : Guard) (s : List Bool) (p : ℕ) → IsSiphon net (has s) → has s p ≡ false → Settles net guard (set s p false) s
settles_lacking net guard s p siphon out =
    let same : set s p false ≡ s = subst (λ (b : Bool). set s p b ≡ s) out (set-get_or s p false) in
    subst (λ (old : List Bool). Settles net guard old s) (sym same) (settles_not net guard s siphon)

pub past_it : (s : List Bool) (p : ℕ) → length s ≤ p → has s p ≡ false
past_it s p past = get_or_past s p false past

-- what follows in both cases
pub match_both : {P Q R S : Type 0} (b : Bool) → (P → R) → (Q → S) → MatchBool b P Q → MatchBool b R S
match_both true f g h = f h
match_both false f g h = g h

-- what a guard of the members of a set tells of the set
pub keeps_members : (net : Net) (guard : Guard) (others : List Bool) (p : ℕ) (old new : List Bool) → ((q : ℕ) → IsTrue (has others q) → IsTrue (guards guard q)) → Settles net guard (set old p false) new → KeepsWithout net others p old new
keeps_members net guard others p old new guarded settles = record {
  greatest = settles.greatest;
  kept = λ q there. settles.guarded q (guarded q there);
}

pub loses_member : (net : Net) (guard : Guard) (others : List Bool) (p : ℕ) (old : List Bool) → ((q : ℕ) → IsTrue (guards guard q) → IsTrue (has others q)) → LosesGuarded net guard (set old p false) → LosesWithout net others p old
loses_member net guard others p old guarded loses = record {
  place = loses.place;
  below = loses.below;
  kept = guarded loses.place loses.guarded;
  lost = loses.lost;
}

-- the greatest siphon in what the first look left is the greatest in the set
pub settles_first : (net : Net) (old mid new : List Bool) (l : List ℕ) (b : Bool) → IsFalling net Nothing old mid l → MatchBool b (Settles net Nothing mid new) (LosesGuarded net Nothing mid) → IsGreatestSiphon net (has old) (has new)
settles_first net old mid new l b falling answer = let settles = never_loses {P = Settles net Nothing mid new} net mid b answer in record {
  siphon = settles.greatest.siphon;
  within = λ p here member. falling.shrinks.within p here (settles.greatest.within p here member);
  greatest = λ S siphon within. settles.greatest.greatest S siphon (falling.shrinks.keeps S siphon within);
}

-- what fell first falls on from where it came to
pub falling_from : (net : Net) (guard : Guard) (old mid : List Bool) (l : List ℕ) → IsFalling net guard old mid l → IsFalling net guard mid mid l
falling_from net guard old mid l falling = record {
  few = falling.few;
  size = refl;
  shrinks = shrinks_not net (has mid);
  guarded = λ q guarded. refl;
  room = falling.room;
  places = falling.places;
  waiting = falling.waiting;
}
