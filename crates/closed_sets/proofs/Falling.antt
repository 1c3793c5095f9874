-- What falls out of a set together, one place after the other. A transition that isn't open is opened only
-- where an input place falls, and that place is on the list then; so when the list is empty no transition is
-- open, and the set is a siphon. No siphon in the set loses a place.
use Rattle.std.proofs.Common.{◌≡◌, ◌≢◌, refl, sym, ap, ◌∙◌, subst, ℕ, ◌+◌, ◌<◌, ◌≤◌, ◌==◌, ◌&&◌, ◌||◌, List, [], ◌∷◌, ◌++◌, Bool, true, false, IsTrue, MatchBool, length, get_or, set, take, not, cond, ltb, inl, inr, Contains, length-set, arith}
use Rattle.std.specs.List.{list_any}
use Rattle.std.proofs.Math.Bool.{and-false, or-false}
use Rattle.std.proofs.lemmas.Bool.{cases_lt, cases_eq, true≢false, false≢true, eq-eqb, eqb-true, and_from, and_parts, both_ways, cases_Bool, not-true, not_from_false, ltb-true, or_right}
use Rattle.std.proofs.lemmas.List.{get_or-set_same, get_or-set_other, get_or_past, length_push, take_all}
use Rattle.std.proofs.lemmas.List.Elements.{Contains-append_left, Contains-push, Contains-push_cases}
use Rattle.std.proofs.lemmas.List.Folds.{list_any_at, list_any_more}
use Rattle.std.proofs.lemmas.List.Sums.{sum_by-set}
use Rattle.net_values.specs.declared.column.WeightedPlace.{WeightedPlace}
use Rattle.net_values.specs.declared.limits.TheConstants.{MAX_PLACES}
use Rattle.net_values.specs.Columns.{Lists}
use Rattle.net_values.specs.Net.{Net}
use Rattle.net_values.specs.PlaceSets.{has}
use Rattle.net_values.proofs.TokenCounts.{nowhere}
use Rattle.closed_sets.specs.ClosedSets.{has_input_in, has_output_in, IsSiphon, IsWithin}
use Rattle.closed_sets.specs.Growth.{is_open}
use Rattle.closed_sets.specs.Passes.{members}
use Rattle.closed_sets.specs.declared.guard.Guard.{Guard}
use Rattle.closed_sets.specs.declared.guard.Guard.TheVariants.{Nothing}
use Rattle.closed_sets.specs.Guards.{guards}
use Rattle.closed_sets.specs.Falling.{Falls, Drops, HoldsGuarded, LosesGuarded, Closes, IsWaiting, HasRoom}
use Rattle.closed_sets.proofs.Below.{none_from, pair_at, pair_from}
use Rattle.closed_sets.proofs.Passes.{listed_weighs, weighs_listed, shrinks_not}

-- a member is below the size
pub has_below : (s : List Bool) (p : ℕ) → IsTrue (has s p) → p < length s
has_below s p member =
    elim (cases_lt p (length s)) [
      | inl below ↦ below
      | inr past ↦ absurd (both_ways (has s p) (get_or_past s p false past) member)
    ]

pub never_loses : {P : Type 0} (net : Net) (s : List Bool) (r : Bool) → MatchBool r P (LosesGuarded net Nothing s) → P
never_loses net s true h = h
never_loses net s false h = absurd (false≢true h.guarded)

pub falls_not : (guard : Guard) (s : List Bool) (l : List ℕ) → Falls guard s s l l
falls_not guard s l = record {
  size = refl;
  within = λ q member. member;
  kept = λ q there. there;
  fallen = λ q member out. absurd (both_ways (has s q) out member);
  places = λ q there. inl there;
  count = refl;
  guarded = λ q guarded. refl;
}

pub falls_on : (guard : Guard) (s r u : List Bool) (l m n : List ℕ) → Falls guard s r l m → Falls guard r u m n → Falls guard s u l n
falls_on guard s r u l m n first then = record {
  size = then.size ∙ first.size;
  within = λ q member. first.within q (then.within q member);
  kept = λ q there. then.kept q (first.kept q there);
  fallen = λ q member out. elim (cases_Bool (has r q)) [
    | inl inside ↦ then.fallen q inside out
    | inr gone ↦ then.kept q (first.fallen q member gone)
  ];
  places = λ q there. elim (then.places q there) [
    | inl before ↦ first.places q before
    | inr member ↦ inr (first.within q member)
  ];
  count = omega (arith, first.count, then.count);
  guarded = λ q guarded. then.guarded q guarded ∙ first.guarded q guarded;
}

-- one place is taken out
module _ (s : List Bool) (p : ℕ) (member : IsTrue (has s p)) where
  within_it : p < length s
  within_it = has_below s p member

  pub taken : has (set s p false) p ≡ false
  taken = get_or-set_same s p false false within_it

  pub untaken : (q : ℕ) → q ≢ p → has (set s p false) q ≡ has s q
  untaken q other = get_or-set_other s p q false false other

  pub still_in : (q : ℕ) → IsTrue (has (set s p false) q) → IsTrue (has s q)
  still_in q inside =
      elim (cases_eq q p) [
        | inl same ↦ absurd (both_ways _ taken (subst (λ (r : ℕ). IsTrue (has (set s p false) r)) same inside))
        | inr other ↦ sym (untaken q other) ∙ inside
      ]

  pub one_fewer : members (set s p false) + 1 ≡ members s
  one_fewer =
      let counted : members (set s p false) + cond {A = ℕ} (has s p) 1 0 ≡ members s + 0 = sum_by-set (λ (b : Bool). cond b 1 0) s p false false within_it in
      let one : cond {A = ℕ} (has s p) 1 0 ≡ 1 = ap (λ (b : Bool). cond {A = ℕ} b 1 0) member in
      omega arith

  pub falls_one : (guard : Guard) (l : List ℕ) → guards guard p ≡ false → Falls guard s (set s p false) l (l ++ p ∷ [])
  falls_one guard l free = record {
    size = length-set s p false;
    within = still_in;
    kept = λ q there. Contains-append_left l (p ∷ []) q there;
    fallen = λ q inside out. elim (cases_eq q p) [
      | inl same ↦ subst (λ (r : ℕ). Contains (l ++ p ∷ []) r) (sym same) (Contains-push l p)
      | inr other ↦ absurd (both_ways (has s q) (sym (untaken q other) ∙ out) inside)
    ];
    places = λ q there. elim (Contains-push_cases l p q there) [
      | inl before ↦ inl before
      | inr same ↦ inr (subst (λ (r : ℕ). IsTrue (has s r)) same member)
    ];
    count = omega (arith, one_fewer, length_push l p);
    guarded = λ q guarded. elim (cases_eq q p) [
      | inl same ↦ absurd (both_ways (guards guard p) free (subst (λ (r : ℕ). IsTrue (guards guard r)) same guarded))
      | inr other ↦ untaken q other
    ];
  }

take_none : (entries : List WeightedPlace) (test : WeightedPlace → Bool) → list_any test (take 0 entries) ≡ false
take_none [] test = refl
take_none (x ∷ xs) test = refl

and_not_none : (a b : Bool) → b ≡ false → a ≡ (a && not b)
and_not_none true true none = absurd (true≢false none)
and_not_none true false none = refl
and_not_none false b none = refl

pub drops_none : (guard : Guard) (entries : List WeightedPlace) (s : List Bool) (l : List ℕ) → Drops guard (take 0 entries) s s l l
drops_none guard entries s l = record {
  falls = falls_not guard s l;
  left = λ p. and_not_none (has s p) _ (take_none entries (λ entry. entry.place == p));
}

module _ (guard : Guard) (entries : List WeightedPlace) (i : ℕ) (within : i < length entries) where
  abbrev at : ℕ
  at = (get_or entries i nowhere).place

  listed_more : (p : ℕ) → list_any (λ (entry : WeightedPlace). entry.place == p) (take (i + 1) entries) ≡ (list_any (λ (entry : WeightedPlace). entry.place == p) (take i entries) || at == p)
  listed_more p = list_any_more (λ (entry : WeightedPlace). entry.place == p) entries i nowhere within

  listed_here : list_any (λ (entry : WeightedPlace). entry.place == at) (take (i + 1) entries) ≡ true
  listed_here = listed_more at ∙ or_right (list_any (λ (entry : WeightedPlace). entry.place == at) (take i entries)) (at == at) (eq-eqb at at refl)

  other_fails : (p : ℕ) → p ≢ at → (at == p) ≡ false
  other_fails p other =
      elim (cases_Bool (at == p)) [
        | inl same ↦ absurd (other (sym (eqb-true at p same)))
        | inr fails ↦ fails
      ]

  listed_other : (p : ℕ) → p ≢ at → list_any (λ (entry : WeightedPlace). entry.place == p) (take (i + 1) entries) ≡ list_any (λ (entry : WeightedPlace). entry.place == p) (take i entries)
  listed_other p other =
      listed_more p ∙ ap (λ b. list_any (λ (entry : WeightedPlace). entry.place == p) (take i entries) || b) (other_fails p other) ∙ or-false _

  -- what is left where the place of this entry isn't in the set any more
  left_more : (s r u : List Bool) → ((p : ℕ) → has r p ≡ (has s p && not (list_any (λ (entry : WeightedPlace). entry.place == p) (take i entries)))) → has u at ≡ false → ((p : ℕ) → p ≢ at → has u p ≡ has r p) → (p : ℕ) → has u p ≡ (has s p && not (list_any (λ (entry : WeightedPlace). entry.place == p) (take (i + 1) entries)))
  left_more s r u left out others p =
      elim (cases_eq p at) [
        | inl same ↦
            subst (λ (q : ℕ). has u q ≡ (has s q && not (list_any (λ (entry : WeightedPlace). entry.place == q) (take (i + 1) entries)))) (sym same)
            (out ∙ sym (ap (λ b. has s at && not b) listed_here ∙ and-false (has s at)))
        | inr other ↦ others p other ∙ left p ∙ ap (λ b. has s p && not b) (sym (listed_other p other))
      ]

  pub drops_skip : (s r : List Bool) (l m : List ℕ) → has r at ≡ false → Drops guard (take i entries) s r l m → Drops guard (take (i + 1) entries) s r l m
  drops_skip s r l m out drops = record {
    falls = drops.falls;
    left = left_more s r r drops.left out (λ p other. refl);
  }

  pub drops_more : (s r : List Bool) (l m : List ℕ) → IsTrue (has r at) → guards guard at ≡ false → Drops guard (take i entries) s r l m → Drops guard (take (i + 1) entries) s (set r at false) l (m ++ at ∷ [])
  drops_more s r l m member free drops = record {
    falls = falls_on guard s r (set r at false) l m (m ++ at ∷ []) drops.falls (falls_one r at member guard m free);
    left = left_more s r (set r at false) drops.left (taken r at member) (untaken r at member);
  }

  pub guarded_here : (s r : List Bool) (l m : List ℕ) → IsTrue (has r at) → IsTrue (guards guard at) → Drops guard (take i entries) s r l m → HoldsGuarded guard entries s
  guarded_here s r l m member guarded drops = record {
    place = at;
    listed = list_any_at (λ (entry : WeightedPlace). entry.place == at) entries i nowhere within (eq-eqb at at refl);
    guarded = guarded;
    member = drops.falls.within at member;
  }

pub drops_all : (guard : Guard) (entries : List WeightedPlace) (i : ℕ) (s r : List Bool) (l m : List ℕ) → length entries ≤ i → Drops guard (take i entries) s r l m → Drops guard entries s r l m
drops_all guard entries i s r l m past drops = subst (λ (xs : List WeightedPlace). Drops guard xs s r l m) (take_all i entries past) drops

-- there is room for one place more
pub room_left : (guard : Guard) (s r : List Bool) (l m : List ℕ) (p : ℕ) → HasRoom s l → Falls guard s r l m → IsTrue (has r p) → length m < MAX_PLACES
room_left guard s r l m p room falls member = omega (arith, falls.count, one_fewer r p member)

-- a transition without an input place in the set
module _ (net : Net) (old : List Bool) (t : ℕ) (below : t < net.transitions) (none : has_input_in net (has old) t ≡ false) (entries : List WeightedPlace) (h : Lists net.places (λ p. net.post p t) entries) where
  out_of_all : (S : ℕ → Bool) → IsSiphon net S → IsWithin net S (has old) → (p : ℕ) → p < net.places → 0 < net.post p t → S p ≡ false
  out_of_all S siphon within p here gives =
      elim (cases_Bool (S p)) [
        | inl member ↦
            let takes = pair_from net.places S (λ q. net.pre q t) (siphon t below (pair_at net.places S (λ q. net.post q t) p here member gives)) in
            absurd (both_ways (has_input_in net (has old) t) none (pair_at net.places (has old) (λ q. net.pre q t) takes.0 takes.1 (within takes.0 takes.1 takes.2) takes.3))
        | inr out ↦ out
      ]

  pub closes : (guard : Guard) (new : List Bool) (l m : List ℕ) → Drops guard entries old new l m → Closes net guard t old new l m
  closes guard new l m drops = record {
    falls = drops.falls;
    shrinks = record {
      within = λ p here member. drops.falls.within p member;
      keeps = λ S siphon within p here member.
          let unlisted : list_any (λ (entry : WeightedPlace). entry.place == p) entries ≡ false =
          elim (cases_Bool (list_any (λ (entry : WeightedPlace). entry.place == p) entries)) [
            | inl listed ↦ absurd (both_ways (S p) (out_of_all S siphon within p here (listed_weighs net.places (λ q. net.post q t) entries p h listed)) member)
            | inr unlisted ↦ unlisted
          ] in
          drops.left p ∙ and_from (has old p) _ (within p here member) (not_from_false _ unlisted);
    };
    closed =
        let nothing : has_output_in net (has new) t ≡ false =
        none_from net.places (λ p. has new p && ltb 0 (net.post p t)) (λ p here.
        elim (cases_Bool (ltb 0 (net.post p t))) [
          | inl gives ↦
              let listed = weighs_listed net.places (λ q. net.post q t) entries p h (ltb-true 0 (net.post p t) gives) in
              let out : has new p ≡ false = drops.left p ∙ ap (λ b. has old p && not b) listed ∙ and-false (has old p) in
              ap (λ b. b && ltb 0 (net.post p t)) out
          | inr fails ↦ ap (λ b. has new p && b) fails ∙ and-false (has new p)
        ]) in
        ap (λ b. b && not (has_input_in net (has new) t)) nothing;
  }

  pub loses : (guard : Guard) → length old ≡ net.places → HoldsGuarded guard entries old → LosesGuarded net guard old
  loses guard size holds =
      let place : holds.place < net.places = omega (arith, has_below old holds.place holds.member) in
      record {
        place = holds.place;
        below = place;
        guarded = holds.guarded;
        member = holds.member;
        lost = λ S siphon within. out_of_all S siphon within holds.place place (listed_weighs net.places (λ q. net.post q t) entries holds.place h holds.listed);
      }

-- a transition with an input place in the set isn't open
pub closes_not : (net : Net) (guard : Guard) (t : ℕ) (s : List Bool) (l : List ℕ) → IsTrue (has_input_in net (has s) t) → Closes net guard t s s l l
closes_not net guard t s l takes = record {
  falls = falls_not guard s l;
  shrinks = shrinks_not net (has s);
  closed = ap (λ b. has_output_in net (has s) t && not b) takes ∙ and-false (has_output_in net (has s) t);
}

-- what waited waits, and what was closed waits where it is open now
pub waiting_on : (net : Net) (guard : Guard) (s r : List Bool) (l m : List ℕ) (t : ℕ) → Falls guard s r l m → IsWaiting net s l t → IsWaiting net r m t
waiting_on net guard s r l m t falls waiting opens =
    elim (cases_Bool (is_open net (has s) t)) [
      | inl open' ↦ let there = waiting open' in (there.0, falls.kept there.0 there.1, there.2)
      | inr closed ↦
          let gives = pair_from net.places (has r) (λ q. net.post q t) (and_parts (has_output_in net (has r) t) _ opens).0 in
          let gave = pair_at net.places (has s) (λ q. net.post q t) gives.0 gives.1 (falls.within gives.0 gives.2) gives.3 in
          let took : IsTrue (has_input_in net (has s) t) = elim (cases_Bool (has_input_in net (has s) t)) [
            | inl takes ↦ takes
            | inr none ↦ absurd (both_ways (is_open net (has s) t) closed (and_from (has_output_in net (has s) t) _ gave (not_from_false _ none)))
          ] in
          let takes = pair_from net.places (has s) (λ q. net.pre q t) took in
          let gone : has r takes.0 ≡ false = elim (cases_Bool (has r takes.0)) [
            | inl inside ↦ absurd (both_ways (has_input_in net (has r) t) (not-true _ (and_parts (has_output_in net (has r) t) _ opens).1) (pair_at net.places (has r) (λ q. net.pre q t) takes.0 takes.1 inside takes.3))
            | inr out ↦ out
          ] in
          (takes.0, falls.fallen takes.0 takes.2 gone, takes.3)
    ]
