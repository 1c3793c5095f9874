-- The transitions that take from a set of places and give nothing back to it, while one place after the other is put in
-- or taken out; and what falls from them on, when the greatest trap in the set is looked for.
use Rattle.std.proofs.Common.{◌≡◌, ◌≢◌, ◌⊎◌, ◌↔◌, refl, sym, ap, ◌∙◌, subst, ℕ, ◌+◌, ◌<◌, ◌≤◌, ◌==◌, ◌&&◌, ◌||◌, List, [], Bool, true, false, IsTrue, not, length, get_or, set, take, ltb, inl, inr, arith}
use Rattle.std.proofs.Math.Nat.{eq-zero-or-pos}
use Rattle.std.specs.List.{list_any}
use Rattle.std.specs.Prelude.{MatchBool}
use Rattle.std.proofs.lemmas.Bool.{cases_eq, cases_lt, cases_Bool, both_ways, eq-eqb, eqb-true, lt-ltb, ltb-true, false≢true}
use Rattle.std.proofs.lemmas.List.{get_or-set_same, get_or-set_other, get_or_past, take_all}
use Rattle.std.proofs.lemmas.List.Folds.{list_any_more}
use Rattle.net_values.specs.declared.limits.TheConstants.{MAX_PLACES}
use Rattle.net_values.specs.Net.{Net}
use Rattle.net_values.specs.PlaceArcs.{ListsPositive}
use Rattle.net_values.specs.PlaceSets.{has, HasNoneFrom, IsFirstFrom, IsSubset}
use Rattle.closed_sets.specs.ClosedSets.{any_below}
use Rattle.closed_sets.specs.Commoner.{IsInitiallyEmpty, IsMarked}
use Rattle.closed_sets.specs.Falling.{Falls, Closes, LosesGuarded, IsWaiting, IsFalling}
use Rattle.closed_sets.specs.Growth.{is_leaving, is_open}
use Rattle.closed_sets.specs.Leavers.{IsSetRight, AreSetRight}
use Rattle.closed_sets.specs.Opens.{AreLeaving}
use Rattle.closed_sets.specs.Passes.{Shrinks, members}
use Rattle.closed_sets.specs.declared.guard.Guard.TheVariants.{Nothing}
use Rattle.closed_sets.proofs.Below.{pair_at, pair_from, same_bools}
use Rattle.closed_sets.proofs.Falling.{has_below, never_loses, falls_not, falls_on, waiting_on}
use Rattle.closed_sets.proofs.Firsts.{before_first}
use Rattle.closed_sets.proofs.OpenSets.{listed, listed_none, listed_all}
use Rattle.closed_sets.proofs.Passes.{shrinks_not, shrinks_on}
use Rattle.closed_sets.proofs.Settling.{contains_none}

-- the numbers below t were looked at
abbrev pub AreFoundBefore : Net → List Bool → List Bool → ℕ → Type 0
AreFoundBefore net s now t = (u : ℕ) → u < t → has now u ≡ (ltb u net.transitions && is_leaving net (has s) u)

pub found_before_all : (net : Net) (s now : List Bool) (t : ℕ) → net.transitions ≤ length now → length now ≤ t → AreFoundBefore net s now t → AreLeaving net s now
found_before_all net s now t room past found = record {
  room = room;
  exact = λ u below. found u (omega arith) ∙ ap (λ b. b && is_leaving net (has s) u) (lt-ltb u net.transitions below);
  past = λ u beyond.
      let none : ltb u net.transitions ≡ false = elim (cases_Bool (ltb u net.transitions)) [
        | inl below ↦ let less = ltb-true u net.transitions below in absurd (omega arith)
        | inr none ↦ none
      ] in
      elim (cases_lt u t) [
        | inl before ↦ found u before ∙ ap (λ b. b && is_leaving net (has s) u) none
        | inr after ↦ get_or_past now u false (omega arith)
      ];
}

-- the first of the transitions were looked at
abbrev pub AreLookedAt : Net → List ℕ → ℕ → List Bool → List Bool → List Bool → Type 0
AreLookedAt net ts i set old now = AreSetRight net (take i ts) set old now

pub looked_at_none : (net : Net) (ts : List ℕ) (set old : List Bool) → AreLookedAt net ts 0 set old old
looked_at_none net ts set old t = inr record { unlisted = listed_none ts t; same = refl }

pub looked_at_more : (net : Net) (ts : List ℕ) (i : ℕ) (s old now : List Bool) (b : Bool) → i < length ts → get_or ts i 0 < net.transitions → net.transitions ≤ length now → b ≡ is_leaving net (has s) (get_or ts i 0) → AreLookedAt net ts i s old now → AreLookedAt net ts (i + 1) s old (set now (get_or ts i 0) b)
looked_at_more net ts i s old now b within below room is before t =
    elim (cases_eq t (get_or ts i 0)) [
      | inl same ↦ inl (subst (IsSetRight net s (set now (get_or ts i 0) b)) (sym same) record { below = below; right = get_or-set_same now (get_or ts i 0) b false (omega arith) ∙ is })
      | inr other ↦ elim (before t) [
        | inl right ↦ inl record { below = right.below; right = get_or-set_other now (get_or ts i 0) t b false other ∙ right.right }
        | inr alone ↦ inr record {
          unlisted = list_any_more (λ (u : ℕ). u == t) ts i 0 within ∙ ap (λ c. c || (get_or ts i 0 == t)) alone.unlisted
              ∙ elim (cases_Bool (get_or ts i 0 == t)) [
                | inl same ↦ absurd (other (sym (eqb-true (get_or ts i 0) t same)))
                | inr differs ↦ differs
              ];
          same = get_or-set_other now (get_or ts i 0) t b false other ∙ alone.same;
        }
      ]
    ]

pub looked_at_all : (net : Net) (ts : List ℕ) (i : ℕ) (s old now : List Bool) → length ts ≤ i → AreLookedAt net ts i s old now → AreSetRight net ts s old now
looked_at_all net ts i s old now past looked = subst (λ (us : List ℕ). AreSetRight net us s old now) (take_all i ts past) looked

-- a transition that no arc joins to a place is as it was, whatever becomes of the place
weighs_as : (n : ℕ) (s : List Bool) (w : ℕ → ℕ) (p : ℕ) (b : Bool) → w p ≡ 0 → any_below n (λ q. has (set s p b) q && ltb 0 (w q)) ≡ any_below n (λ q. has s q && ltb 0 (w q))
weighs_as n s w p b none =
    let apart : (q : ℕ) → 0 < w q → q ≢ p = λ q positive same. let zero' : w q ≡ 0 = ap w same ∙ none in omega arith in
    same_bools _ _
    (λ some.
    let at = pair_from n (has (set s p b)) w some in
    pair_at n (has s) w at.0 at.1 (sym (get_or-set_other s p at.0 b false (apart at.0 at.3)) ∙ at.2) at.3)
    (λ some.
    let at = pair_from n (has s) w some in
    pair_at n (has (set s p b)) w at.0 at.1 (get_or-set_other s p at.0 b false (apart at.0 at.3) ∙ at.2) at.3)

leaving_as : (net : Net) (s : List Bool) (p t : ℕ) (b : Bool) → net.pre p t ≡ 0 → net.post p t ≡ 0 → is_leaving net (has (set s p b)) t ≡ is_leaving net (has s) t
leaving_as net s p t b takes gives =
    ap (λ c. c && not (any_below net.places (λ q. has (set s p b) q && ltb 0 (net.post q t)))) (weighs_as net.places s (λ q. net.pre q t) p b takes)
    ∙ ap (λ c. any_below net.places (λ q. has s q && ltb 0 (net.pre q t)) && not c) (weighs_as net.places s (λ q. net.post q t) p b gives)

no_arc : (w : ℕ → ℕ) (ts : List ℕ) (t : ℕ) → ListsPositive w ts → list_any (λ (u : ℕ). u == t) ts ≡ false → w t ≡ 0
no_arc w ts t lists unlisted =
    elim (eq-zero-or-pos (w t)) [
      | inl none ↦ none
      | inr positive ↦ absurd (both_ways (listed ts (length ts) t) (ap (λ (us : List ℕ). list_any (λ (u : ℕ). u == t) us) (take_all (length ts) ts (omega arith)) ∙ unlisted) (listed_all w ts (length ts) t lists (omega arith) ∙ lt-ltb 0 (w t) positive))
    ]

-- a place was put in or taken out, and the transitions that an arc joins to it were set right
pub leaving_more : (net : Net) (s old mid new : List Bool) (p : ℕ) (b : Bool) (takers givers : List ℕ) → AreLeaving net s old → length mid ≡ length old → length new ≡ length mid → ListsPositive (λ t. net.pre p t) takers → ListsPositive (λ t. net.post p t) givers → AreSetRight net takers (set s p b) old mid → AreSetRight net givers (set s p b) mid new → AreLeaving net (set s p b) new
leaving_more net s old mid new p b takers givers leaving size size' take' give first second = record {
  room = omega (arith, leaving.room);
  exact = λ t below. elim (second t) [
    | inl right ↦ right.right
    | inr alone ↦ elim (first t) [
      | inl right ↦ alone.same ∙ right.right
      | inr alone' ↦
          alone.same ∙ alone'.same ∙ leaving.exact t below
          ∙ sym (leaving_as net s p t b (no_arc (λ u. net.pre p u) takers t take' alone'.unlisted) (no_arc (λ u. net.post p u) givers t give alone.unlisted))
    ]
  ];
  past = λ t past. elim (second t) [
    | inl right ↦ absurd (omega (arith, right.below))
    | inr alone ↦ elim (first t) [
      | inl right ↦ absurd (omega (arith, right.below))
      | inr alone' ↦ alone.same ∙ alone'.same ∙ leaving.past t past
    ]
  ];
}

-- the set was closed at the transitions of a set of them before number `from`
pub record IsClosedBefore (net : Net) (opens old now : List Bool) (fallen : List ℕ) (from : ℕ) : Type 0 where
  pub falls : Falls Nothing old now [] fallen
  pub shrinks : Shrinks net (has old) (has now)
  pub waiting : (t : ℕ) → t < net.transitions → (t < from) ⊎ (has opens t ≡ false) → IsWaiting net now fallen t

pub closed_none : (net : Net) (opens s : List Bool) → ((t : ℕ) → t < net.transitions → has opens t ≡ is_open net (has s) t) → IsClosedBefore net opens s s [] 0
closed_none net opens s exact = record {
  falls = falls_not Nothing s [];
  shrinks = shrinks_not net (has s);
  waiting = λ t below side. elim side [
    | inl less ↦ absurd (omega arith)
    | inr out ↦ λ open'. absurd (both_ways (is_open net (has s) t) (sym (exact t below) ∙ out) open')
  ];
}

pub closed_more : (net : Net) (opens old s r : List Bool) (l m : List ℕ) (from t : ℕ) (b : Bool) → IsClosedBefore net opens old s l from → IsFirstFrom opens from t → MatchBool b (Closes net Nothing t s r l m) (LosesGuarded net Nothing s) → IsClosedBefore net opens old r m (t + 1)
closed_more net opens old s r l m from t b before first answer =
    let here = never_loses {P = Closes net Nothing t s r l m} net s b answer in
    record {
      falls = falls_on Nothing old s r [] l m before.falls here.falls;
      shrinks = shrinks_on net _ _ _ before.shrinks here.shrinks;
      waiting = λ u below side. elim (cases_eq u t) [
        | inl same ↦ subst (IsWaiting net r m) (sym same) (λ open'. absurd (both_ways (is_open net (has r) t) here.closed open'))
        | inr other ↦ elim (cases_Bool (has opens u)) [
          | inr out ↦ waiting_on net Nothing s r l m u here.falls (before.waiting u below (inr out))
          | inl member ↦ elim side [
            | inl less ↦ waiting_on net Nothing s r l m u here.falls (before.waiting u below (inl (before_first opens from t u first (omega arith) member)))
            | inr out ↦ absurd (both_ways (has opens u) out member)
          ]
        ]
      ];
    }

pub closed_all : (net : Net) (opens old s : List Bool) (l : List ℕ) (from : ℕ) → length old ≡ net.places → net.places ≤ MAX_PLACES → members old ≤ length old → HasNoneFrom opens from → IsClosedBefore net opens old s l from → IsFalling net Nothing old s l
closed_all net opens old s l from size few count none closed = record {
  few = few;
  size = closed.falls.size;
  shrinks = closed.shrinks;
  guarded = closed.falls.guarded;
  room = omega (arith, closed.falls.count);
  places = λ q there. elim (closed.falls.places q there) [
    | inl before ↦ absurd (contains_none q before)
    | inr member ↦ omega (arith, has_below old q member)
  ];
  waiting = λ t below. closed.waiting t below (elim (cases_lt t from) [
    | inl less ↦ inl less
    | inr past ↦ inr (none t (omega arith))
  ]);
}

-- a set is marked where it isn't within the places without a token
pub marked_past : (net : Net) (s empty : List Bool) (within : Bool) → length s ≡ net.places → IsInitiallyEmpty net empty → IsTrue within ↔ IsSubset s empty → IsTrue (not within) ↔ IsMarked net net.initial (has s)
marked_past net s empty true size is decides = (
  λ never. absurd (false≢true never),
  λ marked. let at = pair_from net.places (has s) net.initial marked in
      let none : net.initial at.0 ≡ 0 = eqb-true (net.initial at.0) 0 (sym (is at.0 at.1) ∙ decides.0 refl at.0 at.2) in
      let some = at.3 in absurd (omega arith),
)
marked_past net s empty false size is decides = (
  λ _. elim (cases_Bool (any_below net.places (λ p. has s p && ltb 0 (net.initial p)))) [
    | inl marked ↦ marked
    | inr none ↦ absurd (false≢true (decides.1 (λ p member. elim (cases_lt p net.places) [
      | inr past ↦ absurd (both_ways (has s p) (get_or_past s p false (omega arith)) member)
      | inl below ↦ elim (eq-zero-or-pos (net.initial p)) [
        | inl zero' ↦ is p below ∙ eq-eqb (net.initial p) 0 zero'
        | inr positive ↦ absurd (both_ways _ none (pair_at net.places (has s) net.initial p below member positive))
      ]
    ])))
  ],
  λ _. refl,
)
