-- A place that is put into a set closes the transitions that it is an input place of, and opens those that it is
-- an output place of and that have no input place in the set.
use Rattle.std.proofs.Common.{◌≡◌, ◌≢◌, refl, sym, ap, ◌∙◌, subst, ℕ, ◌+◌, ◌<◌, ◌≤◌, ◌==◌, ◌&&◌, ◌||◌, List, [], ◌∷◌, Bool, true, false, IsTrue, not, length, get_or, set, take, ltb, inl, inr, length-set, Contains, arith}
use Rattle.std.proofs.Math.Bool.{and-false, or-false}
use Rattle.std.specs.List.{list_any}
use Rattle.std.proofs.lemmas.Bool.{cases_eq, cases_Bool, and_from, not_from_false, eq-eqb, eqb-true, lt-ltb, ltb-true, or_cases, or_left, or_right}
use Rattle.std.proofs.lemmas.List.{get_or-set_same, get_or-set_other, take_all}
use Rattle.std.proofs.lemmas.List.Elements.{Contains-get_or}
use Rattle.std.proofs.lemmas.List.Folds.{Any-from_list_any, list_any-from_Any, list_any_more}
use Rattle.net_values.specs.Net.{Net}
use Rattle.net_values.specs.PlaceArcs.{ListsPositive}
use Rattle.net_values.specs.PlaceSets.{has}
use Rattle.closed_sets.specs.ClosedSets.{any_below, has_input_in, has_output_in}
use Rattle.closed_sets.specs.Growth.{is_open, with_place}
use Rattle.closed_sets.specs.Opens.{AreOpen}
use Rattle.closed_sets.proofs.Below.{same_bools, pair_at, pair_from}

-- one of the first transitions of the list
abbrev pub listed : List ℕ → ℕ → ℕ → Bool
listed ts i t = list_any (λ (u : ℕ). u == t) (take i ts)

take_none : (ts : List ℕ) (test : ℕ → Bool) → list_any test (take 0 ts) ≡ false
take_none [] test = refl
take_none (x ∷ xs) test = refl

pub listed_none : (ts : List ℕ) (t : ℕ) → listed ts 0 t ≡ false
listed_none ts t = take_none ts (λ (u : ℕ). u == t)

pub listed_all : (w : ℕ → ℕ) (ts : List ℕ) (i t : ℕ) → ListsPositive w ts → length ts ≤ i → listed ts i t ≡ ltb 0 (w t)
listed_all w ts i t lists past =
    ap (λ (us : List ℕ). list_any (λ (u : ℕ). u == t) us) (take_all i ts past)
    ∙ same_bools (list_any (λ (u : ℕ). u == t) ts) (ltb 0 (w t))
    (λ some.
    let at = Any-from_list_any (λ (u : ℕ). u == t) ts some in
    let there : Contains ts t = subst (λ (u : ℕ). Contains ts u) (at.3 ∙ eqb-true at.1 t at.4) (Contains-get_or ts at.0 at.1 at.2) in
    lt-ltb 0 (w t) ((lists.members t).0 there))
    (λ positive.
    let there = (lists.members t).1 (ltb-true 0 (w t) positive) in
    list_any-from_Any (λ (u : ℕ). u == t) ts (there.0, t, there.1, there.2, eq-eqb t t refl))

eqb_false : (a b : ℕ) → a ≢ b → (a == b) ≡ false
eqb_false a b other =
    elim (cases_Bool (a == b)) [
      | inl same ↦ absurd (other (eqb-true a b same))
      | inr fails ↦ fails
    ]

module _ (ts : List ℕ) (i : ℕ) (within : i < length ts) where
  abbrev at : ℕ
  at = get_or ts i 0

  listed_more : (t : ℕ) → listed ts (i + 1) t ≡ (listed ts i t || at == t)
  listed_more t = list_any_more (λ (u : ℕ). u == t) ts i 0 within

  listed_here : listed ts (i + 1) at ≡ true
  listed_here = listed_more at ∙ or_right (listed ts i at) (at == at) (eq-eqb at at refl)

  listed_other : (t : ℕ) → t ≢ at → listed ts (i + 1) t ≡ listed ts i t
  listed_other t other = listed_more t ∙ ap (λ b. listed ts i t || b) (eqb_false at t (λ same. other (sym same))) ∙ or-false _

  -- one transition more was opened
  pub opened_more : (old now : List Bool) (takes : ℕ → Bool) → at < length now → takes at ≡ false → ((t : ℕ) → has now t ≡ (has old t || (listed ts i t && not (takes t)))) → (t : ℕ) → has (set now at true) t ≡ (has old t || (listed ts (i + 1) t && not (takes t)))
  opened_more old now takes below none before t =
      elim (cases_eq t at) [
        | inl same ↦
            subst (λ (u : ℕ). has (set now at true) u ≡ (has old u || (listed ts (i + 1) u && not (takes u)))) (sym same)
            (get_or-set_same now at true false below
            ∙ sym (or_right (has old at) (listed ts (i + 1) at && not (takes at)) (and_from (listed ts (i + 1) at) (not (takes at)) listed_here (not_from_false (takes at) none))))
        | inr other ↦
            get_or-set_other now at t true false other ∙ before t ∙ ap (λ b. has old t || (b && not (takes t))) (sym (listed_other t other))
      ]

  -- a transition with an input place in the set stays as it is
  pub opened_skip : (old now : List Bool) (takes : ℕ → Bool) → IsTrue (takes at) → ((t : ℕ) → has now t ≡ (has old t || (listed ts i t && not (takes t)))) → (t : ℕ) → has now t ≡ (has old t || (listed ts (i + 1) t && not (takes t)))
  opened_skip old now takes takes' before t =
      elim (cases_eq t at) [
        | inl same ↦
            subst (λ (u : ℕ). has now u ≡ (has old u || (listed ts (i + 1) u && not (takes u)))) (sym same)
            (before at
            ∙ ap (λ b. has old at || (listed ts i at && not b)) takes' ∙ ap (λ b. has old at || b) (and-false (listed ts i at))
            ∙ sym (ap (λ b. has old at || (listed ts (i + 1) at && not b)) takes' ∙ ap (λ b. has old at || b) (and-false (listed ts (i + 1) at))))
        | inr other ↦ before t ∙ ap (λ b. has old t || (b && not (takes t))) (sym (listed_other t other))
      ]

  -- one transition more was closed
  pub closed_more : (old now : List Bool) → at < length now → ((t : ℕ) → has now t ≡ (has old t && not (listed ts i t))) → (t : ℕ) → has (set now at false) t ≡ (has old t && not (listed ts (i + 1) t))
  closed_more old now below before t =
      elim (cases_eq t at) [
        | inl same ↦
            subst (λ (u : ℕ). has (set now at false) u ≡ (has old u && not (listed ts (i + 1) u))) (sym same)
            (get_or-set_same now at false false below
            ∙ sym (ap (λ b. has old at && not b) listed_here ∙ and-false (has old at)))
        | inr other ↦
            get_or-set_other now at t false false other ∙ before t ∙ ap (λ b. has old t && not b) (sym (listed_other t other))
      ]

-- the place is put in
pub placed : (list : List Bool) (p : ℕ) → p < length list → (q : ℕ) → has (set list p true) q ≡ with_place (has list) p q
placed list p within q =
    elim (cases_eq q p) [
      | inl same ↦ subst (λ (r : ℕ). has (set list p true) r ≡ with_place (has list) p r) (sym same) (get_or-set_same list p true false within ∙ sym (or_left (p == p) (has list p) (eq-eqb p p refl)))
      | inr other ↦ get_or-set_other list p q true false other ∙ sym (ap (λ b. b || has list q) (eqb_false q p other))
    ]

-- a set with one place more has a place of positive weight where the set has one, or the place has one
weighs_more : (n : ℕ) (S : ℕ → Bool) (w : ℕ → ℕ) (p : ℕ) → p < n → any_below n (λ q. with_place S p q && ltb 0 (w q)) ≡ (any_below n (λ q. S q && ltb 0 (w q)) || ltb 0 (w p))
weighs_more n S w p below =
    same_bools _ _
    (λ some.
    let at = pair_from n (with_place S p) w some in
    elim (or_cases (at.0 == p) (S at.0) at.2) [
      | inl same ↦ or_right (any_below n (λ q. S q && ltb 0 (w q))) (ltb 0 (w p)) (lt-ltb 0 (w p) (subst (λ (q : ℕ). 0 < w q) (eqb-true at.0 p same) at.3))
      | inr old ↦ or_left (any_below n (λ q. S q && ltb 0 (w q))) (ltb 0 (w p)) (pair_at n S w at.0 at.1 old at.3)
    ])
    (λ either. elim (or_cases (any_below n (λ q. S q && ltb 0 (w q))) (ltb 0 (w p)) either) [
      | inl some ↦
          let at = pair_from n S w some in
          pair_at n (with_place S p) w at.0 at.1 (or_right (at.0 == p) (S at.0) at.2) at.3
      | inr weighs ↦ pair_at n (with_place S p) w p below (or_left (p == p) (S p) (eq-eqb p p refl)) (ltb-true 0 (w p) weighs)
    ])

open_bools : (gave took gives takes : Bool) → (((gave && not took) || (gives && not (took || takes))) && not takes) ≡ ((gave || gives) && not (took || takes))
open_bools true true true true = refl
open_bools true true true false = refl
open_bools true true false true = refl
open_bools true true false false = refl
open_bools true false true true = refl
open_bools true false true false = refl
open_bools true false false true = refl
open_bools true false false false = refl
open_bools false true true true = refl
open_bools false true true false = refl
open_bools false true false true = refl
open_bools false true false false = refl
open_bools false false true true = refl
open_bools false false true false = refl
open_bools false false false true = refl
open_bools false false false false = refl

module _ (net : Net) (members old mid new : List Bool) (p : ℕ) (size : length members ≡ net.places) (below : p < net.places) (open' : AreOpen net members old) where
  abbrev more : ℕ → Bool
  more = has (set members p true)

  same_more : ◌≡◌ {A = ℕ → Bool} more (with_place (has members) p)
  same_more = λ i q. placed members p (omega arith) q i

  inputs_more : (t : ℕ) → has_input_in net more t ≡ (has_input_in net (has members) t || ltb 0 (net.pre p t))
  inputs_more t = ap (λ (S : ℕ → Bool). has_input_in net S t) same_more ∙ weighs_more net.places (has members) (λ q. net.pre q t) p below

  outputs_more : (t : ℕ) → has_output_in net more t ≡ (has_output_in net (has members) t || ltb 0 (net.post p t))
  outputs_more t = ap (λ (S : ℕ → Bool). has_output_in net S t) same_more ∙ weighs_more net.places (has members) (λ q. net.post q t) p below

  pub open_more : length mid ≡ length old → length new ≡ length mid → ((t : ℕ) → has mid t ≡ (has old t || (ltb 0 (net.post p t) && not (has_input_in net more t)))) → ((t : ℕ) → has new t ≡ (has mid t && not (ltb 0 (net.pre p t)))) → AreOpen net (set members p true) new
  open_more first then opened closed = record {
    size = then ∙ first ∙ open'.size;
    exact = λ t here.
        closed t ∙ ap (λ b. b && not (ltb 0 (net.pre p t))) (opened t
        ∙ ap (λ b. b || (ltb 0 (net.post p t) && not (has_input_in net more t))) (open'.exact t here)
        ∙ ap (λ b. is_open net (has members) t || (ltb 0 (net.post p t) && not b)) (inputs_more t))
        ∙ open_bools (has_output_in net (has members) t) (has_input_in net (has members) t) (ltb 0 (net.post p t)) (ltb 0 (net.pre p t))
        ∙ sym (ap (λ b. b && not (has_input_in net more t)) (outputs_more t) ∙ ap (λ b. (has_output_in net (has members) t || ltb 0 (net.post p t)) && not b) (inputs_more t));
  }

-- the transitions below t were looked at
pub record AreFound (net : Net) (members now : List Bool) (t : ℕ) : Type 0 where
  pub size : length now ≡ net.transitions
  pub exact : (u : ℕ) → u < t → has now u ≡ is_open net (has members) u

pub found_none : (net : Net) (members now : List Bool) → length now ≡ net.transitions → AreFound net members now 0
found_none net members now size = record { size = size; exact = λ u below. absurd (omega arith) }

pub found_more : (net : Net) (members now : List Bool) (t : ℕ) (b : Bool) → t < net.transitions → b ≡ is_open net (has members) t → AreFound net members now t → AreFound net members (set now t b) (t + 1)
found_more net members now t b below opens found = record {
  size = length-set now t b ∙ found.size;
  exact = λ u less. elim (cases_eq u t) [
    | inl same ↦ subst (λ (v : ℕ). has (set now t b) v ≡ is_open net (has members) v) (sym same) (get_or-set_same now t b false (omega (arith, found.size)) ∙ opens)
    | inr other ↦ get_or-set_other now t u b false other ∙ found.exact u (omega arith)
  ];
}

pub found_all : (net : Net) (members now : List Bool) (t : ℕ) → net.transitions ≤ t → AreFound net members now t → AreOpen net members now
found_all net members now t past found = record { size = found.size; exact = λ u below. found.exact u (omega arith) }
