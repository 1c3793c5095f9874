-- A place is needed in a set where it is the only input place in it of a transition that gives to a needed one: a nonempty
-- siphon in the set has the needed place, and so an input place of the transition. Where all places of a nonempty siphon
-- are needed it has no smaller one.
use Rattle.std.proofs.Common.{◌≡◌, refl, sym, ap, ◌∙◌, subst, ℕ, ◌+◌, ◌-◌, ◌<◌, ◌≤◌, ◌∷◌, ◌++◌, [], List, Bool, true, false, not, ◌↔◌, IsTrue, MatchBool, length, set, cond, get_or, inl, inr, Contains, length-set, arith, Option, None, Some}
use Rattle.std.specs.Prelude.{MatchOption}
use Rattle.std.proofs.lemmas.Bool.{both_ways, cases_eq, cases_Bool, not-true, not_from_false}
use Rattle.std.proofs.lemmas.List.{get_or-set_other, get_or_default, length_push}
use Rattle.std.proofs.lemmas.List.Elements.{Contains-push_cases}
use Rattle.std.proofs.lemmas.List.Sums.{sum_by-set, count_by-le-length}
use Rattle.net_values.specs.declared.column.WeightedPlace.{WeightedPlace}
use Rattle.net_values.specs.Columns.{Lists}
use Rattle.net_values.specs.Net.{Net}
use Rattle.net_values.specs.PlaceSets.{has, IsEmpty}
use Rattle.net_values.proofs.TokenCounts.{nowhere}
use Rattle.closed_sets.specs.ClosedSets.{IsSiphon, IsNonempty, IsMinimalSiphon, HasSiphonWithout}
use Rattle.closed_sets.specs.LoneInputs.{IsLoneInput}
use Rattle.closed_sets.specs.Needed.{AreNeeded, IsNeeded, NeedsMore}
use Rattle.closed_sets.specs.Passes.{members}
use Rattle.closed_sets.proofs.Below.{pair_at, pair_from}
use Rattle.closed_sets.specs.declared.guard.Guard.TheVariants.{Nothing}
use Rattle.closed_sets.specs.Falling.{LosesGuarded, Settles}
use Rattle.closed_sets.proofs.Falling.{has_below, never_loses}
use Rattle.closed_sets.proofs.SmallerSiphons.{minimal_from, without_exact}

pub needs_none : (net : Net) (s needed : List Bool) (l : List ℕ) → AreNeeded net s needed → ((q : ℕ) → Contains l q → IsNeeded net s q) → NeedsMore net s needed needed l l
needs_none net s needed l all listed = record {
  size = refl;
  kept = λ q there. there;
  all = all;
  listed = listed;
  count = refl;
}

pub needs_on : (net : Net) (s a b c : List Bool) (l m n : List ℕ) → NeedsMore net s a b l m → NeedsMore net s b c m n → NeedsMore net s a c l n
needs_on net s a b c l m n first then = record {
  size = then.size ∙ first.size;
  kept = λ q there. then.kept q (first.kept q there);
  all = then.all;
  listed = then.listed;
  count = let one = first.count in let other = then.count in omega arith;
}

one_more : (s : List Bool) (p : ℕ) → p < length s → has s p ≡ false → members (set s p true) ≡ members s + 1
one_more s p below out =
    let counted : members (set s p true) + cond {A = ℕ} (has s p) 1 0 ≡ members s + 1 = sum_by-set (λ (b : Bool). cond b 1 0) s p true false below in
    let none : cond {A = ℕ} (has s p) 1 0 ≡ 0 = ap (λ (b : Bool). cond {A = ℕ} b 1 0) out in
    omega arith

pub marks_one : (net : Net) (s needed : List Bool) (l : List ℕ) (p : ℕ) → p < length needed → has needed p ≡ false → IsNeeded net s p → AreNeeded net s needed → ((q : ℕ) → Contains l q → IsNeeded net s q) → NeedsMore net s needed (set needed p true) l (l ++ p ∷ [])
marks_one net s needed l p below out here all listed = record {
  size = length-set needed p true;
  kept = λ q there. elim (cases_eq q p) [
    | inl same ↦ absurd (both_ways (has needed q) (ap (has needed) same ∙ out) there)
    | inr other ↦ get_or-set_other needed p q true false other ∙ there
  ];
  all = λ q there. elim (cases_eq q p) [
    | inl same ↦ subst (IsNeeded net s) (sym same) here
    | inr other ↦ all q (sym (get_or-set_other needed p q true false other) ∙ there)
  ];
  listed = λ q there. elim (Contains-push_cases l p q there) [
    | inl before ↦ listed q before
    | inr same ↦ subst (λ (r : ℕ). IsNeeded net s r) same here
  ];
  count = let more = one_more needed p below out in let longer = length_push l p in omega arith;
}

-- the list has room for one more where a place isn't marked
pub room_more : (needed : List Bool) (l : List ℕ) (p : ℕ) → p < length needed → has needed p ≡ false → length l ≤ members needed → length l < length needed
room_more needed l p below out few =
    let more = one_more needed p below out in
    let most : members (set needed p true) ≤ length (set needed p true) = count_by-le-length (λ (b : Bool). b) (set needed p true) in
    let same : length (set needed p true) ≡ length needed = length-set needed p true in
    omega arith

pub few_after : (net : Net) (s old new : List Bool) (l m : List ℕ) → NeedsMore net s old new l m → length l ≤ members old → length m ≤ members new
few_after net s old new l m more few = let count = more.count in omega arith

pub fewer_left : (net : Net) (s old new : List Bool) (l m : List ℕ) → NeedsMore net s old new l m → length m + (length new - members new) < length l + 1 + (length old - members old)
fewer_left net s old new l m more =
    let most : members new ≤ length new = count_by-le-length (λ (b : Bool). b) new in
    let before : members old ≤ length old = count_by-le-length (λ (b : Bool). b) old in
    let size = more.size in
    let count = more.count in
    omega arith

pub lone_needed : (net : Net) (s : List Bool) (t p r : ℕ) → length s ≡ net.places → t < net.transitions → r < net.places → 0 < net.post r t → IsLoneInput net s t p → IsNeeded net s r → IsNeeded net s p
lone_needed net s t p r size here below gives lone needed = record {
  member = lone.member;
  none = λ smaller.
      let R = smaller.0 in
      elim (cases_Bool (R r)) [
        | inr lacks ↦ needed.none (R, smaller.1, smaller.2, smaller.3, not_from_false (R r) lacks)
        | inl has_it ↦
            let takes = pair_from net.places R (λ q. net.pre q t) (smaller.1 t here (pair_at net.places R (λ q. net.post q t) r below has_it gives)) in
            let same : takes.0 ≡ p = lone.only takes.0 takes.1 (smaller.3 takes.0 takes.1 takes.2) takes.3 in
            both_ways (R p) (not-true (R p) smaller.4) (subst (λ (q : ℕ). IsTrue (R q)) same takes.2)
      ];
}

pub lone_same : (net : Net) (s : List Bool) (t p q : ℕ) → length s ≡ net.places → IsLoneInput net s t p → IsLoneInput net s t q → p ≡ q
lone_same net s t p q size one other = other.only p (let below = has_below s p one.member in omega arith) one.member one.takes

pub needed_all : (net : Net) (s : List Bool) → IsSiphon net (has s) → IsNonempty net (has s) → ((p : ℕ) → IsTrue (has s p) → IsNeeded net s p) → IsMinimalSiphon net (has s)
needed_all net s siphon some all = minimal_from net (has s) siphon some (λ p below member. (all p member).none)

-- the one place of the entries before i that is in the set
pub record HasOnly (s : List Bool) (entries : List WeightedPlace) (i q : ℕ) : Type 0 where
  pub at : ℕ
  pub below : at < i
  pub place : (get_or entries at nowhere).place ≡ q
  pub member : IsTrue (has s q)
  pub only : (k : ℕ) → k < i → IsTrue (has s (get_or entries k nowhere).place) → (get_or entries k nowhere).place ≡ q

-- the entries before i have none of their places in the set, or only the one
abbrev pub HasLone : List Bool → List WeightedPlace → ℕ → Option ℕ → Type 0
HasLone s entries i lone = MatchOption lone ((k : ℕ) → k < i → has s (get_or entries k nowhere).place ≡ false) (HasOnly s entries i)

pub lone_skip : (s : List Bool) (entries : List WeightedPlace) (i : ℕ) (lone : Option ℕ) → has s (get_or entries i nowhere).place ≡ false → HasLone s entries i lone → HasLone s entries (i + 1) lone
lone_skip s entries i None out before = λ k below. elim (cases_eq k i) [
  | inl same ↦ ap (λ (j : ℕ). has s (get_or entries j nowhere).place) same ∙ out
  | inr other ↦ before k (omega arith)
]
lone_skip s entries i (Some q) out before = record {
  at = before.at;
  below = let less = before.below in omega arith;
  place = before.place;
  member = before.member;
  only = λ k below member. elim (cases_eq k i) [
    | inl same ↦ absurd (both_ways _ out (subst (λ (j : ℕ). IsTrue (has s (get_or entries j nowhere).place)) same member))
    | inr other ↦ before.only k (omega arith) member
  ];
}

pub lone_first : (s : List Bool) (entries : List WeightedPlace) (i : ℕ) → IsTrue (has s (get_or entries i nowhere).place) → HasLone s entries i None → HasLone s entries (i + 1) (Some (get_or entries i nowhere).place)
lone_first s entries i member before = record {
  at = i;
  below = omega arith;
  place = refl;
  member = member;
  only = λ k below inside. elim (cases_eq k i) [
    | inl same ↦ ap (λ (j : ℕ). (get_or entries j nowhere).place) same
    | inr other ↦ absurd (both_ways _ (before k (omega arith)) inside)
  ];
}

module _ (net : Net) (s : List Bool) (t : ℕ) (entries : List WeightedPlace) (listed : Lists net.places (λ p. net.pre p t) entries) where
  weighs : (k : ℕ) → k < length entries → 0 < net.pre (get_or entries k nowhere).place t
  weighs k within = let weight = listed.sound k nowhere within in let positive = listed.column.positive k nowhere within in omega arith

  is_lone : (k p : ℕ) → k < length entries → IsTrue (has s (get_or entries k nowhere).place) → IsLoneInput net s t p → (get_or entries k nowhere).place ≡ p
  is_lone k p within member lone = lone.only (get_or entries k nowhere).place (listed.within k nowhere within) member (weighs k within)

  pub lone_not : (i q p : ℕ) → i < length entries → HasOnly s entries i q → IsTrue (has s (get_or entries i nowhere).place) → IsLoneInput net s t p → ⊥
  lone_not i q p within before member lone =
      let inside : before.at < length entries = let less = before.below in omega arith in
      let one : (get_or entries before.at nowhere).place ≡ p = is_lone before.at p inside (subst (λ (r : ℕ). IsTrue (has s r)) (sym before.place) before.member) lone in
      let other : (get_or entries i nowhere).place ≡ p = is_lone i p within member lone in
      let less = listed.column.ascending before.at i nowhere before.below within in
      omega arith

  pub lone_none : (i p : ℕ) → length entries ≤ i → ((k : ℕ) → k < i → has s (get_or entries k nowhere).place ≡ false) → IsLoneInput net s t p → ⊥
  lone_none i p past none lone =
      let entry = listed.complete p lone.takes in
      let there : (get_or entries entry.0 nowhere).place ≡ p = ap (λ (e : WeightedPlace). e.place) (get_or_default entries entry.0 nowhere entry.1 entry.2 ∙ entry.3) ∙ entry.4 in
      both_ways _ (none entry.0 (let within = entry.2 in omega arith)) (subst (λ (q : ℕ). IsTrue (has s q)) (sym there) lone.member)

  pub lone_only : (i q : ℕ) → length entries ≤ i → i ≤ length entries → HasOnly s entries i q → IsLoneInput net s t q
  lone_only i q past most before = record {
    member = before.member;
    takes = subst (λ (r : ℕ). 0 < net.pre r t) before.place (weighs before.at (let less = before.below in omega arith));
    only = λ r below member takes.
        let entry = listed.complete r takes in
        let there : (get_or entries entry.0 nowhere).place ≡ r = ap (λ (e : WeightedPlace). e.place) (get_or_default entries entry.0 nowhere entry.1 entry.2 ∙ entry.3) ∙ entry.4 in
        sym there ∙ before.only entry.0 (let within = entry.2 in omega arith) (subst (λ (p : ℕ). IsTrue (has s p)) (sym there) member);
  }

  pub lone_decided : (lone : Option ℕ) (i : ℕ) → length entries ≤ i → i ≤ length entries → HasLone s entries i lone → MatchOption lone ((p : ℕ) → IsLoneInput net s t p → ⊥) (IsLoneInput net s t)
  lone_decided None i past most before = λ p lone. lone_none i p past before lone
  lone_decided (Some q) i past most before = lone_only i q past most before

-- what is left of a siphon without a place, where nothing is guarded
pub lowest_decides : (net : Net) (s copy left : List Bool) (p : ℕ) (answer empty : Bool) → copy ≡ s → length s ≡ net.places → p < net.places → MatchBool answer (Settles net Nothing (set copy p false) left) (LosesGuarded net Nothing (set copy p false)) → IsTrue empty ↔ IsEmpty left → IsTrue (not empty) ↔ HasSiphonWithout net (has s) p
lowest_decides net s copy left p answer empty same size below is decides =
    let settles : Settles net Nothing (set s p false) left = subst (λ (l : List Bool). Settles net Nothing (set l p false) left) same (never_loses {P = Settles net Nothing (set copy p false) left} net (set copy p false) answer is) in
    without_exact net s p size below left empty (settles.size ∙ length-set s p false ∙ size) settles.greatest decides
