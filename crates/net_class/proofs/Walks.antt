-- A walk that keeps the owners of the places. A transition none of whose places has an owner becomes their
-- owner, and the others keep theirs; a transition that is like the owner of one of its places is covered by
-- the owners that the owner's places have. So in the end all transitions that share a place are like its
-- owner.
use Rattle.std.proofs.Common.{◌≡◌, refl, sym, ap, ◌∙◌, subst, ℕ, ◌+◌, ◌<◌, ◌==◌, ◌↔◌, List, Bool, true, false, IsTrue, MatchBool, MatchOption, Option, None, Some, is_some, cond, length, get_or, All, inl, inr, arith}
use Rattle.std.specs.List.{list_any}
use Rattle.std.proofs.lemmas.Bool.{cases_lt, cases_eq, cases_Bool, eqb-true, cond-true, cond-false, true≢false, false≢true}
use Rattle.std.proofs.lemmas.List.{get_or_past}
use Rattle.std.proofs.lemmas.List.Folds.{Any-from_list_any}
use Rattle.std.proofs.lemmas.List.Elements.{All-from_get_or}
use Rattle.net_values.specs.declared.column.WeightedPlace.{WeightedPlace}
use Rattle.net_values.specs.Columns.{Lists}
use Rattle.net_values.specs.Net.{Net}
use Rattle.closed_sets.specs.Commoner.{IsOrdinary}
use Rattle.closed_sets.proofs.Passes.{listed_weighs, weighs_listed}
use Rattle.net_class.specs.Classes.{OneTransitionEach, HaveSameInputs, IsFreeChoice}
use Rattle.net_class.specs.Owners.{owner_at, NoneIsOwned, IsOwned, AreOwners, HasTwoTransitions, HasUnlike}
use Rattle.net_class.proofs.Arcs.{entry_weighs}

some_same : (a b : ℕ) → Some a ≡ Some b → a ≡ b
some_same a b same = cc

none_some : (o : Option ℕ) (a : ℕ) → o ≡ None → o ≡ Some a → ⊥
none_some o a none some = cc

some_is : (P : Type 0) (Q : ℕ → Type 0) (o : Option ℕ) → MatchOption o P Q → is_some o ≡ true → (owner : ℕ) × Q owner
some_is P Q None match' some = absurd (true≢false (sym some))
some_is P Q (Some owner) match' some = (owner, match')

none_is : (P : Type 0) (Q : ℕ → Type 0) (o : Option ℕ) → MatchOption o P Q → is_some o ≡ false → P
none_is P Q None match' none = match'
none_is P Q (Some owner) match' none = absurd (true≢false none)

-- whether the place is one of the entries'
abbrev has_place : List WeightedPlace → ℕ → Bool
has_place entries p = list_any (λ entry. entry.place == p) entries

same_inputs_on : (net : Net) (t u v : ℕ) → HaveSameInputs net t u → HaveSameInputs net u v → HaveSameInputs net t v
same_inputs_on net t u v first then p below =
    (λ weighs. (then p below).0 ((first p below).0 weighs), λ weighs. (first p below).1 ((then p below).1 weighs))

pub same_inputs_on_itself : (net : Net) (t : ℕ) → HaveSameInputs net t t
same_inputs_on_itself net t p below = (λ weighs. weighs, λ weighs. weighs)

-- no place has an owner at first
pub none_owned : (net : Net) (w : ℕ → ℕ → ℕ) (Alike : ℕ → ℕ → Type 0) (owners : List (Option ℕ)) → All (λ owner. owner ≡ None) owners → AreOwners net w Alike 0 owners
none_owned net w Alike owners none = record {
  joined = λ p owner same. elim (cases_lt p (length owners)) [
    | inl within ↦ absurd (none_some _ owner (none p None within) same)
    | inr past ↦ absurd (none_some _ owner (get_or_past owners p None past) same)
  ];
  covers = λ p t inside below weighs. absurd (omega arith);
}

-- a place of the entries has no owner
listed_none : (entries : List WeightedPlace) (owners : List (Option ℕ)) (p : ℕ) → NoneIsOwned entries owners → IsTrue (has_place entries p) → owner_at owners p ≡ None
listed_none entries owners p none listed =
    let at = Any-from_list_any (λ entry. entry.place == p) entries listed in
    let place : (get_or entries at.0 at.1).place ≡ p = ap (λ (entry : WeightedPlace). entry.place) at.3 ∙ eqb-true at.1.place p at.4 in
    subst (λ q. owner_at owners q ≡ None) place (none at.0 at.1 at.2)

-- transition t becomes the owner of its places
pub owns : (net : Net) (w : ℕ → ℕ → ℕ) (Alike : ℕ → ℕ → Type 0) (t : ℕ) (entries : List WeightedPlace) (old new : List (Option ℕ)) → AreOwners net w Alike t old → Lists net.places (λ p. w p t) entries → NoneIsOwned entries old → ((p : ℕ) → owner_at new p ≡ cond (has_place entries p) (Some t) (owner_at old p)) → Alike t t → AreOwners net w Alike (t + 1) new
owns net w Alike t entries old new before h none left alike = record {
  joined = λ p owner same. elim (cases_Bool (has_place entries p)) [
    | inl listed ↦
        let is : owner ≡ t = some_same owner t (sym same ∙ left p ∙ cond-true (has_place entries p) _ _ listed) in
        (omega arith, subst (λ u. 0 < w p u) (sym is) (listed_weighs net.places (λ q. w q t) entries p h listed))
    | inr unlisted ↦
        let kept = before.joined p owner (sym (left p ∙ cond-false (has_place entries p) _ _ unlisted) ∙ same) in
        (omega (arith, kept.0), kept.1)
  ];
  covers = λ p u inside below weighs. elim (cases_eq u t) [
    | inl same ↦
        let listed = weighs_listed net.places (λ q. w q t) entries p h (subst (λ v. 0 < w p v) same weighs) in
        (t, left p ∙ cond-true (has_place entries p) _ _ listed, subst (λ v. Alike v t) (sym same) alike)
    | inr other ↦
        let covered = before.covers p u inside (omega arith) weighs in
        elim (cases_Bool (has_place entries p)) [
          | inl listed ↦ absurd (none_some _ covered.0 (listed_none entries old p none listed) covered.1)
          | inr unlisted ↦ (covered.0, left p ∙ cond-false (has_place entries p) _ _ unlisted ∙ covered.1, covered.2)
        ]
  ];
}

-- transition t has a place whose owner comes before it
pub record SharesPlace (net : Net) (w : ℕ → ℕ → ℕ) (t owner : ℕ) : Type 0 where
  pub place : ℕ
  pub below : place < net.places
  pub earlier : owner < t
  pub with_owner : 0 < w place owner
  pub with_other : 0 < w place t

pub shares : (net : Net) (w : ℕ → ℕ → ℕ) (Alike : ℕ → ℕ → Type 0) (t owner : ℕ) (entries : List WeightedPlace) (owners : List (Option ℕ)) → AreOwners net w Alike t owners → Lists net.places (λ p. w p t) entries → IsOwned entries owners owner → SharesPlace net w t owner
shares net w Alike t owner entries owners before h owned =
    let place : (get_or entries owned.0 owned.1).place ≡ owned.1.place = ap (λ (entry : WeightedPlace). entry.place) owned.3 in
    let kept = before.joined owned.1.place owner owned.4 in
    record {
      place = owned.1.place;
      below = subst (λ p. p < net.places) place (h.within owned.0 owned.1 owned.2);
      earlier = kept.0;
      with_owner = kept.1;
      with_other = subst (λ p. 0 < w p t) place (entry_weighs net.places (λ p. w p t) entries owned.0 owned.1 owned.2 h);
    }

-- transition t has the same input places as an owner, or else the two are unlike
pub compared : (net : Net) (t owner : ℕ) (owners : List (Option ℕ)) (same : Bool) → t < net.transitions → AreOwners net net.pre (HaveSameInputs net) t owners → SharesPlace net net.pre t owner → IsTrue same ↔ HaveSameInputs net t owner → MatchBool same (AreOwners net net.pre (HaveSameInputs net) (t + 1) owners) (HasUnlike net)
compared net t owner owners true within before share exact =
    let alike = exact.0 refl in
    record {
      joined = λ p u is. let kept = before.joined p u is in (omega (arith, kept.0), kept.1);
      covers = λ p u inside below weighs. elim (cases_eq u t) [
        | inl is ↦
            let covered = before.covers p owner inside share.earlier ((alike p inside).0 (subst (λ v. 0 < net.pre p v) is weighs)) in
            (covered.0, covered.1, subst (λ v. HaveSameInputs net v covered.0) (sym is) (same_inputs_on net t owner covered.0 alike covered.2))
        | inr other ↦ before.covers p u inside (omega arith) weighs
      ];
    }
compared net t owner owners false within before share exact = record {
  first = t;
  second = owner;
  first_within = within;
  second_within = omega (arith, share.earlier);
  shared = (share.place, share.below, share.with_other, share.with_owner);
  unlike = λ alike. false≢true (exact.1 alike);
}

-- where an owner was found, and where none was
pub found : (entries : List WeightedPlace) (owners : List (Option ℕ)) (o : Option ℕ) → MatchOption o (NoneIsOwned entries owners) (IsOwned entries owners) → is_some o ≡ true → (owner : ℕ) × IsOwned entries owners owner
found entries owners o = some_is (NoneIsOwned entries owners) (IsOwned entries owners) o

pub not_found : (entries : List WeightedPlace) (owners : List (Option ℕ)) (o : Option ℕ) → MatchOption o (NoneIsOwned entries owners) (IsOwned entries owners) → is_some o ≡ false → NoneIsOwned entries owners
not_found entries owners o = none_is (NoneIsOwned entries owners) (IsOwned entries owners) o

-- two transitions of a place aren't one
pub not_one_each : (net : Net) (w : ℕ → ℕ → ℕ) → HasTwoTransitions net w → OneTransitionEach net w → ⊥
not_one_each net w two each =
    let one = each two.place two.below in
    let first = one.only two.first (omega (arith, two.before, two.within)) two.with_first in
    let second = one.only two.second two.within two.with_second in
    omega (arith, two.before)

-- a place of two transitions
pub two_transitions : (net : Net) (w : ℕ → ℕ → ℕ) (t owner : ℕ) → t < net.transitions → SharesPlace net w t owner → HasTwoTransitions net w
two_transitions net w t owner within share = record {
  place = share.place;
  first = owner;
  second = t;
  below = share.below;
  before = share.earlier;
  within = within;
  with_first = share.with_owner;
  with_second = share.with_other;
}

some_owner : (o : Option ℕ) → IsTrue (is_some o) → (owner : ℕ) × (o ≡ Some owner)
some_owner None some = absurd (true≢false (sym some))
some_owner (Some owner) some = (owner, refl)

-- each place that has an owner has it only
one_each : (net : Net) (w : ℕ → ℕ → ℕ) (owners : List (Option ℕ)) → AreOwners net w (λ t u. t ≡ u) net.transitions owners → ((p : ℕ) → p < net.places → IsTrue (is_some (owner_at owners p))) → OneTransitionEach net w
one_each net w owners walked owned p below =
    let owner = some_owner (owner_at owners p) (owned p below) in
    let kept = walked.joined p owner.0 owner.1 in
    record {
      one = owner.0;
      below = kept.0;
      holds = kept.1;
      only = λ t within weighs.
          let covered = walked.covers p t below within weighs in
          covered.2 ∙ some_same covered.0 owner.0 (sym covered.1 ∙ owner.1);
    }

all_owned : (net : Net) (w : ℕ → ℕ → ℕ) (owners : List (Option ℕ)) → AreOwners net w (λ t u. t ≡ u) net.transitions owners → OneTransitionEach net w → (p : ℕ) → p < net.places → IsTrue (is_some (owner_at owners p))
all_owned net w owners walked each p below =
    let one = each p below in
    let covered = walked.covers p one.one below one.below one.holds in
    ap is_some covered.1

-- whether all places have owners
pub owned_each : (net : Net) (w : ℕ → ℕ → ℕ) (owners : List (Option ℕ)) (all : Bool) → length owners ≡ net.places → AreOwners net w (λ t u. t ≡ u) net.transitions owners → IsTrue all ↔ All (λ owner. IsTrue (is_some owner)) owners → IsTrue all ↔ OneTransitionEach net w
owned_each net w owners all size walked exact = (
  λ holds. one_each net w owners walked (λ p below. exact.0 holds p None (omega arith)),
  λ each. exact.1 (All-from_get_or (λ owner. IsTrue (is_some owner)) owners None (λ p below. all_owned net w owners walked each p (omega arith))),
)

-- where all transitions that share an input place are like its owner, they are alike
pub free_choice : (net : Net) (owners : List (Option ℕ)) → IsOrdinary net → AreOwners net net.pre (HaveSameInputs net) net.transitions owners → IsFreeChoice net
free_choice net owners ordinary walked = record {
  ordinary = ordinary;
  shared = λ t u first second share.
      let p = share.0 in
      let left = walked.covers p t share.1 first share.2 in
      let right = walked.covers p u share.1 second share.3 in
      let same : right.0 ≡ left.0 = some_same right.0 left.0 (sym right.1 ∙ left.1) in
      λ q below.
      let there = left.2 q below in
      let back = subst (λ v. (0 < net.pre q u) ↔ (0 < net.pre q v)) same (right.2 q below) in
      (λ weighs. back.1 (there.0 weighs), λ weighs. there.1 (back.0 weighs));
}

pub not_free : (net : Net) → HasUnlike net → IsFreeChoice net → ⊥
not_free net unlike free =
    unlike.unlike (free.shared unlike.first unlike.second unlike.first_within unlike.second_within unlike.shared)
