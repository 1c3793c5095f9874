-- What the entries of a transition tell of a set, what loses no siphon, and that a set without an open
-- transition is a siphon.
use Rattle.std.proofs.Common.{◌≡◌, ap, ◌∙◌, subst, ℕ, ◌<◌, ◌==◌, ◌&&◌, List, Bool, false, IsTrue, get_or, not, ltb, inl, inr, arith}
use Rattle.std.specs.List.{list_any}
use Rattle.std.proofs.lemmas.Bool.{eq-eqb, eqb-true, and_from, and_parts, both_ways, cases_Bool, not-true, not_from_false}
use Rattle.std.proofs.lemmas.List.Folds.{Any-from_list_any, list_any-from_Any}
use Rattle.net_values.specs.declared.column.WeightedPlace.{WeightedPlace}
use Rattle.net_values.specs.Columns.{Lists}
use Rattle.net_values.specs.Net.{Net}
use Rattle.closed_sets.specs.ClosedSets.{any_below, has_input_in, has_output_in, IsSiphon}
use Rattle.closed_sets.specs.Growth.{is_open}
use Rattle.closed_sets.specs.Passes.{Shrinks}
use Rattle.closed_sets.proofs.Below.{same_bools, pair_at, pair_from}

-- whether an entry's place is in the set, read off the matrix
pub meets_is : (n : ℕ) (w : ℕ → ℕ) (entries : List WeightedPlace) (S : ℕ → Bool) → Lists n w entries → list_any (λ entry. S entry.place) entries ≡ any_below n (λ p. S p && ltb 0 (w p))
meets_is n w entries S h =
    same_bools _ _
    (λ some.
    let at = Any-from_list_any (λ entry. S entry.place) entries some in
    let here : get_or entries at.0 at.1 ≡ at.1 = at.3 in
    let place : ℕ = (get_or entries at.0 at.1).place in
    let member : IsTrue (S place) = ap (λ (entry : WeightedPlace). S entry.place) here ∙ at.4 in
    pair_at n S w place (h.within at.0 at.1 at.2) member (omega (arith, h.sound at.0 at.1 at.2, h.column.positive at.0 at.1 at.2)))
    (λ some.
    let at = pair_from n S w some in
    let entry = h.complete at.0 at.3 in
    list_any-from_Any (λ entry. S entry.place) entries (entry.0, entry.1, entry.2, entry.3, ap S entry.4 ∙ at.2))

-- a place of an entry has a positive weight
pub listed_weighs : (n : ℕ) (w : ℕ → ℕ) (entries : List WeightedPlace) (p : ℕ) → Lists n w entries → IsTrue (list_any (λ entry. entry.place == p) entries) → 0 < w p
listed_weighs n w entries p h listed =
    let at = Any-from_list_any (λ entry. entry.place == p) entries listed in
    let place : at.1.place ≡ p = eqb-true at.1.place p at.4 in
    let there : (get_or entries at.0 at.1).place ≡ at.1.place = ap (λ (entry : WeightedPlace). entry.place) at.3 in
    let positive : 0 < w (get_or entries at.0 at.1).place = omega (arith, h.sound at.0 at.1 at.2, h.column.positive at.0 at.1 at.2) in
    subst (λ q. 0 < w q) (there ∙ place) positive

pub weighs_listed : (n : ℕ) (w : ℕ → ℕ) (entries : List WeightedPlace) (p : ℕ) → Lists n w entries → 0 < w p → IsTrue (list_any (λ entry. entry.place == p) entries)
weighs_listed n w entries p h positive =
    let entry = h.complete p positive in
    list_any-from_Any (λ entry. entry.place == p) entries (entry.0, entry.1, entry.2, entry.3, eq-eqb _ p entry.4)

pub shrinks_not : (net : Net) (S : ℕ → Bool) → Shrinks net S S
shrinks_not net S = record { within = λ p below member. member; keeps = λ R siphon within. within }

pub shrinks_on : (net : Net) (S R U : ℕ → Bool) → Shrinks net S R → Shrinks net R U → Shrinks net S U
shrinks_on net S R U first then = record {
  within = λ p below member. first.within p below (then.within p below member);
  keeps = λ Q siphon within. then.keeps Q siphon (first.keeps Q siphon within);
}

-- where no transition is open the set is a siphon
pub siphon_from_closed : (net : Net) (S : ℕ → Bool) → ((t : ℕ) → t < net.transitions → is_open net S t ≡ false) → IsSiphon net S
siphon_from_closed net S closed t below gives =
    elim (cases_Bool (has_input_in net S t)) [
      | inl takes ↦ takes
      | inr none ↦ absurd (both_ways _ (closed t below) (and_from _ (not (has_input_in net S t)) gives (not_from_false _ none)))
    ]

-- a siphon has no open transition
pub closed_from_siphon : (net : Net) (S : ℕ → Bool) → IsSiphon net S → (t : ℕ) → t < net.transitions → is_open net S t ≡ false
closed_from_siphon net S siphon t below =
    elim (cases_Bool (is_open net S t)) [
      | inl opens ↦ absurd (both_ways _ (not-true _ (and_parts (has_output_in net S t) _ opens).1) (siphon t below (and_parts (has_output_in net S t) _ opens).0))
      | inr none ↦ none
    ]
