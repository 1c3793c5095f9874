-- The arcs to a transition, or from it, as the list of its places with their weights: the weights are read
-- off the list, and there is exactly one place where the list has one entry.
use Rattle.std.proofs.Common.{◌≡◌, refl, ap, ◌∙◌, sym, subst, ℕ, zero, suc, ◌<◌, ◌≤◌, List, [], ◌∷◌, length, get_or, All, inl, inr, arith}
use Rattle.std.proofs.lemmas.Bool.{cases_lt}
use Rattle.net_values.specs.declared.column.WeightedPlace.{WeightedPlace}
use Rattle.net_values.specs.Columns.{Lists}
use Rattle.net_class.specs.Classes.{HasOne}

pub entry_weighs : (n : ℕ) (w : ℕ → ℕ) (entries : List WeightedPlace) (k : ℕ) (d : WeightedPlace) → k < length entries → Lists n w entries → 0 < w (get_or entries k d).place
entry_weighs n w entries k d below h = omega (arith, h.sound k d below, h.column.positive k d below)

pub units_from_all : (n : ℕ) (w : ℕ → ℕ) (entries : List WeightedPlace) → Lists n w entries → All (λ entry. entry.weight ≤ 1) entries → (p : ℕ) → w p ≤ 1
units_from_all n w entries h all p =
    elim (cases_lt 0 (w p)) [
      | inl positive ↦
          let entry = h.complete p positive in
          let place : (get_or entries entry.0 entry.1).place ≡ p = ap (λ (e : WeightedPlace). e.place) entry.3 ∙ entry.4 in
          subst (λ q. w q ≤ 1) place (omega (arith, h.sound entry.0 entry.1 entry.2, all entry.0 entry.1 entry.2))
      | inr none ↦ omega arith
    ]

pub all_units : (n : ℕ) (w : ℕ → ℕ) (entries : List WeightedPlace) → Lists n w entries → ((p : ℕ) → p < n → w p ≤ 1) → All (λ entry. entry.weight ≤ 1) entries
all_units n w entries h units k d below =
    omega (arith, h.sound k d below, units (get_or entries k d).place (h.within k d below))

only_entry : (entry : WeightedPlace) (k : ℕ) (d : WeightedPlace) → k < 1 → get_or (entry ∷ []) k d ≡ entry
only_entry entry zero d below = refl
only_entry entry (suc k) d below = absurd (omega arith)

pub one_from_length : (n : ℕ) (w : ℕ → ℕ) (entries : List WeightedPlace) → Lists n w entries → length entries ≡ 1 → HasOne n (λ p. 0 < w p)
one_from_length n w [] h size = absurd (omega arith)
one_from_length n w (entry ∷ []) h size = record {
  one = entry.place;
  below = h.within 0 entry (omega arith);
  holds = entry_weighs n w (entry ∷ []) 0 entry (omega arith) h;
  only = λ p below positive.
      let at = h.complete p positive in
      sym at.4 ∙ ap (λ (e : WeightedPlace). e.place) (sym at.3 ∙ only_entry entry at.0 at.1 at.2);
}
one_from_length n w (entry ∷ other ∷ entries) h size = absurd (omega arith)

pub length_from_one : (n : ℕ) (w : ℕ → ℕ) (entries : List WeightedPlace) → Lists n w entries → HasOne n (λ p. 0 < w p) → length entries ≡ 1
length_from_one n w [] h one = let at = h.complete one.one one.holds in absurd (omega (arith, at.2))
length_from_one n w (entry ∷ []) h one = refl
length_from_one n w (entry ∷ other ∷ entries) h one =
    let first = one.only entry.place (h.within 0 entry (omega arith)) (entry_weighs n w (entry ∷ other ∷ entries) 0 entry (omega arith) h) in
    let second = one.only other.place (h.within 1 entry (omega arith)) (entry_weighs n w (entry ∷ other ∷ entries) 1 entry (omega arith) h) in
    let before : entry.place < other.place = h.column.ascending 0 1 entry (omega arith) (omega arith) in
    absurd (omega arith)

-- where each listed place has a positive weight in another column, so has each place with an arc
pub weighs_there : (n : ℕ) (w : ℕ → ℕ) (there : ℕ → ℕ) (entries : List WeightedPlace) → Lists n w entries → All (λ entry. 0 < there entry.place) entries → (p : ℕ) → 0 < w p → 0 < there p
weighs_there n w there entries h all p positive =
    let entry = h.complete p positive in
    let place : (get_or entries entry.0 entry.1).place ≡ p = ap (λ (e : WeightedPlace). e.place) entry.3 ∙ entry.4 in
    subst (λ q. 0 < there q) place (all entry.0 entry.1 entry.2)
