-- The lowest place with a property that only places of a column have. The entries ascend, so the first
-- entry whose place has the property occurs at the lowest one, and where no entry does no place does.
use Rattle.std.proofs.Common.{◌≡◌, sym, ap, ◌∙◌, subst, ℕ, ◌<◌, List, length, get_or, inl, inr, arith}
use Rattle.std.proofs.lemmas.Bool.{cases_lt, cases_eq}
use Rattle.std.proofs.lemmas.List.{get_or_default}
use Rattle.net_values.specs.declared.column.WeightedPlace.{WeightedPlace}
use Rattle.net_values.specs.Columns.{Lists}
use Rattle.net_values.specs.Net.{Net}
use Rattle.net_values.specs.TokenGame.{IsLowest}

module _ (net : Net) (weights : ℕ → ℕ) (entries : List WeightedPlace) (h : Lists net.places weights entries) where
  pub none_at_all : (Property : ℕ → Type 0) (needs : (p : ℕ) → Property p → 0 < weights p) → ((i : ℕ) (e : WeightedPlace) → i < length entries → Property (get_or entries i e).place → ⊥) → (q : ℕ) → Property q → ⊥
  none_at_all Property needs none q has =
      let at = h.complete q (needs q has) in
      let same : (get_or entries at.0 at.1).place ≡ q = ap (λ (x : WeightedPlace). x.place) at.3 ∙ at.4 in
      none at.0 at.1 at.2 (subst Property (sym same) has)

  pub lowest_first : (Property : ℕ → Type 0) (needs : (p : ℕ) → Property p → 0 < weights p) → (k : ℕ) (d : WeightedPlace) → k < length entries → ((i : ℕ) (e : WeightedPlace) → i < k → Property (get_or entries i e).place → ⊥) → Property (get_or entries k d).place → IsLowest net Property (get_or entries k d).place
  lowest_first Property needs k d within none has = record {
    within = h.within k d within;
    holds = has;
    lowest = λ q below other.
        let at = h.complete q (needs q other) in
        let same : (get_or entries at.0 at.1).place ≡ q = ap (λ (x : WeightedPlace). x.place) at.3 ∙ at.4 in
        let here : (get_or entries k at.1).place ≡ (get_or entries k d).place = ap (λ (x : WeightedPlace). x.place) (get_or_default entries k at.1 d within) in
        elim (cases_lt at.0 k) [
          | inl earlier ↦ none at.0 at.1 earlier (subst Property (sym same) other)
          | inr later ↦ elim (cases_eq at.0 k) [
            | inl equal ↦ let place : (get_or entries at.0 at.1).place ≡ (get_or entries k at.1).place = ap (λ (i : ℕ). (get_or entries i at.1).place) equal in omega arith
            | inr apart ↦ let up = h.column.ascending k at.0 at.1 (omega arith) at.2 in omega arith
          ]
        ];
  }

  -- a positive weight is at a place of the net
  pub listed_within : (p : ℕ) → 0 < weights p → p < net.places
  listed_within p some =
      let at = h.complete p some in
      let place : (get_or entries at.0 at.1).place ≡ p = ap (λ (x : WeightedPlace). x.place) at.3 ∙ at.4 in
      let here = h.within at.0 at.1 at.2 in
      omega arith
