-- The bounds of the places that a walk has passed: where the entry is 0, what was kept stays.
use Rattle.std.proofs.Common.{◌≡◌, refl, sym, ap, ◌∙◌, subst, ℕ, ◌+◌, ◌/◌, ◌<◌, ◌≤◌, cond, List, Option, None, length, length-set, slice_index, set, inl, inr, arith}
use Rattle.std.proofs.lemmas.Bool.{cases_eq, cases_lt, eq-eqb}
use Rattle.std.proofs.lemmas.List.{get_or-set_same, get_or-set_other}
use Rattle.net_values.specs.Vectors.{AreZerosFrom, IsFirstPositive, WalkValue}
use Rattle.bounds.specs.declared.place_bound.PlaceBound.{PlaceBound}
use Rattle.bounds.specs.Listed.{kept_at, smaller_of, tightened}

pub record AreTightened (old new : List (Option PlaceBound)) (entries : List ℕ) (tokens row from : ℕ) : Type 0 where
  pub size : length new ≡ length old
  pub before : (p : ℕ) → p < from → kept_at new p ≡ tightened (kept_at old p) (slice_index entries p) tokens row
  pub after : (p : ℕ) → from ≤ p → kept_at new p ≡ kept_at old p

-- an entry of 0 gives no bound
passed_over : (kept : Option PlaceBound) (entry tokens row : ℕ) → entry ≡ 0 → kept ≡ tightened kept entry tokens row
passed_over kept entry tokens row none = sym (ap (λ b. cond b kept (smaller_of kept record { bound = tokens / entry; row = row })) (eq-eqb entry 0 none))

pub none_tightened : (old : List (Option PlaceBound)) (entries : List ℕ) (tokens row : ℕ) → AreTightened old old entries tokens row 0
none_tightened old entries tokens row = record {
  size = refl;
  before = λ p under. absurd (omega arith);
  after = λ p late. refl;
}

module _ (old now : List (Option PlaceBound)) (entries : List ℕ) (tokens row : ℕ) (walk : WalkValue) (same : walk.entries ≡ entries) (h : AreTightened old now entries tokens row walk.from) where
  pub one_tightened : (p entry next : ℕ) (new : List (Option PlaceBound)) (kept : Option PlaceBound) → IsFirstPositive walk.entries walk.from p entry → next ≡ p + 1 → p < length now → new ≡ set now p kept → kept ≡ tightened (kept_at now p) entry tokens row → AreTightened old new entries tokens row next
  one_tightened p entry next new kept found to under is told =
      let first = subst (λ (es : List ℕ). IsFirstPositive es walk.from p entry) same found in
      let order = first.zeros.order in
      let elsewhere : (q : ℕ) → (q ≡ p → ⊥) → kept_at (set now p kept) q ≡ kept_at now q = λ q other. get_or-set_other now p q kept None other in
      subst (λ (n : ℕ). AreTightened old new entries tokens row n) (sym to) (subst (λ (l : List (Option PlaceBound)). AreTightened old l entries tokens row (p + 1)) (sym is) record {
        size = length-set now p kept ∙ h.size;
        before = λ q below. elim (cases_eq q p) [
          | inl here ↦
              subst (λ (k : ℕ). kept_at (set now p kept) k ≡ tightened (kept_at old k) (slice_index entries k) tokens row) (sym here)
              (get_or-set_same now p kept None under ∙ told ∙ ap (λ (k : Option PlaceBound). tightened k entry tokens row) (h.after p order) ∙ ap (λ (e : ℕ). tightened (kept_at old p) e tokens row) first.here)
          | inr other ↦ elsewhere q other ∙ elim (cases_lt q walk.from) [
            | inl early ↦ h.before q early
            | inr late ↦ h.after q late ∙ passed_over (kept_at old q) (slice_index entries q) tokens row (first.zeros.zeros q late (omega arith))
          ]
        ];
        after = λ q late. elsewhere q (λ here. omega (arith, here)) ∙ h.after q (omega arith);
      })

  pub all_tightened : AreZerosFrom walk.entries walk.from → (p : ℕ) → kept_at now p ≡ tightened (kept_at old p) (slice_index entries p) tokens row
  all_tightened zeros p = elim (cases_lt p walk.from) [
    | inl early ↦ h.before p early
    | inr late ↦ h.after p late ∙ passed_over (kept_at old p) (slice_index entries p) tokens row (subst (λ (es : List ℕ). slice_index es p ≡ 0) same (zeros p late))
  ]
