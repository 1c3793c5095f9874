-- The terms of a row below the position that a walk has come to: places with a 0 give none.
use Rattle.std.proofs.Common.{◌≡◌, sym, ap, ◌∙◌, subst, ℕ, zero, suc, ◌+◌, ◌<◌, ◌≤◌, ℤ, pos, List, [], ◌∷◌, ◌++◌, length, slice_index, add-one, inl, inr, arith}
use Rattle.std.proofs.lemmas.Bool.{cases_eq}
use Rattle.net_values.specs.Vectors.{AreZerosFrom, IsFirstPositive, WalkValue}
use Rattle.cert_make.specs.BoundCertificates.{terms_below}
use Rattle.cert_make.proofs.Terms.{terms_less, terms_more}

terms_gap : (y : ℕ → ℕ) (from to : ℕ) → from ≤ to → ((p : ℕ) → from ≤ p → p < to → y p ≡ 0) → terms_below to y ≡ terms_below from y
terms_gap y from zero order zeros = ap (λ (n : ℕ). terms_below n y) (let same : 0 ≡ from = omega arith in same)
terms_gap y from (suc to) order zeros =
    elim (cases_eq from (suc to)) [
      | inl same ↦ ap (λ (n : ℕ). terms_below n y) (sym same)
      | inr other ↦
          ap (λ (n : ℕ). terms_below n y) (sym (add-one to)) ∙ terms_less y to (zeros to (omega arith) (omega arith))
          ∙ terms_gap y from to (omega arith) (λ p late under. zeros p late (omega arith))
    ]

module _ (row : List ℕ) (walk : WalkValue) (same : walk.entries ≡ row) where
  pub terms_passed : (p entry next : ℕ) → IsFirstPositive walk.entries walk.from p entry → next ≡ p + 1 → terms_below next (slice_index row) ≡ terms_below walk.from (slice_index row) ++ (p, pos entry) ∷ []
  terms_passed p entry next found to =
      let first = subst (λ (es : List ℕ). IsFirstPositive es walk.from p entry) same found in
      let some : 0 < slice_index row p = let here = first.here in let positive = first.positive in omega arith in
      ap (λ (n : ℕ). terms_below n (slice_index row)) to ∙ terms_more (slice_index row) p some
      ∙ ap (λ (terms : List (ℕ × ℤ)). terms ++ (p, pos (slice_index row p)) ∷ []) (terms_gap (slice_index row) walk.from p first.zeros.order first.zeros.zeros)
      ∙ ap (λ (e : ℕ). terms_below walk.from (slice_index row) ++ (p, pos e) ∷ []) (sym first.here)

  pub terms_all : walk.from ≤ length row → AreZerosFrom walk.entries walk.from → terms_below walk.from (slice_index row) ≡ terms_below (length row) (slice_index row)
  terms_all within zeros =
      sym (terms_gap (slice_index row) walk.from (length row) within (λ p late under. subst (λ (es : List ℕ). slice_index es p ≡ 0) same (zeros p late)))
