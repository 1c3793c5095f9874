-- The positions of the positive entries below the one that a walk has come to: between two of them no entry is positive.
use Rattle.std.proofs.Common.{◌≡◌, sym, ap, ◌∙◌, subst, ℕ, zero, suc, ◌<◌, ◌≤◌, Bool, true, false, List, [], ◌∷◌, ◌++◌, cond, ltb, length, get_or, add-one, append-nil, inl, inr, arith}
use Rattle.std.proofs.lemmas.Bool.{cases_eq, lt-ltb, le-ltb}
use Rattle.net_values.specs.Vectors.{AreZerosFrom, IsFirstPositive, WalkValue}
use Rattle.report.specs.Texts.{passing}
use Rattle.report.proofs.Pieces.{passing_step}

passing_gap : (test : ℕ → Bool) (from to : ℕ) → from ≤ to → ((p : ℕ) → from ≤ p → p < to → test p ≡ false) → passing test to ≡ passing test from
passing_gap test from zero order none = ap (passing test) (let same : 0 ≡ from = omega arith in same)
passing_gap test from (suc to) order none =
    elim (cases_eq from (suc to)) [
      | inl same ↦ ap (passing test) (sym same)
      | inr other ↦
          ap (passing test) (sym (add-one to)) ∙ passing_step test to
          ∙ ap (λ (b : Bool). passing test to ++ cond b (to ∷ []) []) (none to (omega arith) (omega arith)) ∙ append-nil (passing test to)
          ∙ passing_gap test from to (omega arith) (λ p late under. none p late (omega arith))
    ]

module _ (row : List ℕ) (walk : WalkValue) (same : walk.entries ≡ row) where
  abbrev is_positive : ℕ → Bool
  is_positive k = ltb 0 (get_or row k 0)

  none_at : (p : ℕ) → get_or row p 0 ≡ 0 → is_positive p ≡ false
  none_at p none = le-ltb 0 (get_or row p 0) (omega arith)

  pub passing_before : (p entry : ℕ) → IsFirstPositive walk.entries walk.from p entry → passing (λ k. ltb 0 (get_or row k 0)) walk.from ≡ passing (λ k. ltb 0 (get_or row k 0)) p
  passing_before p entry found =
      let first = subst (λ (es : List ℕ). IsFirstPositive es walk.from p entry) same found in
      sym (passing_gap is_positive walk.from p first.zeros.order (λ q late under. none_at q (first.zeros.zeros q late under)))

  pub passes_here : (p entry : ℕ) → IsFirstPositive walk.entries walk.from p entry → (ltb 0 (get_or row p 0) ≡ true) × (entry ≡ get_or row p 0)
  passes_here p entry found =
      let first = subst (λ (es : List ℕ). IsFirstPositive es walk.from p entry) same found in
      (lt-ltb 0 (get_or row p 0) (let here = first.here in let some = first.positive in omega arith), first.here)

  pub passing_all : walk.from ≤ length row → AreZerosFrom walk.entries walk.from → passing (λ k. ltb 0 (get_or row k 0)) walk.from ≡ passing (λ k. ltb 0 (get_or row k 0)) (length row)
  passing_all within zeros =
      sym (passing_gap is_positive walk.from (length row) within (λ p late under. none_at p (subst (λ (es : List ℕ). get_or es p 0 ≡ 0) same (zeros p late))))
