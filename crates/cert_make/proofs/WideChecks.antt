-- Whether the named rows are narrow is decided, row by row and column by column; else there is a first wide check.
use Rattle.std.proofs.Common.{◌⊎◌, ℕ, zero, suc, ◌^◌, ◌<◌, ◌≤◌, List, Bool, IsTrue, length, subst, inl, inr, arith}
use Rattle.std.proofs.lemmas.Bool.{cases_Bool, cases_lt, cases_eq, both_ways}
use Rattle.net_values.specs.Net.{Net}
use Rattle.incidence.specs.Matrix.{AreNarrow, gain_sum, loss_sum, incidence_of}
use Rattle.bounds.specs.Listed.{row_at}
use Rattle.cert_make.specs.BoundCertificates.{IsNarrow, IsFirstWide, AreNarrowFlows, IsFirstWideCheck}
use Rattle.cert_make.specs.Laws.{NarrowOrWide}

narrow_or_not : (net : Net) (y : ℕ → ℕ) (t : ℕ) → AreNarrow (incidence_of net) t y ⊎ (AreNarrow (incidence_of net) t y → ⊥)
narrow_or_not net y t =
    elim (cases_lt (gain_sum (incidence_of net) t y) (2 ^ 127)) [
      | inr wide ↦ inr (λ narrow. let small = narrow.gain in omega (arith, wide, small))
      | inl gain ↦ elim (cases_lt (loss_sum (incidence_of net) t y) (2 ^ 127)) [
        | inl loss ↦ inl record { gain = gain; loss = loss }
        | inr wide ↦ inr (λ narrow. let small = narrow.loss in omega (arith, wide, small))
      ]
    ]

columns_below : (net : Net) (y : ℕ → ℕ) (n : ℕ) → n ≤ net.transitions → ((t : ℕ) → t < n → AreNarrow (incidence_of net) t y) ⊎ ((column : ℕ) × IsFirstWide net y column)
columns_below net y zero within = inl (λ t below. absurd (omega arith))
columns_below net y (suc n) within =
    elim (columns_below net y n (omega arith)) [
      | inr wide ↦ inr wide
      | inl before ↦ elim (narrow_or_not net y n) [
        | inr wide ↦ inr (n, record { within = omega arith; wide = wide; before = before })
        | inl narrow ↦ inl (λ t below. elim (cases_eq n t) [
          | inl same ↦ subst (λ (u : ℕ). AreNarrow (incidence_of net) u y) same narrow
          | inr other ↦ before t (omega arith)
        ])
      ]
    ]

module _ (net : Net) (rows : List (List ℕ)) (named : ℕ → Bool) where
  one_more : (n : ℕ) → AreNarrowFlows net rows named n → (IsTrue (named n) → IsNarrow net (row_at rows n)) → AreNarrowFlows net rows named (suc n)
  one_more n before last k below used =
      elim (cases_eq n k) [
        | inl same ↦ subst (λ (j : ℕ). IsTrue (named j) → IsNarrow net (row_at rows j)) same last used
        | inr other ↦ before k (omega arith) used
      ]

  rows_below : (n : ℕ) → n ≤ length rows → AreNarrowFlows net rows named n ⊎ ((row : ℕ) × (column : ℕ) × IsFirstWideCheck net rows named row column)
  rows_below zero within = inl (λ k below used. absurd (omega arith))
  rows_below (suc n) within =
      elim (rows_below n (omega arith)) [
        | inr wide ↦ inr wide
        | inl before ↦ elim (cases_Bool (named n)) [
          | inr unused ↦ inl (one_more n before (λ used. absurd (both_ways (named n) unused used)))
          | inl used ↦ elim (columns_below net (row_at rows n) net.transitions (omega arith)) [
            | inl narrow ↦ inl (one_more n before (λ _. narrow))
            | inr wide ↦ inr (n, wide.0, record { within = omega arith; used = used; wide = wide.1; before = before })
          ]
        ]
      ]

pub narrow_or_wide : (net : Net) (rows : List (List ℕ)) (named : ℕ → Bool) → NarrowOrWide net rows named
narrow_or_wide net rows named = rows_below net rows named (length rows) (omega arith)
