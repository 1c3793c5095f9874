-- The flows of the named rows: each is that of its row, and a named row's flow occurs at the row's number.
use Rattle.std.proofs.Common.{◌≡◌, refl, sym, ap, ◌∙◌, subst, ℕ, zero, suc, ◌+◌, ◌<◌, ℤ, Bool, false, IsTrue, cond, List, [], ◌∷◌, ◌++◌, length, length-append, get_or, add-one, inl, inr, All, arith}
use Rattle.std.proofs.lemmas.Bool.{cases_Bool, cases_eq}
use Rattle.std.proofs.lemmas.List.{get_or_append_left, get_or_push}
use Rattle.std.proofs.lemmas.List.Elements.{All-push}
use Rattle.cert_make.specs.BoundCertificates.{flow_at, flows_below}

module _ (rows : List (List ℕ)) (named : ℕ → Bool) where
  pub flows_more : (n : ℕ) → IsTrue (named n) → flows_below rows named (n + 1) ≡ flows_below rows named n ++ flow_at rows n ∷ []
  flows_more n last =
      subst (λ (m : ℕ). flows_below rows named m ≡ flows_below rows named n ++ flow_at rows n ∷ []) (sym (add-one n))
      (ap (λ b. cond b (flows_below rows named n ++ flow_at rows n ∷ []) (flows_below rows named n)) last)

  pub flows_less : (n : ℕ) → named n ≡ false → flows_below rows named (n + 1) ≡ flows_below rows named n
  flows_less n out =
      subst (λ (m : ℕ). flows_below rows named m ≡ flows_below rows named n) (sym (add-one n))
      (ap (λ b. cond b (flows_below rows named n ++ flow_at rows n ∷ []) (flows_below rows named n)) out)

  pub each_flow : (P : List (ℕ × ℤ) → Type 0) (n : ℕ) → ((k : ℕ) → k < n → IsTrue (named k) → P (flow_at rows k)) → All P (flows_below rows named n)
  each_flow P zero each = λ k d within. absurd (omega arith)
  each_flow P (suc n) each =
      elim (cases_Bool (named n)) [
        | inl last ↦ rw last (All-push P (flows_below rows named n) (flow_at rows n) (each_flow P n (λ k below. each k (omega arith))) (each n (omega arith) last))
        | inr out ↦ rw out (each_flow P n (λ k below. each k (omega arith)))
      ]

  -- the flow of row k occurs among those of the first n rows
  abbrev pub OccursAmong : ℕ → ℕ → Type 0
  OccursAmong n k =
      (length (flows_below rows named k) < length (flows_below rows named n))
      × (get_or (flows_below rows named n) (length (flows_below rows named k)) [] ≡ flow_at rows k)

  abbrev InList : List (List (ℕ × ℤ)) → ℕ → Type 0
  InList flows k = (length (flows_below rows named k) < length flows) × (get_or flows (length (flows_below rows named k)) [] ≡ flow_at rows k)

  in_longer : (flows : List (List (ℕ × ℤ))) (last : List (ℕ × ℤ)) (k : ℕ) → InList flows k → InList (flows ++ last ∷ []) k
  in_longer flows last k there =
      let more = length-append flows (last ∷ []) in
      let less = there.0 in
      (omega (arith, more, less), get_or_append_left flows (last ∷ []) [] (length (flows_below rows named k)) less ∙ there.1)

  at_end : (n : ℕ) → InList (flows_below rows named n ++ flow_at rows n ∷ []) n
  at_end n =
      let more = length-append (flows_below rows named n) (flow_at rows n ∷ []) in
      (omega (arith, more), get_or_push (flows_below rows named n) (flow_at rows n) [] (length (flows_below rows named n)) refl)

  pub flow_found : (n k : ℕ) → k < n → IsTrue (named k) → OccursAmong n k
  flow_found zero k below used = absurd (omega arith)
  flow_found (suc n) k below used =
      elim (cases_eq k n) [
        | inl same ↦
            let last : IsTrue (named n) = subst (λ (j : ℕ). IsTrue (named j)) same used in
            subst (λ (flows : List (List (ℕ × ℤ))). InList flows k) (sym (ap (λ b. cond b (flows_below rows named n ++ flow_at rows n ∷ []) (flows_below rows named n)) last))
            (subst (λ (j : ℕ). InList (flows_below rows named n ++ flow_at rows n ∷ []) j) (sym same) (at_end n))
        | inr other ↦
            let before = flow_found n k (omega arith) used in
            elim (cases_Bool (named n)) [
              | inl last ↦
                  subst (λ (flows : List (List (ℕ × ℤ))). InList flows k) (sym (ap (λ b. cond b (flows_below rows named n ++ flow_at rows n ∷ []) (flows_below rows named n)) last))
                  (in_longer (flows_below rows named n) (flow_at rows n) k before)
              | inr out ↦
                  subst (λ (flows : List (List (ℕ × ℤ))). InList flows k) (sym (ap (λ b. cond b (flows_below rows named n ++ flow_at rows n ∷ []) (flows_below rows named n)) out)) before
            ]
      ]
