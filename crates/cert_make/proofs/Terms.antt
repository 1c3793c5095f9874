-- A row as a flow: its terms ascend, its vector is the row, and where the row is a semiflow with narrow sums all
-- that a flow line asks holds.
use Rattle.std.proofs.Common.{◌≡◌, refl, sym, ap, ◌∙◌, subst, ℕ, zero, suc, ◌+◌, ◌^◌, ◌<◌, ◌≤◌, ℤ, pos, cond, eqb, List, [], ◌∷◌, ◌++◌, length, slice_index, add-one, inl, inr, All, AllPairs, arith}
use Rattle.std.proofs.lemmas.Bool.{cases_eq, cases_lt, eq-eqb, ne_eqb, lt-ltb, le-ltb}
use Rattle.std.proofs.lemmas.List.{get_or_past}
use Rattle.std.proofs.lemmas.List.Elements.{All-push}
use Rattle.std.proofs.lemmas.List.Quantifiers.{all_pairs_push}
use Rattle.net_values.specs.Net.{Net}
use Rattle.net_values.specs.Vectors.{IsVector, positive_part}
use Rattle.net_values.specs.declared.limits.TheConstants.{MAX_PLACES}
use Rattle.incidence.specs.Invariance.{weighted_tokens}
use Rattle.incidence.specs.Matrix.{AreNarrow, gain_sum, loss_sum, incidence_of}
use Rattle.incidence.specs.Semiflow.{IsSemiflow, all_columns}
use Rattle.certificates.specs.Conditions.{vector_of, FlowHolds}
use Rattle.certificates.specs.WellFormed.{IsNumberFrom, IsFlow}
use Rattle.cert_make.specs.BoundCertificates.{terms_below, IsNarrow}

-- another term at the end
append_other : (xs : List (ℕ × ℤ)) (n p : ℕ) (v : ℤ) → (n ≡ p → ⊥) → vector_of (xs ++ (n, v) ∷ []) p ≡ vector_of xs p
append_other [] n p v other = ap (λ b. cond {A = ℕ} b (positive_part v) 0) (ne_eqb n p other)
append_other (x ∷ xs) n p v other = ap (λ (k : ℕ). cond (eqb x.0 p) (positive_part x.1) k) (append_other xs n p v other)

append_here : (xs : List (ℕ × ℤ)) (n : ℕ) (v : ℤ) → All (λ term. term.0 < n) xs → vector_of (xs ++ (n, v) ∷ []) n ≡ positive_part v
append_here [] n v below = ap (λ b. cond {A = ℕ} b (positive_part v) 0) (eq-eqb n n refl)
append_here (x ∷ xs) n v below =
    let less : x.0 < n = below 0 x (omega arith) in
    ap (λ b. cond {A = ℕ} b (positive_part x.1) (vector_of (xs ++ (n, v) ∷ []) n)) (ne_eqb x.0 n (λ same. omega arith))
    ∙ append_here xs n v (λ k d within. below (suc k) d (omega arith))

module _ (y : ℕ → ℕ) where
  pub terms_more : (n : ℕ) → 0 < y n → terms_below (n + 1) y ≡ terms_below n y ++ (n, pos (y n)) ∷ []
  terms_more n some =
      subst (λ (m : ℕ). terms_below m y ≡ terms_below n y ++ (n, pos (y n)) ∷ []) (sym (add-one n))
      (ap (λ b. cond b (terms_below n y ++ (n, pos (y n)) ∷ []) (terms_below n y)) (lt-ltb 0 (y n) some))

  pub terms_less : (n : ℕ) → y n ≡ 0 → terms_below (n + 1) y ≡ terms_below n y
  terms_less n none =
      subst (λ (m : ℕ). terms_below m y ≡ terms_below n y) (sym (add-one n))
      (ap (λ b. cond b (terms_below n y ++ (n, pos (y n)) ∷ []) (terms_below n y)) (le-ltb 0 (y n) (omega arith)))

  terms_places : (n : ℕ) → All (λ term. term.0 < n) (terms_below n y)
  terms_places zero = λ k d within. absurd (omega arith)
  terms_places (suc n) =
      let before : All (λ term. term.0 < suc n) (terms_below n y) = λ k d within. let at = terms_places n k d within in omega (arith, at) in
      elim (cases_lt 0 (y n)) [
        | inl some ↦ let test = lt-ltb 0 (y n) some in rw test (All-push (λ term. term.0 < suc n) (terms_below n y) (n, pos (y n)) before (omega arith))
        | inr none ↦ let test = le-ltb 0 (y n) none in rw test before
      ]

  terms_numbers : ((p : ℕ) → y p < 2 ^ 127) → (n : ℕ) → All (λ term. IsNumberFrom 1 term.1) (terms_below n y)
  terms_numbers narrow zero = λ k d within. absurd (omega arith)
  terms_numbers narrow (suc n) =
      elim (cases_lt 0 (y n)) [
        | inl some ↦ let test = lt-ltb 0 (y n) some in rw test (All-push (λ term. IsNumberFrom 1 term.1) (terms_below n y) (n, pos (y n)) (terms_numbers narrow n) (omega arith, narrow n))
        | inr none ↦ let test = le-ltb 0 (y n) none in rw test (terms_numbers narrow n)
      ]

  terms_ascending : (n : ℕ) → AllPairs (λ one later. one.0 < later.0) (terms_below n y)
  terms_ascending zero = λ i j d less within. absurd (omega arith)
  terms_ascending (suc n) =
      elim (cases_lt 0 (y n)) [
        | inl some ↦ let test = lt-ltb 0 (y n) some in rw test (all_pairs_push (λ one later. one.0 < later.0) (terms_below n y) (n, pos (y n)) (terms_ascending n) (terms_places n))
        | inr none ↦ let test = le-ltb 0 (y n) none in rw test (terms_ascending n)
      ]

  vector_past : (n p : ℕ) → n ≤ p → vector_of (terms_below n y) p ≡ 0
  vector_past zero p past = refl
  vector_past (suc n) p past =
      elim (cases_lt 0 (y n)) [
        | inl some ↦ let test = lt-ltb 0 (y n) some in rw test (append_other (terms_below n y) n p (pos (y n)) (λ same. omega arith) ∙ vector_past n p (omega arith))
        | inr none ↦ let test = le-ltb 0 (y n) none in rw test (vector_past n p (omega arith))
      ]

  vector_here : (n p : ℕ) → p < n → vector_of (terms_below n y) p ≡ y p
  vector_here zero p below = absurd (omega arith)
  vector_here (suc n) p below =
      elim (cases_lt 0 (y n)) [
        | inl some ↦
            let test = lt-ltb 0 (y n) some in
            rw test (elim (cases_eq n p) [
              | inl same ↦ subst (λ (q : ℕ). vector_of (terms_below n y ++ (n, pos (y n)) ∷ []) q ≡ y q) same (append_here (terms_below n y) n (pos (y n)) (terms_places n))
              | inr other ↦ append_other (terms_below n y) n p (pos (y n)) other ∙ vector_here n p (omega arith)
            ])
        | inr none ↦
            let test = le-ltb 0 (y n) none in
            rw test (elim (cases_eq n p) [
              | inl same ↦ let nothing : y n ≡ 0 = omega arith in vector_past n p (omega arith) ∙ sym nothing ∙ ap y same
              | inr other ↦ vector_here n p (omega arith)
            ])
      ]

pub flow_vector : (row : List ℕ) (p : ℕ) → vector_of (terms_below (length row) (slice_index row)) p ≡ slice_index row p
flow_vector row p =
    elim (cases_lt p (length row)) [
      | inl below ↦ vector_here (slice_index row) (length row) p below
      | inr past ↦ vector_past (slice_index row) (length row) p past ∙ sym (get_or_past row p 0 past)
    ]

flow_some : (flow : List (ℕ × ℤ)) (p : ℕ) → 0 < vector_of flow p → 1 ≤ length flow
flow_some [] p some = absurd (omega (arith, some))
flow_some (term ∷ terms) p some = omega arith

-- an entry that is past the end is 0
entry_narrow : (row : List ℕ) → IsVector row → (p : ℕ) → slice_index row p < 2 ^ 127
entry_narrow row vector p =
    elim (cases_lt p (length row)) [
      | inl below ↦ vector.narrow p 0 below
      | inr past ↦ let nothing = get_or_past row p 0 past in omega (arith, nothing)
    ]

module _ (net : Net) (row : List ℕ) (size : length row ≡ net.places) (semiflow : IsSemiflow (incidence_of net) all_columns (slice_index row)) where
  pub row_flow : IsVector row → net.places ≤ MAX_PLACES → IsFlow (terms_below (length row) (slice_index row))
  row_flow vector limit =
      let some = semiflow.nonzero in
      record {
        some = flow_some (terms_below (length row) (slice_index row)) some.0 (subst (λ (n : ℕ). 0 < n) (sym (flow_vector row some.0)) some.2);
        ascending = terms_ascending (slice_index row) (length row);
        places = λ k d within. let at = terms_places (slice_index row) (length row) k d within in omega (arith, at, size, limit);
        coefficients = terms_numbers (slice_index row) (entry_narrow row vector) (length row);
      }

  pub row_holds : IsNarrow net (slice_index row) → weighted_tokens net (slice_index row) net.initial < 2 ^ 127 → FlowHolds net (terms_below (length row) (slice_index row))
  row_holds narrow tokens =
      let same : (p : ℕ) → slice_index row p ≡ vector_of (terms_below (length row) (slice_index row)) p = λ p. sym (flow_vector row p) in
      record {
        places = λ k d within. let at = terms_places (slice_index row) (length row) k d within in omega (arith, at, size);
        balanced = λ t below. subst (λ (y : ℕ → ℕ). gain_sum (incidence_of net) t y ≡ loss_sum (incidence_of net) t y) (λ i p. same p i) (semiflow.balanced t below tt);
        narrow = λ t below. subst (λ (y : ℕ → ℕ). AreNarrow (incidence_of net) t y) (λ i p. same p i) (narrow t below);
        tokens = subst (λ (y : ℕ → ℕ). weighted_tokens net y net.initial < 2 ^ 127) (λ i p. same p i) tokens;
      }
