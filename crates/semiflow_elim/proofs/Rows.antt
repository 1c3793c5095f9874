-- A list of rows that is a basis has exactly the semiflows of minimal support as its members, each once.
use Rattle.std.proofs.Common.{◌≡◌, refl, sym, ap, ◌∙◌, subst, ℕ, suc, ◌<◌, List, [], ◌∷◌, length, get_or, slice_index, inl, inr, arith}
use Rattle.std.proofs.lemmas.Bool.{cases_lt, cases_order}
use Rattle.std.proofs.lemmas.List.{get_or_default, get_or_past}
use Rattle.incidence.specs.Matrix.{Matrix}
use Rattle.incidence.specs.Semiflow.{IsWithin, IsSemiflow, IsCoprime}
use Rattle.semiflow_elim.specs.Bases.{IsBasis, AreMinimal}
use Rattle.semiflow_elim.proofs.Minimal.{IsFlat, row_minimal, minimal_row}

-- lists of one length with the same entries are equal
pub same_lists : (xs ys : List ℕ) → length xs ≡ length ys → ((i : ℕ) → i < length xs → slice_index xs i ≡ slice_index ys i) → xs ≡ ys
same_lists [] [] size each = refl
same_lists [] (y ∷ ys) size each = absurd (omega arith)
same_lists (x ∷ xs) [] size each = absurd (omega arith)
same_lists (x ∷ xs) (y ∷ ys) size each =
    let first : x ≡ y = each 0 (omega arith) in
    let rest = same_lists xs ys (omega arith) (λ i under. each (suc i) (omega arith)) in
    ap (λ z. z ∷ xs) first ∙ ap (λ zs. y ∷ zs) rest

-- the members of a list, as functions
pub record IsRow (rows : List (List ℕ)) (r : ℕ → ℕ) : Type 0 where
  pub at : ℕ
  pub default : List ℕ
  pub within : at < length rows
  pub same : r ≡ slice_index (get_or rows at default)

-- past its end a row is 0
long_within : (m : Matrix) (row other : List ℕ) → length row ≡ m.rows → ((i : ℕ) → i < m.rows → 0 < slice_index row i → 0 < slice_index other i) → (i : ℕ) → 0 < slice_index row i → 0 < slice_index other i
long_within m row other size each i some =
    elim (cases_lt i m.rows) [
      | inl under ↦ each i under some
      | inr past ↦ let none = get_or_past row i 0 (omega arith) in absurd (omega arith)
    ]

-- two rows of a basis at different places are apart
flat_rows : (m : Matrix) (K : ℕ → Type 0) (rows : List (List ℕ)) → IsBasis m K rows → (p q : ℕ → ℕ) → IsRow rows p → IsRow rows q → IsWithin m p q → IsWithin m q p
flat_rows m K rows h p q p_row q_row within =
    let d : List ℕ = q_row.default in
    let p_is : p ≡ slice_index (get_or rows p_row.at d) = p_row.same ∙ ap slice_index (get_or_default rows p_row.at p_row.default d p_row.within) in
    let inside : (i : ℕ) → 0 < slice_index (get_or rows p_row.at d) i → 0 < slice_index (get_or rows q_row.at d) i =
    λ i some. long_within m (get_or rows p_row.at d) (get_or rows q_row.at d) (h.size p_row.at d p_row.within)
    (λ k under positive. subst (λ (f : ℕ → ℕ). 0 < f k) q_row.same (within k under (subst (λ (f : ℕ → ℕ). 0 < f k) (sym p_is) positive))) i some
    in
    elim (cases_order p_row.at q_row.at) [
      | inl equal ↦ λ i under positive. subst (λ (f : ℕ → ℕ). 0 < f i) (q_row.same ∙ ap (λ (k : ℕ). slice_index (get_or rows k d)) (sym equal) ∙ sym p_is) positive
      | inr apart ↦ elim apart [
        | inl before ↦ absurd ((h.apart p_row.at q_row.at d before q_row.within).forth inside)
        | inr beyond ↦ absurd ((h.apart q_row.at p_row.at d beyond p_row.within).back inside)
      ]
    ]

pub basis_flat : (m : Matrix) (K : ℕ → Type 0) (rows : List (List ℕ)) → IsBasis m K rows → IsFlat m K (IsRow rows)
basis_flat m K rows h = record {
  covers = record {
    sound = λ r row. subst (IsSemiflow m K) (sym row.same) (h.semiflow row.at row.default row.within);
    below = λ y flow.
        let found = h.below y flow in
        (slice_index found.1, record { at = found.0; default = found.1; within = found.2; same = ap slice_index (sym found.3) }, found.4);
  };
  coprime = λ r row. subst (IsCoprime m) (sym row.same) (h.coprime row.at row.default row.within);
  flat = λ p q p_row q_row within. flat_rows m K rows h p q p_row q_row within;
}

pub basis_minimal : (m : Matrix) (K : ℕ → Type 0) (rows : List (List ℕ)) → IsBasis m K rows → AreMinimal m K rows
basis_minimal m K rows h = record {
  members = λ x. (
    λ here. record {
      size = ap length (sym here.2) ∙ h.size here.0 x here.1;
      minimal = row_minimal m K (IsRow rows) (basis_flat m K rows h) (slice_index x) record { at = here.0; default = x; within = here.1; same = ap slice_index (sym here.2) };
    },
    λ minimal.
        let found = minimal_row m K (IsRow rows) (basis_flat m K rows h) (slice_index x) minimal.minimal in
        let row = found.1 in
        let size = h.size row.at row.default row.within in
        let other = minimal.size in
        let default = get_or_default rows row.at x row.default row.within in
        (row.at, row.within, default ∙ same_lists (get_or rows row.at row.default) x (size ∙ sym other) (λ i under. ap (λ (f : ℕ → ℕ). f i) (sym row.same) ∙ found.2 i (omega arith))),
  );
  once = λ i j d before within equal. (h.apart i j d before within).forth (λ k some. subst (λ (row : List ℕ). 0 < slice_index row k) equal some);
}
