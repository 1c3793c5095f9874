-- The combinatorial adjacency test: of the combinations of a positive and a negative row of a basis, those of
-- minimal support over one column more are the ones of adjacent rows, whose union has no third row in it. So the
-- zero rows and the combinations of the adjacent pairs are a basis over one column more. Below each semiflow
-- is one of them: where a third row spoils a pair, the pair's join has a smaller semiflow in it.
use Rattle.std.proofs.Common.{◌≡◌, ◌⊎◌, refl, sym, ap, ◌∙◌, subst, ℕ, zero, suc, ◌+◌, ◌*◌, ◌/◌, ◌<◌, ◌≤◌, List, [], length, slice_index, All, AllPairs, inl, inr, arith}
use Rattle.std.specs.Int.{◌∣◌}
use Rattle.std.proofs.lemmas.Bool.{cases_lt, cases_eq, cases_order}
use Rattle.std.proofs.lemmas.List.{get_or_default, get_or_past}
use Rattle.std.proofs.Math.Nat.{mul-div_cancel'}
use Rattle.support_prune.specs.Pools.{AreApart}
use Rattle.incidence.specs.Matrix.{Matrix, gain_sum, loss_sum, positive_at, negative_at}
use Rattle.incidence.specs.Semiflow.{IsWithin, IsSemiflow, IsCoprime, IsMinimal}
use Rattle.semiflow_elim.specs.Adjacent.{AloneBelow, AreAdjacent, IsZeroRow, IsJoinedRow}
use Rattle.semiflow_elim.specs.Bases.{IsBasis, IsMinimalRow, HasBelow, IsGood}
use Rattle.semiflow_elim.specs.Candidates.{IsCombined}
use Rattle.semiflow_elim.specs.Elimination.{IsPair, row_of, surplus, deficit}
use Rattle.semiflow_elim.proofs.Support.{support_size, size_lt}
use Rattle.semiflow_elim.proofs.Transport.{rows_below}
use Rattle.semiflow_elim.proofs.Minimal.{row_minimal}
use Rattle.semiflow_elim.proofs.Rows.{IsRow, basis_flat}
use Rattle.semiflow_elim.proofs.CandidateLemmas.{Extends, zero_semiflow, below_trans}
use Rattle.semiflow_elim.proofs.Pairs.{combined_good, quotient_positive, divisor_positive}
use Rattle.semiflow_elim.proofs.Joins.{IsJoin, HasSmaller, either_in, join_within, first_within, second_within, pair_join, third, minimal_alone, alone_minimal}

-- the support of a vector is in that of another, or it isn't
within_or_not : (n : ℕ) (t u : ℕ → ℕ) → ((i : ℕ) → i < n → 0 < t i → 0 < u i) ⊎ (((i : ℕ) → i < n → 0 < t i → 0 < u i) → ⊥)
within_or_not zero t u = inl (λ i under some. absurd (omega arith))
within_or_not (suc n) t u =
    elim (within_or_not n t u) [
      | inr not ↦ inr (λ all. not (λ i under some. all i (omega arith) some))
      | inl front ↦ elim (cases_lt 0 (u n)) [
        | inl here ↦ inl (λ i under some. elim (cases_lt i n) [
          | inl below ↦ front i below some
          | inr above ↦ let same : n ≡ i = omega arith in subst (λ (j : ℕ). 0 < u j) same here
        ])
        | inr none ↦ elim (cases_lt 0 (t n)) [
          | inl some ↦ inr (λ all. let here = all n (omega arith) some in absurd (omega arith))
          | inr nothing ↦ inl (λ i under some. elim (cases_lt i n) [
            | inl below ↦ front i below some
            | inr above ↦
                let same : i ≡ n = omega arith in
                let here : 0 < t n = subst (λ (j : ℕ). 0 < t j) same some in
                absurd (omega arith)
          ])
        ]
      ]
    ]

-- a third row in the union
pub record HasThird (m : Matrix) (rows : List (List ℕ)) (i k : ℕ) : Type 0 where
  pub at : ℕ
  pub inside : at < length rows
  pub within : IsWithin m (slice_index (row_of rows at)) (λ x. slice_index (row_of rows i) x + slice_index (row_of rows k) x)
  pub not_first : at ≡ i → ⊥
  pub not_second : at ≡ k → ⊥

module _ (m : Matrix) (rows : List (List ℕ)) (i k : ℕ) where
  -- one more row
  pub alone_more : (n : ℕ) → AloneBelow m rows i k n → (IsWithin m (slice_index (row_of rows n)) (λ x. slice_index (row_of rows i) x + slice_index (row_of rows k) x) → (n ≡ i) ⊎ (n ≡ k)) → AloneBelow m rows i k (suc n)
  alone_more n front last j under =
      elim (cases_lt j n) [
        | inl below ↦ front j below
        | inr above ↦
            let same : n ≡ j = omega arith in
            subst (λ (j : ℕ). IsWithin m (slice_index (row_of rows j)) (λ x. slice_index (row_of rows i) x + slice_index (row_of rows k) x) → (j ≡ i) ⊎ (j ≡ k)) same last
      ]

  alone_or_third : (n : ℕ) → n ≤ length rows → (AloneBelow m rows i k n) ⊎ (HasThird m rows i k)
  alone_or_third zero bound = inl (λ j under. absurd (omega arith))
  alone_or_third (suc n) bound =
      elim (alone_or_third n (omega arith)) [
        | inr found ↦ inr found
        | inl front ↦ elim (cases_eq n i) [
          | inl first ↦ inl (alone_more n front (λ within. inl first))
          | inr not_first ↦ elim (cases_eq n k) [
            | inl second ↦ inl (alone_more n front (λ within. inr second))
            | inr not_second ↦ elim (within_or_not m.rows (slice_index (row_of rows n)) (λ x. slice_index (row_of rows i) x + slice_index (row_of rows k) x)) [
              | inl within ↦ inr record { at = n; inside = omega arith; within = within; not_first = not_first; not_second = not_second }
              | inr not ↦ inl (alone_more n front (λ within. absurd (not within)))
            ]
          ]
        ]
      ]

  pub third_not_adjacent : HasThird m rows i k → AreAdjacent m rows i k → ⊥
  third_not_adjacent t adjacent =
      elim (adjacent t.at t.inside t.within) [
        | inl first ↦ t.not_first first
        | inr second ↦ t.not_second second
      ]

  pub adjacent_or_third : (AreAdjacent m rows i k) ⊎ (HasThird m rows i k)
  adjacent_or_third = alone_or_third (length rows) (omega arith)

module _ (m : Matrix) (K : ℕ → Type 0) (rows : List (List ℕ)) (basis : IsBasis m K rows) where
  pub row_at_minimal : (j : ℕ) → j < length rows → IsMinimal m K (slice_index (row_of rows j))
  row_at_minimal j under = row_minimal m K (IsRow rows) (basis_flat m K rows basis) (slice_index (row_of rows j)) record { at = j; default = []; within = under; same = refl }

  -- past its end a row is 0
  anywhere : (j i : ℕ) → j < length rows → IsWithin m (slice_index (row_of rows j)) (slice_index (row_of rows i)) → (x : ℕ) → 0 < slice_index (row_of rows j) x → 0 < slice_index (row_of rows i) x
  anywhere j i under within x some =
      elim (cases_lt x m.rows) [
        | inl inside ↦ within x inside some
        | inr past ↦
            let size = basis.size j [] under in
            let none = get_or_past (row_of rows j) x 0 (omega arith) in
            absurd (omega arith)
      ]

  -- a row whose support is in another row's is at its index
  pub one_place : (j i : ℕ) → j < length rows → i < length rows → IsWithin m (slice_index (row_of rows j)) (slice_index (row_of rows i)) → j ≡ i
  one_place j i first second within =
      elim (cases_order j i) [
        | inl same ↦ same
        | inr apart ↦ elim apart [
          | inl before ↦ absurd ((basis.apart j i [] before second).forth (anywhere j i first within))
          | inr following ↦ absurd ((basis.apart i j [] following first).back (anywhere j i first within))
        ]
      ]

  -- a row of the list, given as a function, by its place
  place_is : (r : ℕ → ℕ) (row : IsRow rows r) → r ≡ slice_index (row_of rows row.at)
  place_is r row = row.same ∙ ap slice_index (get_or_default rows row.at row.default [] row.within)

module _ (m : Matrix) (K K' : ℕ → Type 0) (c : ℕ) (rows : List (List ℕ)) (basis : IsBasis m K rows) (more : Extends K c K') where
  -- (B) at the places of the list: rows with a minimal join are adjacent
  pub minimal_adjacent : (i k : ℕ) (w : ℕ → ℕ) → i < length rows → k < length rows → IsPair m c (row_of rows i) (row_of rows k) → IsJoin m K' (slice_index (row_of rows i)) (slice_index (row_of rows k)) w → IsMinimal m K' w → AreAdjacent m rows i k
  minimal_adjacent i k w first second pair join minimal j under within =
      elim (minimal_alone m K K' c (slice_index (row_of rows i)) (slice_index (row_of rows k)) w (slice_index (row_of rows j)) more (basis.semiflow i [] first) (basis.semiflow k [] second) pair.positive pair.negative join minimal (row_at_minimal m K rows basis j under) within) [
        | inl in_first ↦ inl (one_place m K rows basis j i under first in_first)
        | inr in_second ↦ inr (one_place m K rows basis j k under second in_second)
      ]

  -- a third row leaves a smaller semiflow
  third_smaller : (i k : ℕ) (w : ℕ → ℕ) → i < length rows → k < length rows → IsPair m c (row_of rows i) (row_of rows k) → IsJoin m K' (slice_index (row_of rows i)) (slice_index (row_of rows k)) w → HasThird m rows i k → HasSmaller m K' w
  third_smaller i k w first second pair join t =
      elim (third m K K' c (slice_index (row_of rows i)) (slice_index (row_of rows k)) w (slice_index (row_of rows t.at)) more (basis.semiflow i [] first) (basis.semiflow k [] second) pair.positive pair.negative join (row_at_minimal m K rows basis t.at t.inside) t.within) [
        | inr smaller ↦ smaller
        | inl inside ↦ elim inside [
          | inl in_first ↦ absurd (t.not_first (one_place m K rows basis t.at i t.inside first in_first))
          | inr in_second ↦ absurd (t.not_second (one_place m K rows basis t.at k t.inside second in_second))
        ]
      ]

  -- (A) adjacent rows have a minimal join
  pub adjacent_minimal : (i k : ℕ) (w : ℕ → ℕ) → c < m.columns → i < length rows → k < length rows → IsPair m c (row_of rows i) (row_of rows k) → AreAdjacent m rows i k → IsJoin m K' (slice_index (row_of rows i)) (slice_index (row_of rows k)) w → IsCoprime m w → IsMinimal m K' w
  adjacent_minimal i k w column first second pair adjacent join coprime =
      let r : ℕ → ℕ = slice_index (row_of rows i) in
      let s : ℕ → ℕ = slice_index (row_of rows k) in
      alone_minimal m K K' c (IsRow rows) (basis_flat m K rows basis).covers more column r s w
      (row_at_minimal m K rows basis i first) (row_at_minimal m K rows basis k second) pair.positive pair.negative join
      (λ t row within.
      let is = place_is m K rows basis t row in
      elim (adjacent row.at row.within (subst (λ (t : ℕ → ℕ). IsWithin m t (λ x. r x + s x)) is within)) [
        | inl at_first ↦ inl (subst (λ (f : ℕ → ℕ). IsWithin m t f) (is ∙ ap (λ (j : ℕ). slice_index (row_of rows j)) at_first) (λ x under some. some))
        | inr at_second ↦ inr (subst (λ (f : ℕ → ℕ). IsWithin m t f) (is ∙ ap (λ (j : ℕ). slice_index (row_of rows j)) at_second) (λ x under some. some))
      ])
      coprime

  -- zero rows stay minimal
  pub zero_minimal : (i : ℕ) → i < length rows → gain_sum m c (slice_index (row_of rows i)) ≡ loss_sum m c (slice_index (row_of rows i)) → IsMinimal m K' (slice_index (row_of rows i))
  zero_minimal i under equal =
      let minimal = row_at_minimal m K rows basis i under in
      record {
        semiflow = zero_semiflow m K K' c (slice_index (row_of rows i)) more minimal.semiflow equal;
        coprime = minimal.coprime;
        least = λ z flow within. minimal.least z record { nonzero = flow.nonzero; balanced = λ j p k. flow.balanced j p (more.old j k) } within;
      }

  -- below a semiflow over one column more: the place of a zero row
  record ZeroPlace (y : ℕ → ℕ) : Type 0 where
    at : ℕ
    inside : at < length rows
    equal : gain_sum m c (slice_index (row_of rows at)) ≡ loss_sum m c (slice_index (row_of rows at))
    within : IsWithin m (slice_index (row_of rows at)) y

  -- or the places of a pair
  record PairPlaces (y : ℕ → ℕ) : Type 0 where
    first : ℕ
    second : ℕ
    first_inside : first < length rows
    second_inside : second < length rows
    pair : IsPair m c (row_of rows first) (row_of rows second)
    first_within : IsWithin m (slice_index (row_of rows first)) y
    second_within : IsWithin m (slice_index (row_of rows second)) y

  places_below : (y : ℕ → ℕ) → c < m.columns → IsSemiflow m K' y → (ZeroPlace y) ⊎ (PairPlaces y)
  places_below y column flow =
      let old : IsSemiflow m K y = record { nonzero = flow.nonzero; balanced = λ j p k. flow.balanced j p (more.old j k) } in
      elim (rows_below m K (IsRow rows) (basis_flat m K rows basis).covers (λ i. positive_at m i c) (λ i. negative_at m i c) y old (flow.balanced c column more.new)) [
        | inl zero_row ↦
            let is = place_is m K rows basis zero_row.0 zero_row.1 in
            inl record {
              at = zero_row.1.at;
              inside = zero_row.1.within;
              equal = subst (λ (r : ℕ → ℕ). gain_sum m c r ≡ loss_sum m c r) is zero_row.3;
              within = subst (λ (r : ℕ → ℕ). IsWithin m r y) is zero_row.2;
            }
        | inr signed ↦
            let up = signed.0 in
            let down = signed.1 in
            let up_is = place_is m K rows basis up.0 up.1 in
            let down_is = place_is m K rows basis down.0 down.1 in
            inr record {
              first = up.1.at;
              second = down.1.at;
              first_inside = up.1.within;
              second_inside = down.1.within;
              pair = record {
                positive = subst (λ (r : ℕ → ℕ). loss_sum m c r < gain_sum m c r) up_is up.3;
                negative = subst (λ (r : ℕ → ℕ). gain_sum m c r < loss_sum m c r) down_is down.3;
              };
              first_within = subst (λ (r : ℕ → ℕ). IsWithin m r y) up_is up.2;
              second_within = subst (λ (r : ℕ → ℕ). IsWithin m r y) down_is down.2;
            }
      ]

  -- each zero row and each adjacent pair has a row of the pool below it
  pub record AdjacentMet (pool : List (List ℕ)) : Type 0 where
    pub zeros : (i : ℕ) → i < length rows → gain_sum m c (slice_index (row_of rows i)) ≡ loss_sum m c (slice_index (row_of rows i)) → HasBelow m pool (slice_index (row_of rows i))
    pub pairs : (i k : ℕ) → i < length rows → k < length rows → IsPair m c (row_of rows i) (row_of rows k) → AreAdjacent m rows i k → HasBelow m pool (λ x. slice_index (row_of rows i) x + slice_index (row_of rows k) x)

  -- then each semiflow over one column more has one
  below_within : (pool : List (List ℕ)) → c < m.columns → AdjacentMet pool → (size : ℕ) (y : ℕ → ℕ) → IsSemiflow m K' y → support_size m.rows y < size → HasBelow m pool y
  below_within pool column met zero y flow small = absurd (omega arith)
  below_within pool column met (suc size) y flow small =
      elim (places_below y column flow) [
        | inl z ↦ below_trans m pool (slice_index (row_of rows z.at)) y (met.zeros z.at z.inside z.equal) z.within
        | inr p ↦
            let r : ℕ → ℕ = slice_index (row_of rows p.first) in
            let s : ℕ → ℕ = slice_index (row_of rows p.second) in
            let union : IsWithin m (λ x. r x + s x) y = λ x under some. either_in (r x) (s x) (y x) (p.first_within x under) (p.second_within x under) some in
            elim (adjacent_or_third m rows p.first p.second) [
              | inl adjacent ↦ below_trans m pool (λ x. r x + s x) y (met.pairs p.first p.second p.first_inside p.second_inside p.pair adjacent) union
              | inr t ↦
                  let made = pair_join m K K' c r s more (basis.semiflow p.first [] p.first_inside) (basis.semiflow p.second [] p.second_inside) p.pair.positive p.pair.negative in
                  let w = made.0 in
                  let inside : IsWithin m w y = λ x under some. union x under (join_within m K' r s w made.1 x under some) in
                  let d = third_smaller p.first p.second w p.first_inside p.second_inside p.pair made.1 t in
                  let rest_inside : IsWithin m d.rest y = λ x under some. inside x under (d.within x under some) in
                  let less = size_lt m.rows d.rest y d.at rest_inside d.below d.lacks (inside d.at d.below d.has) in
                  below_trans m pool d.rest y (below_within pool column met size d.rest d.semiflow (omega arith)) rest_inside
            ]
      ]

  -- a pool of good rows that are apart is a basis once it has a row below each zero row and each adjacent pair
  pub adjacent_basis : (pool : List (List ℕ)) → c < m.columns → All (IsGood m K') pool → AllPairs AreApart pool → AdjacentMet pool → IsBasis m K' pool
  adjacent_basis pool column good apart met = record {
    size = λ k d within. (good k d within).size;
    semiflow = λ k d within. (good k d within).semiflow;
    coprime = λ k d within. (good k d within).coprime;
    apart = apart;
    below = λ y flow. below_within pool column met (suc (support_size m.rows y)) y flow (omega arith);
  }

-- the combination of a pair is a join
quotient_entry : (p d q e : ℕ) → q ≡ p / d → d ∣ p → p ≡ e → d * q ≡ e
quotient_entry p d q e is divides same = ap (λ z. d * z) is ∙ mul-div_cancel' d divides ∙ same

pub combined_join : (m : Matrix) (K K' : ℕ → Type 0) (c : ℕ) (r s row : List ℕ) → Extends K c K' → length r ≡ m.rows → IsSemiflow m K (slice_index r) → IsSemiflow m K (slice_index s) → IsPair m c r s → IsCombined r s (surplus m c r) (deficit m c s) row → IsJoin m K' (slice_index r) (slice_index s) (slice_index row)
combined_join m K K' c r s row more size r_flow s_flow pair h =
    let a : ℕ = surplus m c r in
    let b : ℕ = deficit m c s in
    let up = pair.positive in
    let down = pair.negative in
    let x_positive : 0 < b / h.g = quotient_positive h.g b h.gcd.1 (omega arith) in
    let y_positive : 0 < a / h.g = quotient_positive h.g a h.gcd.0 (omega arith) in
    let some = r_flow.nonzero in
    record {
      times = h.divisor;
      x = b / h.g;
      y = a / h.g;
      times_positive = divisor_positive (b / h.g) (a / h.g) r s h.sums h.divisor h.sums_are h.divisor_is (some.0, omega (arith, some.1), some.2) x_positive;
      x_positive = x_positive;
      y_positive = y_positive;
      entries = λ i under. quotient_entry (slice_index h.sums i) h.divisor (slice_index row i) _ (h.entries i) (h.divisor_is.divides i (omega arith)) (h.sums_are.entries i (omega arith));
      semiflow = (combined_good m K K' c r s row more size r_flow s_flow pair h).0.semiflow;
    }

module _ (m : Matrix) (K K' : ℕ → Type 0) (c : ℕ) (rows : List (List ℕ)) (basis : IsBasis m K rows) (more : Extends K c K') where
  joined_is : (i k : ℕ) (row : List ℕ) (h : IsJoinedRow m c rows i k row) → IsJoin m K' (slice_index (row_of rows i)) (slice_index (row_of rows k)) (slice_index row)
  joined_is i k row h = combined_join m K K' c (row_of rows i) (row_of rows k) row more (basis.size i [] h.first) (basis.semiflow i [] h.first) (basis.semiflow k [] h.second) h.pair h.combined

  -- zero rows and combinations of adjacent pairs are minimal over one column more
  pub zero_row_good : (i : ℕ) (row : List ℕ) → IsZeroRow m c rows i row → IsMinimalRow m K' row
  zero_row_good i row h =
      subst (IsMinimalRow m K') (sym h.same) record {
        size = basis.size i [] h.within;
        minimal = zero_minimal m K K' c rows basis more i h.within h.equal;
      }

  pub joined_row_good : (i k : ℕ) (row : List ℕ) → c < m.columns → IsJoinedRow m c rows i k row → IsMinimalRow m K' row
  joined_row_good i k row column h =
      let size : length (row_of rows i) ≡ m.rows = basis.size i [] h.first in
      let good = combined_good m K K' c (row_of rows i) (row_of rows k) row more size (basis.semiflow i [] h.first) (basis.semiflow k [] h.second) h.pair h.combined in
      record {
        size = good.0.size;
        minimal = adjacent_minimal m K K' c rows basis more i k (slice_index row) column h.first h.second h.pair h.adjacent (joined_is i k row h) good.0.coprime;
      }

  -- (C) they are apart: what is in a combination of adjacent rows comes from them
  zeros_differ : (i k : ℕ) (row other : List ℕ) → IsZeroRow m c rows i row → IsZeroRow m c rows k other → (i ≡ k → ⊥) → IsWithin m (slice_index row) (slice_index other) → ⊥
  zeros_differ i k row other first second differ within =
      differ (one_place m K rows basis i k first.within second.within (λ x under some. subst (λ (l : List ℕ). 0 < slice_index l x) second.same (within x under (subst (λ (l : List ℕ). 0 < slice_index l x) (sym first.same) some))))

  zero_not_in_joined : (j i k : ℕ) (row other : List ℕ) → IsZeroRow m c rows j row → IsJoinedRow m c rows i k other → IsWithin m (slice_index row) (slice_index other) → ⊥
  zero_not_in_joined j i k row other first h within =
      let equal = first.equal in
      let up = h.pair.positive in
      let down = h.pair.negative in
      elim (h.adjacent j first.within (λ x under some. join_within m K' (slice_index (row_of rows i)) (slice_index (row_of rows k)) (slice_index other) (joined_is i k other h) x under (within x under (subst (λ (l : List ℕ). 0 < slice_index l x) (sym first.same) some)))) [
        | inl at_first ↦
            let moved : gain_sum m c (slice_index (row_of rows i)) ≡ loss_sum m c (slice_index (row_of rows i)) = subst (λ (j : ℕ). gain_sum m c (slice_index (row_of rows j)) ≡ loss_sum m c (slice_index (row_of rows j))) at_first equal in
            absurd (omega arith)
        | inr at_second ↦
            let moved : gain_sum m c (slice_index (row_of rows k)) ≡ loss_sum m c (slice_index (row_of rows k)) = subst (λ (j : ℕ). gain_sum m c (slice_index (row_of rows j)) ≡ loss_sum m c (slice_index (row_of rows j))) at_second equal in
            absurd (omega arith)
      ]

  joined_not_in_zero : (j i k : ℕ) (row other : List ℕ) → IsZeroRow m c rows j row → IsJoinedRow m c rows i k other → IsWithin m (slice_index other) (slice_index row) → ⊥
  joined_not_in_zero j i k row other first h within =
      let equal = first.equal in
      let up = h.pair.positive in
      let at_zero : i ≡ j = one_place m K rows basis i j h.first first.within (λ x under some. subst (λ (l : List ℕ). 0 < slice_index l x) first.same (within x under (first_within m K' (slice_index (row_of rows i)) (slice_index (row_of rows k)) (slice_index other) (joined_is i k other h) x under some))) in
      let moved : gain_sum m c (slice_index (row_of rows i)) ≡ loss_sum m c (slice_index (row_of rows i)) = subst (λ (j : ℕ). gain_sum m c (slice_index (row_of rows j)) ≡ loss_sum m c (slice_index (row_of rows j))) (sym at_zero) equal in
      absurd (omega arith)

  -- a combination in that of an adjacent pair is of the same pair
  same_pair : (i k i' k' : ℕ) (row other : List ℕ) → IsJoinedRow m c rows i k row → IsJoinedRow m c rows i' k' other → IsWithin m (slice_index row) (slice_index other) → (i ≡ i') × (k ≡ k')
  same_pair i k i' k' row other one two within =
      let union : IsWithin m (slice_index row) (λ x. slice_index (row_of rows i') x + slice_index (row_of rows k') x) =
      λ x under some. join_within m K' (slice_index (row_of rows i')) (slice_index (row_of rows k')) (slice_index other) (joined_is i' k' other two) x under (within x under some)
      in
      let up = one.pair.positive in
      let down = one.pair.negative in
      let other_up = two.pair.positive in
      let other_down = two.pair.negative in (
        elim (two.adjacent i one.first (λ x under some. union x under (first_within m K' (slice_index (row_of rows i)) (slice_index (row_of rows k)) (slice_index row) (joined_is i k row one) x under some))) [
          | inl same ↦ same
          | inr crossed ↦
              let moved : loss_sum m c (slice_index (row_of rows k')) < gain_sum m c (slice_index (row_of rows k')) = subst (λ (j : ℕ). loss_sum m c (slice_index (row_of rows j)) < gain_sum m c (slice_index (row_of rows j))) crossed up in
              absurd (omega arith)
        ],
        elim (two.adjacent k one.second (λ x under some. union x under (second_within m K' (slice_index (row_of rows i)) (slice_index (row_of rows k)) (slice_index row) (joined_is i k row one) x under some))) [
          | inr same ↦ same
          | inl crossed ↦
              let moved : gain_sum m c (slice_index (row_of rows i')) < loss_sum m c (slice_index (row_of rows i')) = subst (λ (j : ℕ). gain_sum m c (slice_index (row_of rows j)) < loss_sum m c (slice_index (row_of rows j))) crossed down in
              absurd (omega arith)
        ],
      )

  pub zeros_apart : (i k : ℕ) (row other : List ℕ) → IsZeroRow m c rows i row → IsZeroRow m c rows k other → (i ≡ k → ⊥) → AreApart row other
  zeros_apart i k row other first second differ = record {
    forth = λ within. zeros_differ i k row other first second differ (λ x under some. within x some);
    back = λ within. zeros_differ k i other row second first (λ same. differ (sym same)) (λ x under some. within x some);
  }

  pub zero_joined_apart : (j i k : ℕ) (row other : List ℕ) → IsZeroRow m c rows j row → IsJoinedRow m c rows i k other → AreApart row other
  zero_joined_apart j i k row other first second = record {
    forth = λ within. zero_not_in_joined j i k row other first second (λ x under some. within x some);
    back = λ within. joined_not_in_zero j i k row other first second (λ x under some. within x some);
  }

  pub joined_apart : (i k i' k' : ℕ) (row other : List ℕ) → IsJoinedRow m c rows i k row → IsJoinedRow m c rows i' k' other → (i ≡ i' → k ≡ k' → ⊥) → AreApart row other
  joined_apart i k i' k' row other one two differ = record {
    forth = λ within. let same = same_pair i k i' k' row other one two (λ x under some. within x some) in differ same.0 same.1;
    back = λ within. let same = same_pair i' k' i k other row two one (λ x under some. within x some) in differ (sym same.0) (sym same.1);
  }
