-- A pair's combination: divided by the greatest common divisor of its entries it is a coprime semiflow over one
-- column more, below the two rows together.
use Rattle.std.proofs.Common.{◌≡◌, refl, sym, ap, ◌∙◌, subst, ℕ, zero, suc, ◌+◌, ◌-◌, ◌*◌, ◌/◌, ◌^◌, ◌<◌, ◌≤◌, List, [], length, get_or, map, slice_index, inl, inr, arith}
use Rattle.std.specs.Int.{◌∣◌, IsGcd}
use Rattle.std.proofs.lemmas.Bool.{cases_lt}
use Rattle.std.proofs.lemmas.List.{get_or_default, get_or-map, get_or_past, length-map}
use Rattle.std.proofs.lemmas.Nat.{mul-le}
use Rattle.std.proofs.lemmas.Nat.Gcd.{le_of_dvd, same_from_IsGcd}
use Rattle.std.proofs.Math.Nat.{pos_of_dvd_of_pos, mul-div_cancel', div-le_self, zero-div}
use Rattle.incidence.specs.Matrix.{Matrix}
use Rattle.incidence.specs.Semiflow.{IsWithin, IsSemiflow}
use Rattle.semiflow_elim.specs.Arithmetic.{IsScaledSum, IsGcdOfAll}
use Rattle.semiflow_elim.specs.Adjacent.{AreAdjacent, IsJoinedRow}
use Rattle.semiflow_elim.specs.Bases.{IsGood}
use Rattle.semiflow_elim.specs.Candidates.{IsCombined, IsNarrowCombination, IsWideCombination, IsStep, sums_of}
use Rattle.semiflow_elim.specs.Elimination.{IsPair, IsWidePair, IsNarrowPair, row_of, surplus, deficit, combination}
use Rattle.semiflow_elim.specs.Merged.{IsCombinedBy}
use Rattle.semiflow_elim.specs.declared.signs.RowSums.{RowSums}
use Rattle.semiflow_elim.proofs.CandidateLemmas.{Extends, pair_semiflow, divided_semiflow, divided_coprime, zero_factor, product_positive}

pub gcd_positive : (a b g : ℕ) → IsGcd a b g → 0 < a → 0 < g
gcd_positive a b g gcd positive = pos_of_dvd_of_pos gcd.0 positive

pub quotient_positive : (g b : ℕ) → g ∣ b → 0 < b → 0 < b / g
quotient_positive g b divides positive =
    let whole : g * (b / g) ≡ b = mul-div_cancel' g divides in
    zero_factor g (b / g) (omega arith)

-- a row with a positive entry makes the combination's divisor positive
pub divisor_positive : (x y : ℕ) (r s p : List ℕ) (d : ℕ) → IsScaledSum x r y s (length r) p → IsGcdOfAll p (length r) d → ((i : ℕ) × (i < length r) × (0 < slice_index r i)) → 0 < x → 0 < d
divisor_positive x y r s p d sums divisor some positive =
    let entry = sums.entries some.0 some.1 in
    let product = product_positive x (slice_index r some.0) positive some.2 in
    pos_of_dvd_of_pos (divisor.divides some.0 some.1) (omega arith)

divided_entry : (sum : List ℕ) (d i : ℕ) → slice_index (map (λ entry. entry / d) sum) i ≡ slice_index sum i / d
divided_entry sum d i =
    elim (cases_lt i (length sum)) [
      | inl under ↦ get_or-map (λ entry. entry / d) sum i 0 0 under
      | inr past ↦ get_or_past (map (λ entry. entry / d) sum) i 0 (omega (arith, length-map sum (λ entry. entry / d))) ∙ sym (ap (λ (e : ℕ). e / d) (get_or_past sum i 0 past) ∙ zero-div d)
    ]

-- the sum of the multiples divided by the greatest common divisor of its entries is the combination
pub combined_is : (r s sum row : List ℕ) (a b g d : ℕ) → IsGcd a b g → IsScaledSum (b / g) r (a / g) s (length r) sum → IsGcdOfAll sum (length sum) d → row ≡ map (λ entry. entry / d) sum → IsCombinedBy r s a b row record { first = b / g; second = a / g; divisor = d }
combined_is r s sum row a b g d gcd sums divisor is = record {
  combined = record {
    g = g;
    gcd = gcd;
    sums = sum;
    sums_are = sums;
    divisor = d;
    divisor_is = subst (λ (n : ℕ). IsGcdOfAll sum n d) sums.size divisor;
    size = ap length is ∙ length-map sum (λ entry. entry / d) ∙ sums.size;
    entries = λ i. ap (λ (l : List ℕ). slice_index l i) is ∙ divided_entry sum d i;
  };
  first = refl;
  second = refl;
  divisor = refl;
}

-- no positive entry is below a divisor of all
pub divisor_least : (sum : List ℕ) (d i : ℕ) → IsGcdOfAll sum (length sum) d → 0 < slice_index sum i → d ≤ slice_index sum i
divisor_least sum d i divisor some =
    elim (cases_lt i (length sum)) [
      | inl under ↦ le_of_dvd some (divisor.divides i under)
      | inr past ↦ let none = get_or_past sum i 0 past in absurd (omega arith)
    ]

either_positive : (x r y s : ℕ) → 0 < x * r + y * s → 0 < r + s
either_positive x zero y zero some = absurd (omega arith)
either_positive x zero y (suc s) some = omega arith
either_positive x (suc r) y s some = omega arith

quotient_entry : (p d q : ℕ) → q ≡ p / d → d ∣ p → p ≡ d * q
quotient_entry p d q is divides = sym (ap (λ z. d * z) is ∙ mul-div_cancel' d divides)

cross : (a b g : ℕ) → IsGcd a b g → (b / g) * a ≡ (a / g) * b
cross a b g gcd =
    let first : g * (a / g) ≡ a = mul-div_cancel' g gcd.0 in
    let second : g * (b / g) ≡ b = mul-div_cancel' g gcd.1 in
    let left : (b / g) * (g * (a / g)) ≡ (b / g) * a = ap (λ z. (b / g) * z) first in
    let right : (a / g) * (g * (b / g)) ≡ (a / g) * b = ap (λ z. (a / g) * z) second in
    omega arith

-- the combination of a positive and a negative semiflow
pub combined_good : (m : Matrix) (K K' : ℕ → Type 0) (c : ℕ) (r s row : List ℕ) → Extends K c K' → length r ≡ m.rows → IsSemiflow m K (slice_index r) → IsSemiflow m K (slice_index s) → IsPair m c r s → IsCombined r s (surplus m c r) (deficit m c s) row → IsGood m K' row × IsWithin m (slice_index row) (λ x. slice_index r x + slice_index s x) × IsNarrowPair m c r s
combined_good m K K' c r s row more size r_flow s_flow pair h =
    let a = surplus m c r in
    let b = deficit m c s in
    let up = pair.positive in
    let down = pair.negative in
    let x = b / h.g in
    let y = a / h.g in
    let x_positive : 0 < x = quotient_positive h.g b h.gcd.1 (omega arith) in
    let some = r_flow.nonzero in
    let divisor : 0 < h.divisor = divisor_positive x y r s h.sums h.divisor h.sums_are h.divisor_is (some.0, omega (arith, some.1), some.2) x_positive in
    let flow : IsSemiflow m K' (slice_index h.sums) =
    pair_semiflow m K K' c (slice_index h.sums) (slice_index r) (slice_index s) x y a b more r_flow s_flow (omega arith) (omega arith) (cross a b h.g h.gcd) x_positive (λ i under. h.sums_are.entries i (omega arith))
    in
    let entries : (i : ℕ) → i < m.rows → slice_index h.sums i ≡ h.divisor * slice_index row i =
    λ i under. quotient_entry (slice_index h.sums i) h.divisor (slice_index row i) (h.entries i) (h.divisor_is.divides i (omega arith))
    in (
      record {
        size = h.size ∙ size;
        semiflow = divided_semiflow m K' (slice_index h.sums) (slice_index row) h.divisor divisor entries flow;
        coprime = divided_coprime m (slice_index h.sums) (slice_index row) h.divisor divisor entries (λ e each. h.divisor_is.greatest e (λ i under. each i (omega arith)));
      },
      λ i under some_entry.
          let entry = entries i under in
          let sum = h.sums_are.entries i (omega arith) in
          let inside : 0 < h.divisor * slice_index row i = product_positive h.divisor (slice_index row i) divisor some_entry in
          either_positive x (slice_index r i) y (slice_index s i) (omega arith),
      λ g gcd i under.
          let same : g ≡ h.g = same_from_IsGcd a b g h.g gcd h.gcd in
          let at : combination m c g r s i ≡ combination m c h.g r s i = ap (λ (z : ℕ). combination m c z r s i) same in
          let entry : slice_index h.sums i ≡ combination m c h.g r s i = h.sums_are.entries i (omega arith) in
          let narrow : slice_index h.sums i < 2 ^ 127 = h.sums_are.narrow i (omega arith) in
          omega arith,
    )

-- the differences that the code forms are those of the rows
pub differences : (m : Matrix) (c : ℕ) (rows : List (List ℕ)) (sums : List RowSums) (i k : ℕ) → IsStep m c rows sums → i < length rows → k < length rows → ((sums_of sums i).gain - (sums_of sums i).loss ≡ surplus m c (row_of rows i)) × ((sums_of sums k).loss - (sums_of sums k).gain ≡ deficit m c (row_of rows k))
differences m c rows sums i k step first second =
    let gain_i = step.gains i first in
    let loss_i = step.losses i first in
    let gain_k = step.gains k second in
    let loss_k = step.losses k second in
    (omega arith, omega arith)

pub pair_is : (m : Matrix) (c : ℕ) (rows : List (List ℕ)) (sums : List RowSums) (i k : ℕ) → IsStep m c rows sums → i < length rows → k < length rows → (sums_of sums i).loss < (sums_of sums i).gain → (sums_of sums k).gain < (sums_of sums k).loss → IsPair m c (row_of rows i) (row_of rows k)
pair_is m c rows sums i k step first second up down = record {
  positive = let gain = step.gains i first in let loss = step.losses i first in omega arith;
  negative = let gain = step.gains k second in let loss = step.losses k second in omega arith;
}

pub pair_signs : (m : Matrix) (c : ℕ) (rows : List (List ℕ)) (sums : List RowSums) (i k : ℕ) → IsStep m c rows sums → i < length rows → k < length rows → IsPair m c (row_of rows i) (row_of rows k) → ((sums_of sums i).loss < (sums_of sums i).gain) × ((sums_of sums k).gain < (sums_of sums k).loss)
pair_signs m c rows sums i k step first second pair =
    let up = pair.positive in
    let down = pair.negative in
    let gain_i = step.gains i first in
    let loss_i = step.losses i first in
    let gain_k = step.gains k second in
    let loss_k = step.losses k second in
    (omega arith, omega arith)

-- a read of a row
pub read_row : (rows : List (List ℕ)) (i : ℕ) (x : List ℕ) → i < length rows → x ≡ get_or rows i x → x ≡ row_of rows i
read_row rows i x within is = is ∙ get_or_default rows i x [] within

pub row_nonzero : (m : Matrix) (c : ℕ) (rows : List (List ℕ)) (sums : List RowSums) (i : ℕ) (x : List ℕ) → IsStep m c rows sums → i < length rows → x ≡ row_of rows i → (j : ℕ) × (j < length x) × (0 < slice_index x j)
row_nonzero m c rows sums i x step within is =
    let some = (step.basis.semiflow i [] within).nonzero in
    let size = step.basis.size i [] within in
    subst (λ (l : List ℕ). (j : ℕ) × (j < length l) × (0 < slice_index l j)) (sym is) (some.0, omega (arith, some.1), some.2)

wide_pair : (m : Matrix) (c : ℕ) (r s : List ℕ) → length r ≡ m.rows → IsPair m c r s → IsWideCombination r s (surplus m c r) (deficit m c s) → IsWidePair m c r s
wide_pair m c r s size pair wide = record {
  pair = pair;
  g = wide.g;
  gcd = wide.gcd;
  at = wide.wide.at;
  within = let within = wide.wide.within in omega arith;
  wide = wide.wide.wide;
}

-- what the code forms of two rows, said of the rows and their sums
of_rows : (P : List ℕ → List ℕ → ℕ → ℕ → Type 0) (m : Matrix) (c : ℕ) (rows : List (List ℕ)) (sums : List RowSums) (i k : ℕ) (r s : List ℕ) → IsStep m c rows sums → i < length rows → k < length rows → r ≡ row_of rows i → s ≡ row_of rows k → P r s ((sums_of sums i).gain - (sums_of sums i).loss) ((sums_of sums k).loss - (sums_of sums k).gain) → P (row_of rows i) (row_of rows k) (surplus m c (row_of rows i)) (deficit m c (row_of rows k))
of_rows P m c rows sums i k r s step first second r_is s_is holds =
    let differ = differences m c rows sums i k step first second in
    let A : ℕ = (sums_of sums i).gain - (sums_of sums i).loss in
    let B : ℕ = (sums_of sums k).loss - (sums_of sums k).gain in
    let by_rows = subst (λ (l : List ℕ). P (row_of rows i) l A B) s_is (subst (λ (l : List ℕ). P l s A B) r_is holds) in
    subst (λ (b : ℕ). P (row_of rows i) (row_of rows k) (surplus m c (row_of rows i)) b) differ.1 (subst (λ (a : ℕ). P (row_of rows i) (row_of rows k) a B) differ.0 by_rows)

pub pair_wide : (m : Matrix) (c : ℕ) (rows : List (List ℕ)) (sums : List RowSums) (i k : ℕ) (r s : List ℕ) → IsStep m c rows sums → i < length rows → k < length rows → (sums_of sums i).loss < (sums_of sums i).gain → (sums_of sums k).gain < (sums_of sums k).loss → r ≡ row_of rows i → s ≡ row_of rows k → IsWideCombination r s ((sums_of sums i).gain - (sums_of sums i).loss) ((sums_of sums k).loss - (sums_of sums k).gain) → IsWidePair m c (row_of rows i) (row_of rows k)
pair_wide m c rows sums i k r s step first second up down r_is s_is wide =
    wide_pair m c (row_of rows i) (row_of rows k) (step.basis.size i [] first) (pair_is m c rows sums i k step first second up down)
    (of_rows IsWideCombination m c rows sums i k r s step first second r_is s_is wide)

pub pair_combined : (m : Matrix) (c : ℕ) (rows : List (List ℕ)) (sums : List RowSums) (i k : ℕ) (r s row : List ℕ) → IsStep m c rows sums → i < length rows → k < length rows → (sums_of sums i).loss < (sums_of sums i).gain → (sums_of sums k).gain < (sums_of sums k).loss → r ≡ row_of rows i → s ≡ row_of rows k → AreAdjacent m rows i k → IsCombined r s ((sums_of sums i).gain - (sums_of sums i).loss) ((sums_of sums k).loss - (sums_of sums k).gain) row → IsJoinedRow m c rows i k row
pair_combined m c rows sums i k r s row step first second up down r_is s_is adjacent combined = record {
  first = first;
  second = second;
  pair = pair_is m c rows sums i k step first second up down;
  adjacent = adjacent;
  combined = of_rows (λ r s a b. IsCombined r s a b row) m c rows sums i k r s step first second r_is s_is combined;
}

pub pair_narrow : (m : Matrix) (c : ℕ) (rows : List (List ℕ)) (sums : List RowSums) (i k : ℕ) (r s : List ℕ) → IsStep m c rows sums → i < length rows → k < length rows → r ≡ row_of rows i → s ≡ row_of rows k → IsNarrowCombination r s ((sums_of sums i).gain - (sums_of sums i).loss) ((sums_of sums k).loss - (sums_of sums k).gain) → IsNarrowPair m c (row_of rows i) (row_of rows k)
pair_narrow m c rows sums i k r s step first second r_is s_is narrow =
    let all = of_rows IsNarrowCombination m c rows sums i k r s step first second r_is s_is narrow in
    let size = step.basis.size i [] first in
    λ g gcd x under. all g gcd x (omega arith)

-- a combination is narrow where the largest entries tell so, and where all its entries were formed
pub largest_narrow : (r s : List ℕ) (a b x y : ℕ) → ((i : ℕ) → slice_index r i ≤ x) → ((i : ℕ) → slice_index s i ≤ y) → b * x + a * y < 2 ^ 127 → IsNarrowCombination r s a b
largest_narrow r s a b x y first second small g gcd i under =
    let left : (b / g) * slice_index r i ≤ b * x = mul-le (b / g) (slice_index r i) b x (div-le_self b g) (first i) in
    let right : (a / g) * slice_index s i ≤ a * y = mul-le (a / g) (slice_index s i) a y (div-le_self a g) (second i) in
    omega arith

pub formed_narrow : (r s p : List ℕ) (a b g : ℕ) → IsGcd a b g → IsScaledSum (b / g) r (a / g) s (length r) p → IsNarrowCombination r s a b
formed_narrow r s p a b g gcd sums h other i under =
    let same : g ≡ h = same_from_IsGcd a b g h gcd other in
    let entry = sums.entries i under in
    let narrow = sums.narrow i under in
    let here : (b / g) * slice_index r i + (a / g) * slice_index s i < 2 ^ 127 = omega arith in
    subst (λ (z : ℕ). (b / z) * slice_index r i + (a / z) * slice_index s i < 2 ^ 127) same here
