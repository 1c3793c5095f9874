-- The two sums at a column of the extended incidence: those over the places, with the vector's own entry for the column's
-- transition among the gains.
use Rattle.std.proofs.Common.{◌≡◌, ◌≢◌, refl, ap, ◌∙◌, ℕ, zero, suc, ◌+◌, ◌*◌, ◌<◌, inl, inr, true, false, arith}
use Rattle.std.specs.Prelude.{nat_lt}
use Rattle.std.proofs.lemmas.Bool.{cases_lt}
use Rattle.std.proofs.lemmas.Bool.Decides.{nat_tests}
use Rattle.net_values.specs.Net.{Net}
use Rattle.incidence.specs.Matrix.{Matrix, incidence_of, extended_of, unit_at, positive_at, negative_at, gain_sum, loss_sum}
use Rattle.incidence.specs.Sums.{sum_below}
use Rattle.incidence.proofs.Below.{below_same, below_one, below_zero, zero_product}

pub split : (a b : ℕ) (f : ℕ → ℕ) → sum_below (a + b) f ≡ sum_below a f + sum_below b (λ k. f (a + k))
split a zero f = let same : a + 0 ≡ a = omega arith in ap (λ n. sum_below n f) same ∙ omega arith
split a (suc b) f =
    let same : a + suc b ≡ suc (a + b) = omega arith in
    let rest = split a b f in
    ap (λ n. sum_below n f) same ∙ omega (arith, rest)

-- a positive sum has a positive term
pub some_term : (n : ℕ) (f : ℕ → ℕ) → 0 < sum_below n f → (i : ℕ) × (i < n) × (0 < f i)
some_term zero f some = absurd (omega (arith, some))
some_term (suc n) f some =
    elim (cases_lt 0 (f n)) [
      | inl last ↦ (n, omega arith, last)
      | inr none ↦ let h = some_term n f (omega (arith, some, none)) in let below : h.0 < n = h.1 in (h.0, omega arith, h.2)
    ]

module _ (net : Net) where
  abbrev pub of_places : Matrix
  of_places = incidence_of net

  abbrev pub extended : Matrix
  extended = extended_of net

  -- vectors that agree at the places
  abbrev pub Agree : (ℕ → ℕ) → (ℕ → ℕ) → Type 0
  Agree y z = (p : ℕ) → p < net.places → y p ≡ z p

  pub gain_agree : (t : ℕ) (y z : ℕ → ℕ) → Agree y z → gain_sum of_places t y ≡ gain_sum of_places t z
  gain_agree t y z agree = below_same net.places (λ i. y i * positive_at of_places i t) (λ i. z i * positive_at of_places i t) (λ i under. ap (λ n. n * positive_at of_places i t) (agree i under))

  pub loss_agree : (t : ℕ) (y z : ℕ → ℕ) → Agree y z → loss_sum of_places t y ≡ loss_sum of_places t z
  loss_agree t y z agree = below_same net.places (λ i. y i * negative_at of_places i t) (λ i. z i * negative_at of_places i t) (λ i under. ap (λ n. n * negative_at of_places i t) (agree i under))

  positive_within : (i t : ℕ) → i < net.places → positive_at extended i t ≡ positive_at of_places i t
  positive_within i t within = let test : nat_lt i net.places ≡ true = grind (arith, nat_tests) in rw test refl

  negative_within : (i t : ℕ) → i < net.places → negative_at extended i t ≡ negative_at of_places i t
  negative_within i t within = let test : nat_lt i net.places ≡ true = grind (arith, nat_tests) in rw test refl

  past : (k : ℕ) → nat_lt (net.places + k) net.places ≡ false
  past k = grind (arith, nat_tests)

  positive_own : (t : ℕ) → t < net.transitions → positive_at extended (net.places + t) t ≡ 1
  positive_own t within = let one : ◌≡◌ {A = ℕ} (unit_at net (net.places + t) t) 1 = grind (arith, nat_tests) in rw (past t) (omega (arith, one))

  positive_other : (k t : ℕ) → k ≢ t → positive_at extended (net.places + k) t ≡ 0
  positive_other k t other = let none : ◌≡◌ {A = ℕ} (unit_at net (net.places + k) t) 0 = grind (arith, nat_tests) in rw (past k) (omega (arith, none))

  negative_past : (k t : ℕ) → negative_at extended (net.places + k) t ≡ 0
  negative_past k t = rw (past k) (omega arith)

  pub gain_is : (t : ℕ) (z : ℕ → ℕ) → t < net.transitions → gain_sum extended t z ≡ gain_sum of_places t z + z (net.places + t)
  gain_is t z within =
      let parts = split net.places net.transitions (λ i. z i * positive_at extended i t) in
      let front = below_same net.places (λ i. z i * positive_at extended i t) (λ i. z i * positive_at of_places i t) (λ i under. ap (λ n. z i * n) (positive_within i t under)) in
      let own = below_one net.transitions t (λ k. z (net.places + k) * positive_at extended (net.places + k) t) within (λ k under other. zero_product (z (net.places + k)) _ (positive_other k t other)) in
      let one : z (net.places + t) * positive_at extended (net.places + t) t ≡ z (net.places + t) = ap (λ n. z (net.places + t) * n) (positive_own t within) ∙ omega arith in
      omega (arith, parts, front, own, one)

  pub loss_is : (t : ℕ) (z : ℕ → ℕ) → loss_sum extended t z ≡ loss_sum of_places t z
  loss_is t z =
      let parts = split net.places net.transitions (λ i. z i * negative_at extended i t) in
      let front = below_same net.places (λ i. z i * negative_at extended i t) (λ i. z i * negative_at of_places i t) (λ i under. ap (λ n. z i * n) (negative_within i t under)) in
      let none = below_zero net.transitions (λ k. z (net.places + k) * negative_at extended (net.places + k) t) (λ k under. zero_product (z (net.places + k)) _ (negative_past k t)) in
      omega (arith, parts, front, none)

  -- a positive loss needs a positive place
  pub some_place : (t : ℕ) (z : ℕ → ℕ) → 0 < loss_sum of_places t z → (p : ℕ) × (p < net.places) × (0 < z p)
  some_place t z some =
      let h = some_term net.places (λ i. z i * negative_at of_places i t) some in (
        h.0,
        h.1,
        elim (cases_lt 0 (z h.0)) [
          | inl positive ↦ positive
          | inr none ↦ let nothing : z h.0 ≡ 0 = omega (arith, none) in let product : z h.0 * negative_at of_places h.0 t ≡ 0 = ap (λ n. n * negative_at of_places h.0 t) nothing ∙ omega arith in absurd (let term = h.2 in omega (arith, term, product))
        ],
      )
