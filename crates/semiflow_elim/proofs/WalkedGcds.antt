-- The greatest common divisor of the entries that a walk has passed: zeros leave it, one positive entry more takes part.
use Rattle.std.proofs.Common.{◌≡◌, sym, subst, ℕ, ◌+◌, ◌<◌, ◌≤◌, List, length, slice_index, inl, inr, arith}
use Rattle.std.specs.Int.{◌∣◌, IsGcd}
use Rattle.std.proofs.lemmas.Bool.{cases_lt}
use Rattle.std.proofs.lemmas.Nat.Gcd.{dvd-zero, dvd_trans}
use Rattle.std.proofs.Math.Nat.{one-dvd}
use Rattle.net_values.specs.Vectors.{AreZerosFrom, IsFirstPositive, WalkValue}
use Rattle.semiflow_elim.specs.Arithmetic.{IsGcdOfAll}

pub gcd_none : (entries : List ℕ) → IsGcdOfAll entries 0 0
gcd_none entries = record {
  divides = λ i under. absurd (omega arith);
  greatest = λ d each. dvd-zero d;
}

-- zeros are divided by all
gcd_gap : (entries : List ℕ) (n m g : ℕ) → n ≤ m → ((i : ℕ) → n ≤ i → i < m → slice_index entries i ≡ 0) → IsGcdOfAll entries n g → IsGcdOfAll entries m g
gcd_gap entries n m g order zeros all = record {
  divides = λ i under. elim (cases_lt i n) [
    | inl below ↦ all.divides i below
    | inr above ↦ subst (λ (e : ℕ). g ∣ e) (sym (zeros i above under)) (dvd-zero g)
  ];
  greatest = λ d each. all.greatest d (λ i under. each i (omega arith));
}

gcd_more : (entries : List ℕ) (n g h : ℕ) → IsGcdOfAll entries n g → IsGcd g (slice_index entries n) h → IsGcdOfAll entries (n + 1) h
gcd_more entries n g h all both = record {
  divides = λ i under. elim (cases_lt i n) [
    | inl below ↦ dvd_trans h both.0 (all.divides i below)
    | inr above ↦ let same : n ≡ i = omega arith in subst (λ (k : ℕ). h ∣ slice_index entries k) same both.1
  ];
  greatest = λ d each. both.2 d (all.greatest d (λ i under. each i (omega arith))) (each n (omega arith));
}

module _ (row : List ℕ) (walk : WalkValue) (g : ℕ) (same : walk.entries ≡ row) (so_far : IsGcdOfAll row walk.from g) where
  pub gcd_passed : (p entry next h : ℕ) → IsFirstPositive walk.entries walk.from p entry → next ≡ p + 1 → IsGcd g entry h → IsGcdOfAll row next h
  gcd_passed p entry next h found to gcd =
      let first = subst (λ (es : List ℕ). IsFirstPositive es walk.from p entry) same found in
      subst (λ (n : ℕ). IsGcdOfAll row n h) (sym to)
      (gcd_more row p g h (gcd_gap row walk.from p g first.zeros.order first.zeros.zeros so_far) (subst (λ (e : ℕ). IsGcd g e h) first.here gcd))

  pub gcd_whole : walk.from ≤ length row → AreZerosFrom walk.entries walk.from → IsGcdOfAll row (length row) g
  gcd_whole within zeros = gcd_gap row walk.from (length row) g within (λ i late under. subst (λ (es : List ℕ). slice_index es i ≡ 0) same (zeros i late)) so_far

-- 1 divides everything, and what divides all entries divides it already
pub gcd_is_one : (row : List ℕ) (n h : ℕ) → n ≤ length row → h ≡ 1 → IsGcdOfAll row n h → IsGcdOfAll row (length row) 1
gcd_is_one row n h within one all = record {
  divides = λ i under. one-dvd _;
  greatest = λ d each. subst (λ (x : ℕ). d ∣ x) one (all.greatest d (λ i under. each i (omega arith)));
}
