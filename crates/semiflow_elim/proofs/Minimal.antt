-- Semiflows of one minimal support are proportional: what subtraction by the least ratio leaves of the
-- minimal one has a smaller support, so nothing is left. Coprime rows of which no support is in another's,
-- with one below each semiflow, are therefore exactly the minimal ones.
use Rattle.std.proofs.Common.{◌≡◌, ℕ, ◌<◌, inl, inr, arith}
use Rattle.incidence.specs.Matrix.{Matrix}
use Rattle.incidence.specs.Semiflow.{IsWithin, IsSemiflow, IsCoprime, IsMinimal}
use Rattle.semiflow_elim.specs.Laws.{AreProportional}
use Rattle.semiflow_elim.proofs.Weighted.{none_or_some}
use Rattle.semiflow_elim.proofs.Support.{Reduced, reduced}
use Rattle.semiflow_elim.proofs.Transport.{Covers, rest_semiflow}
use Rattle.semiflow_elim.proofs.GcdLemmas.{coprime_same}

pub proportional : (m : Matrix) (K : ℕ → Type 0) (y z : ℕ → ℕ) → IsMinimal m K y → IsSemiflow m K z → IsWithin m z y → AreProportional m z y
proportional m K y z minimal flow within =
    let d : Reduced m.rows y z = reduced m.rows y z flow.nonzero.0 flow.nonzero.1 flow.nonzero.2 in
    let inside : 0 < y d.at = within d.at d.below d.positive in
    elim (none_or_some m.rows d.rest) [
      | inl none ↦ record {
        a = z d.at;
        b = y d.at;
        a_positive = d.positive;
        b_positive = inside;
        same = λ i under. let split = d.splits i under in let left = none i under in omega arith;
      }
      | inr some ↦
          let rest = rest_semiflow m K y z d minimal.semiflow flow some in
          let back : 0 < d.rest d.at = minimal.least d.rest rest d.within d.at d.below inside in
          let lacks = d.lacks in
          absurd (omega arith)
    ]

-- a coprime semiflow within a minimal one is that one
pub minimal_same : (m : Matrix) (K : ℕ → Type 0) (y z : ℕ → ℕ) → IsMinimal m K y → IsSemiflow m K z → IsCoprime m z → IsWithin m z y → (i : ℕ) → i < m.rows → z i ≡ y i
minimal_same m K y z minimal flow coprime within =
    let p = proportional m K y z minimal flow within in
    coprime_same m z y p.a p.b coprime minimal.coprime p.a_positive p.same

-- coprime rows, of which one's support is in another's only where the other's is in it
pub record IsFlat (m : Matrix) (K : ℕ → Type 0) (Row : (ℕ → ℕ) → Type 0) : Type 0 where
  pub covers : Covers m K Row
  pub coprime : (r : ℕ → ℕ) → Row r → IsCoprime m r
  pub flat : (p q : ℕ → ℕ) → Row p → Row q → IsWithin m p q → IsWithin m q p

pub row_minimal : (m : Matrix) (K : ℕ → Type 0) (Row : (ℕ → ℕ) → Type 0) → IsFlat m K Row → (p : ℕ → ℕ) → Row p → IsMinimal m K p
row_minimal m K Row h p row = record {
  semiflow = h.covers.sound p row;
  coprime = h.coprime p row;
  least = λ z flow within.
      let found = h.covers.below z flow in
      λ i under positive. found.2 i under (h.flat found.0 p found.1 row (λ k below some. within k below (found.2 k below some)) i under positive);
}

pub minimal_row : (m : Matrix) (K : ℕ → Type 0) (Row : (ℕ → ℕ) → Type 0) → IsFlat m K Row → (y : ℕ → ℕ) → IsMinimal m K y → (r : ℕ → ℕ) × Row r × ((i : ℕ) → i < m.rows → r i ≡ y i)
minimal_row m K Row h y minimal =
    let found = h.covers.below y minimal.semiflow in
    (found.0, found.1, minimal_same m K y found.0 minimal (h.covers.sound found.0 found.1) (h.coprime found.0 found.1) found.2)
