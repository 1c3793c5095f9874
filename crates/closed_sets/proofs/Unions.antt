-- The union of two siphons is a siphon: a transition with an output place in one of them has an input place
-- in that one. So a set has a greatest siphon in it, the union of all.
use Rattle.std.proofs.Common.{ℕ, ◌||◌, Bool, inl, inr}
use Rattle.std.proofs.lemmas.Bool.{or_cases, or_left, or_right}
use Rattle.net_values.specs.Net.{Net}
use Rattle.closed_sets.specs.ClosedSets.{IsSiphon}
use Rattle.closed_sets.proofs.Below.{pair_at, pair_from}

pub union_siphon : (net : Net) (S R : ℕ → Bool) → IsSiphon net S → IsSiphon net R → IsSiphon net (λ p. S p || R p)
union_siphon net S R one other t below gives =
    let out = pair_from net.places (λ p. S p || R p) (λ p. net.post p t) gives in
    elim (or_cases (S out.0) (R out.0) out.2) [
      | inl left ↦
          let takes = pair_from net.places S (λ p. net.pre p t) (one t below (pair_at net.places S (λ p. net.post p t) out.0 out.1 left out.3)) in
          pair_at net.places (λ p. S p || R p) (λ p. net.pre p t) takes.0 takes.1 (or_left (S takes.0) (R takes.0) takes.2) takes.3
      | inr right ↦
          let takes = pair_from net.places R (λ p. net.pre p t) (other t below (pair_at net.places R (λ p. net.post p t) out.0 out.1 right out.3)) in
          pair_at net.places (λ p. S p || R p) (λ p. net.pre p t) takes.0 takes.1 (or_right (S takes.0) (R takes.0) takes.2) takes.3
    ]
