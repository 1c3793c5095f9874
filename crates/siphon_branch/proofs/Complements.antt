-- The greatest siphon in the complement of the avoided set is the greatest siphon that avoids it.
use Rattle.std.proofs.Common.{◌≡◌, sym, ◌∙◌, ℕ, ◌<◌, List, Bool, false, IsTrue, not, length, inl, inr, arith}
use Rattle.std.proofs.lemmas.Bool.{cases_lt, both_ways}
use Rattle.std.proofs.lemmas.List.{get_or_past}
use Rattle.net_values.specs.Net.{Net}
use Rattle.net_values.specs.PlaceSets.{complement, has}
use Rattle.net_values.proofs.PlaceSets.{complement_has}
use Rattle.closed_sets.specs.ClosedSets.{IsGreatestSiphon}
use Rattle.siphon_branch.specs.declared.branch.Branch.{Branch}
use Rattle.siphon_branch.specs.Classes.{HasSize}

-- the places outside the net are in no set of its size
pub has_within : (n : ℕ) (members : List Bool) (p : ℕ) → length members ≡ n → IsTrue (has members p) → p < n
has_within n members p size member =
    elim (cases_lt p n) [
      | inl below ↦ below
      | inr past ↦ absurd (both_ways (has members p) (get_or_past members p false (omega arith)) member)
    ]

-- the greatest siphon in one of two sets with the same places is that in the other
greatest_same : (net : Net) (U U' G : ℕ → Bool) → ((p : ℕ) → p < net.places → U p ≡ U' p) → IsGreatestSiphon net U G → IsGreatestSiphon net U' G
greatest_same net U U' G same greatest = record {
  siphon = greatest.siphon;
  within = λ p below member. sym (same p below) ∙ greatest.within p below member;
  greatest = λ S siphon within. greatest.greatest S siphon (λ p below member. same p below ∙ within p below member);
}

pub greatest_avoiding : (net : Net) (class : Branch) (found : List Bool) → HasSize net.places class → IsGreatestSiphon net (has (complement class.avoids)) (has found) → IsGreatestSiphon net (λ p. not (has class.avoids p)) (has found)
greatest_avoiding net class found size =
    greatest_same net (has (complement class.avoids)) (λ p. not (has class.avoids p)) (has found) (λ p below. complement_has class.avoids p (omega (arith, size.avoids)))
