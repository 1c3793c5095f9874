-- The least bound of a place that semiflows of places give (G. Memmi and G. Roucairol, "Linear algebra in net
-- theory", 1980; T. Murata, "Petri nets: properties, analysis and applications", 1989, section V).
use Rattle.std.specs.Prelude.{◌≡◌, ℕ, ◌/◌, ◌<◌, ◌≤◌, Option, None, Some}
use Rattle.net_values.specs.Net.{Net}
use Rattle.incidence.specs.Invariance.{weighted_tokens, IsPlaceSemiflow}

-- floor(y.M0 / y(p)), for a semiflow y with y(p) > 0
abbrev pub bound_by : Net → (ℕ → ℕ) → ℕ → ℕ
bound_by net y p = weighted_tokens net y net.initial / y p

-- the least of these over all such semiflows
pub record IsLeastOver (net : Net) (p bound : ℕ) : Type 0 where
  pub attained : (y : ℕ → ℕ) × IsPlaceSemiflow net y × (0 < y p) × (bound ≡ bound_by net y p)
  pub least : (y : ℕ → ℕ) → IsPlaceSemiflow net y → 0 < y p → bound ≤ bound_by net y p

-- the least bound of a place: none where no semiflow covers it
abbrev pub IsLeastBound : Net → ℕ → Option ℕ → Type 0
IsLeastBound net p None = (y : ℕ → ℕ) → IsPlaceSemiflow net y → 0 < y p → ⊥
IsLeastBound net p (Some bound) = IsLeastOver net p bound
