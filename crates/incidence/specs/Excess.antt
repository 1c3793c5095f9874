-- The two sides of a net's incidence: what a transition gives a place beyond what it takes, and what it
-- takes beyond what it gives.
use Rattle.std.specs.Prelude.{◌≡◌, ℕ, ◌+◌, ◌-◌, length}
use Rattle.net_values.specs.Net.{Net}
use Rattle.incidence.specs.Matrix.{unit_at}
use Rattle.incidence.specs.Tables.{Table, at}
use Rattle.incidence.specs.declared.side.Side.{Side}
use Rattle.incidence.specs.declared.side.Side.TheVariants.{Gain, Loss}

-- the weights of the arcs of a side
abbrev pub arcs_of : Side → Net → ℕ → ℕ → ℕ
arcs_of Gain net = net.post
arcs_of Loss net = net.pre

-- the weights of the arcs of the other side
abbrev pub back_of : Side → Net → ℕ → ℕ → ℕ
back_of Gain net = net.pre
back_of Loss net = net.post

abbrev pub excess_of : Side → Net → ℕ → ℕ → ℕ
excess_of side net p t = arcs_of side net p t - back_of side net p t

-- a table of one side of a net's incidence: a row per place and a column per transition
pub record IsSide (table : Table) (side : Side) (net : Net) : Type 0 where
  pub height : table.height ≡ net.places
  pub width : length table.lists ≡ net.transitions
  pub excess : (p t : ℕ) → at table p t ≡ excess_of side net p t

-- the column of a transition is filled with the excess, and the other columns stay
pub record FillsColumn (old new : Table) (side : Side) (net : Net) (t : ℕ) : Type 0 where
  pub height : new.height ≡ old.height
  pub width : length new.lists ≡ length old.lists
  pub here : (p : ℕ) → at new p t ≡ excess_of side net p t
  pub others : (p u : ℕ) → (u ≡ t → ⊥) → at new p u ≡ at old p u

-- below the rows of the places a row per transition was added, with a 1 at its own column
pub record AddsUnits (old new : Table) (net : Net) : Type 0 where
  pub height : new.height ≡ old.height + net.transitions
  pub width : length new.lists ≡ length old.lists
  pub each : (i t : ℕ) → at new i t ≡ at old i t + unit_at net i t
