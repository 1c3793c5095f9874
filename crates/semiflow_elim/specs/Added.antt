-- What a step adds to its rows before those that aren't zero rows go.
use Rattle.std.specs.Prelude.{ℕ, ◌≤◌, List, length}
use Rattle.incidence.specs.Matrix.{Matrix}
use Rattle.semiflow_elim.specs.Adjacent.{AreJoined}
use Rattle.semiflow_elim.specs.Candidates.{AreSums, all_offers}
use Rattle.semiflow_elim.specs.declared.signs.RowSums.{RowSums}

pub record IsAdded (m : Matrix) (c : ℕ) (rows : List (List ℕ)) (sums : List RowSums) (joined : List (List ℕ)) : Type 0 where
  pub sums_are : AreSums m c rows sums (length rows)
  pub joined_are : AreJoined m c rows joined (length rows) 0
  pub count : length joined ≤ all_offers sums (length rows)
