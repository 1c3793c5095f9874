-- A place of a set is needed where no nonempty siphon in the set lacks it.
use Rattle.std.specs.Prelude.{◌≡◌, ◌+◌, ℕ, List, Bool, IsTrue, Contains, length}
use Rattle.net_values.specs.Net.{Net}
use Rattle.net_values.specs.PlaceSets.{has}
use Rattle.closed_sets.specs.ClosedSets.{HasSiphonWithout}
use Rattle.closed_sets.specs.Passes.{members}

-- the place is in the set, and no nonempty siphon in the set lacks it
pub record IsNeeded (net : Net) (set : List Bool) (p : ℕ) : Type 0 where
  pub member : IsTrue (has set p)
  pub none : HasSiphonWithout net (has set) p → ⊥

-- each marked place is needed
abbrev pub AreNeeded : Net → List Bool → List Bool → Type 0
AreNeeded net set needed = (q : ℕ) → IsTrue (has needed q) → IsNeeded net set q

-- needed places were marked and listed, each once
pub record NeedsMore (net : Net) (set old new : List Bool) (before after : List ℕ) : Type 0 where
  pub size : length new ≡ length old
  pub kept : (q : ℕ) → IsTrue (has old q) → IsTrue (has new q)
  pub all : AreNeeded net set new
  pub listed : (q : ℕ) → Contains after q → IsNeeded net set q
  pub count : length after + members old ≡ length before + members new
