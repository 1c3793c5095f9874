-- What is read of bytes is one thing; and the runs of a list, or of a tree, are one search.
use Rattle.std.specs.Prelude.{◌≡◌, ◌≤◌, ◌⊎◌, ℕ, ◌*◌, List, [], ◌∷◌, ◌++◌, All, Bool, length}
use Rattle.net_values.specs.Net.{Net}
use Rattle.net_values.specs.declared.limits.TheConstants.{MAX_PLACES}
use Rattle.closed_sets.specs.MinimalSets.{IsMinimalSet}
use Rattle.siphon_branch.specs.declared.branch.Branch.{Branch}
use Rattle.siphon_branch.specs.Classes.{every_set}
use Rattle.siphon_branch.specs.Limits.{IsGrownSet}
use Rattle.siphon_branch.specs.Met.{IsListOf}
use Rattle.branch_resume.specs.declared.resumed.Resumed.{Resumed}
use Rattle.branch_resume.specs.Tokens.{token_text}
use Rattle.branch_resume.specs.Pending.{ArePending, ReadsPending, IsMalformedAt, IsRejectedAt}
use Rattle.branch_resume.specs.Runs.{ArePartedAmong, HasLeaves, IsResumed, IsListOfRuns, IsTreeOfRuns, all_found, all_met, count_pending}

-- bytes stand for one list of pending classes, or have one malformed line, or one rejected line, and only one of these
pub record OnePendingReading (places : ℕ) (bytes : List ℕ) : Type 0 where
  pub classes : (one other : List Branch) → ReadsPending places bytes one → ReadsPending places bytes other → one ≡ other
  pub malformed : (one other : ℕ) → IsMalformedAt bytes one → IsMalformedAt bytes other → one ≡ other
  pub rejected : (one other : ℕ) → IsRejectedAt places bytes one → IsRejectedAt places bytes other → one ≡ other
  pub read_or_malformed : (classes : List Branch) (line : ℕ) → ReadsPending places bytes classes → IsMalformedAt bytes line → ⊥
  pub read_or_rejected : (classes : List Branch) (line : ℕ) → ReadsPending places bytes classes → IsRejectedAt places bytes line → ⊥
  pub malformed_or_rejected : (one other : ℕ) → IsMalformedAt bytes one → IsRejectedAt places bytes other → ⊥

abbrev pub OneReading : Type 0
OneReading = (places : ℕ) (bytes : List ℕ) → OnePendingReading places bytes

-- bytes stand for pending classes of the net, or a line of theirs is malformed, or one is rejected
abbrev pub IsReadOrRefused : ℕ → List ℕ → Type 0
IsReadOrRefused places bytes =
    ((classes : List Branch) × ReadsPending places bytes classes) ⊎ (((line : ℕ) × IsMalformedAt bytes line) ⊎ ((line : ℕ) × IsRejectedAt places bytes line))

abbrev pub SomeReading : Type 0
SomeReading = (places : ℕ) (bytes : List ℕ) → places ≤ MAX_PLACES → IsReadOrRefused places bytes

-- there is a run from any classes of a net, with any number of leaves
abbrev pub SomeRun : Type 0
SomeRun = (net : Net) (classes : List Branch) (leaves : ℕ) → (run : Resumed) × IsResumed net leaves classes run

-- the token of pending classes is read as these classes, whatever follows it, and as no others
pub record IsReadBack (places : ℕ) (classes : List Branch) (bytes : List ℕ) : Type 0 where
  pub read : ReadsPending places bytes classes
  pub only : OnePendingReading places bytes

abbrev pub TokensAreReadBack : Type 0
TokensAreReadBack = (places : ℕ) (classes : List Branch) (more : List ℕ) → places ≤ MAX_PLACES → ArePending places classes → IsReadBack places classes (token_text classes ++ more)

-- together the runs find the minimal siphons, each once, and meet the grown ones, each once; and where each run has the
-- same leaves, at most as many leave a class pending as the number of grown siphons has times these leaves
pub record AreOneSearch (net : Net) (runs : List Resumed) : Type 0 where
  pub found : IsListOf (IsMinimalSet net) (all_found runs)
  pub met : IsListOf (IsGrownSet net) (all_met runs)
  pub number : (leaves : ℕ) (grown : List (List Bool)) → All (HasLeaves leaves) runs → IsListOf (IsGrownSet net) grown → leaves * count_pending runs ≤ length grown

abbrev pub ListsAreOneSearch : Type 0
ListsAreOneSearch = (net : Net) (runs : List Resumed) → IsListOfRuns net (every_set net.places ∷ []) runs → AreOneSearch net runs

abbrev pub TreesAreOneSearch : Type 0
TreesAreOneSearch = (net : Net) (runs : List Resumed) → IsTreeOfRuns net (every_set net.places ∷ []) runs → AreOneSearch net runs

-- pending classes that are cut between two of them are parted
abbrev pub CutsArePartings : Type 0
CutsArePartings = (places : ℕ) (some others : List Branch) → ArePending places (some ++ others) → ArePartedAmong places (some ++ others) some others
