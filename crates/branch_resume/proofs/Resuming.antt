-- What a search has met after one call is a run from its classes.
use Rattle.std.proofs.Common.{◌≡◌, ap, ◌∙◌, subst, ℕ, List, Bool, length, get_or, inl, All}
use Rattle.std.specs.List.Sorted.{IsPermutation}
use Rattle.std.proofs.lemmas.List.Elements.{Contains-get_or}
use Rattle.std.proofs.lemmas.List.Sorted.{Contains-permutation, IsPermutation-sym}
use Rattle.net_values.specs.FlatNets.{NetLists, net_of}
use Rattle.net_values.specs.Net.{Net}
use Rattle.siphon_branch.specs.declared.branch.Branch.{Branch}
use Rattle.siphon_branch.specs.Met.{IsListOf}
use Rattle.siphon_branch.specs.Searches.{Begins, GoesOn, IsDivided, IsMinimalOf, IsSearch, SearchValue, searched_net}
use Rattle.siphon_branch.proofs.Sorting.{distinct_sorted}
use Rattle.branch_resume.specs.declared.resumed.Resumed.{Resumed}
use Rattle.branch_resume.specs.Runs.{IsRun}

list_sorted : (P : List Bool → Type 0) (list sorted : List (List Bool)) → IsPermutation list sorted → IsListOf P list → IsListOf P sorted
list_sorted P list sorted moved is = record {
  distinct = distinct_sorted list sorted moved is.distinct;
  members = λ set. (
    λ there. (is.members set).0 (Contains-permutation sorted list set (IsPermutation-sym list sorted moved) there),
    λ holds. Contains-permutation list sorted set moved ((is.members set).1 holds),
  );
}

pub run_of : (lists : NetLists) (classes : List Branch) (leaves : ℕ) (old new : SearchValue) (sorted : List (List Bool)) → Begins lists classes leaves old → GoesOn leaves old new → IsSearch new → IsPermutation new.found sorted
    → IsRun (net_of lists) classes record { found = sorted; met = new.met; pending = new.pending }
run_of lists classes leaves old new sorted begins on is moved =
    let net : searched_net new ≡ net_of lists = ap net_of (on.lists ∙ begins.lists) in
    let divided : IsDivided (net_of lists) classes new.pending new.met =
    subst (λ (n : Net). IsDivided n classes new.pending new.met) net (subst (λ (cs : List Branch). IsDivided (searched_net new) cs new.pending new.met) (on.origin ∙ begins.origin) is.divided) in
    let found : IsListOf (IsMinimalOf (net_of lists) new.met) new.found = subst (λ (n : Net). IsListOf (IsMinimalOf n new.met) new.found) net is.found in
    record {
      grown = divided.grown;
      distinct = divided.distinct;
      apart = divided.apart;
      found = list_sorted (IsMinimalOf (net_of lists) new.met) new.found sorted moved found;
    }

-- what a run finds are sets of places of the net
pub found_sizes : (net : Net) (classes : List Branch) (run : Resumed) → IsRun net classes run → All (λ set. length set ≡ net.places) run.found
found_sizes net classes run is k d below =
    let met = ((is.found.members (get_or run.found k d)).0 (Contains-get_or run.found k d below)).0 in
    ((is.grown (get_or run.found k d)).1 (inl met)).holds.size
