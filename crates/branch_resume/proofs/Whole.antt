-- Runs from all siphons to no class are one search: what is grown in the class of all siphons is what is grown, and every
-- minimal siphon is grown. Each run that leaves a class pending meets its share.
use Rattle.std.proofs.Common.{◌≡◌, ◌≢◌, subst, ℕ, ◌+◌, ◌*◌, ◌≤◌, List, [], ◌∷◌, ◌++◌, Bool, length, length-append, inl, inr, mul-add, All, arith}
use Rattle.std.proofs.lemmas.List.{get_or_append_left}
use Rattle.std.specs.List.{AllByRecursion}
use Rattle.std.proofs.lemmas.Map.Made.{length-le_from_is_member, is_member-Decides, IsDistinct-from_AllPairs}
use Rattle.std.proofs.lemmas.List.Elements.{Contains-append_left, Contains-append_right, Contains-append_cases}
use Rattle.certificates.proofs.Lists.{all_each}
use Rattle.net_values.specs.Net.{Net}
use Rattle.net_values.specs.PlaceSets.{has}
use Rattle.closed_sets.specs.MinimalSets.{IsMinimalSet}
use Rattle.siphon_branch.specs.declared.branch.Branch.{Branch}
use Rattle.siphon_branch.specs.Classes.{HasSize, IsGrownSetIn, every_set}
use Rattle.siphon_branch.specs.Limits.{IsGrownSet}
use Rattle.siphon_branch.specs.Met.{IsListOf}
use Rattle.siphon_branch.proofs.Divisions.{some_none, some_one, from_one, pairs_across}
use Rattle.siphon_branch.proofs.Limits.{same_equivalence}
use Rattle.siphon_branch.proofs.MinimalGrown.{minimal_grown}
use Rattle.siphon_branch.proofs.Roots.{grown_everywhere}
use Rattle.siphon_branch.proofs.Sorting.{decides_same}
use Rattle.branch_resume.specs.declared.resumed.Resumed.{Resumed}
use Rattle.branch_resume.specs.Laws.{ListsAreOneSearch, TreesAreOneSearch, CutsArePartings}
use Rattle.branch_resume.specs.Runs.{IsRun, HasLeaves, all_met, all_found, one_if_pending, count_pending}
use Rattle.branch_resume.proofs.Runs.{to_nothing, tree_run, list_tree}

module _ (net : Net) (met found : List (List Bool)) (run : IsRun net (every_set net.places ∷ []) (to_nothing net met found)) where
  whole_met : IsListOf (IsGrownSet net) met
  whole_met = record {
    distinct = run.distinct;
    members = λ set. (
      λ there. (grown_everywhere net set).1 (from_one (IsGrownSetIn net) (every_set net.places) set ((run.grown set).1 (inl there))),
      λ grown. elim ((run.grown set).0 (some_one (IsGrownSetIn net) (every_set net.places) set ((grown_everywhere net set).0 grown))) [
        | inl there ↦ there
        | inr left ↦ absurd (some_none (IsGrownSetIn net) set left)
      ],
    );
  }

  whole_found : IsListOf (IsMinimalSet net) found
  whole_found = record {
    distinct = run.found.distinct;
    members = λ set. (
      λ there.
          let h = (run.found.members set).0 there in
          record { size = ((whole_met.members set).0 h.0).size; minimal = h.1 },
      λ minimal.
          let grown = (whole_met.members set).1 record { size = minimal.size; grown = minimal_grown net (has set) minimal.minimal } in
          (run.found.members set).1 (grown, minimal.minimal),
    );
  }

-- distinct sets of a list are at most as many as it has
at_most : (P : List Bool → Type 0) (sets list : List (List Bool)) → IsListOf P sets → IsListOf P list → length sets ≤ length list
at_most P sets list one other =
    length-le_from_is_member same_equivalence sets list (IsDistinct-from_AllPairs decides_same sets one.distinct)
    (λ q there. (is_member-Decides decides_same list q).1 ((other.members q).1 ((one.members q).0 ((is_member-Decides decides_same sets q).0 there))))

share : (leaves : ℕ) (run : Resumed) → HasLeaves leaves run → leaves * one_if_pending run.pending ≤ length run.met
share leaves run has = go run.pending has.exact where
  go : (pending : List Branch) → (pending ≢ [] → length run.met ≡ leaves) → leaves * one_if_pending pending ≤ length run.met
  go [] exact = omega arith
  go (class ∷ pending) exact = let count = exact (λ none. absurd (cc)) in omega (arith, count)

shares : (leaves : ℕ) (runs : List Resumed) → AllByRecursion (HasLeaves leaves) runs → leaves * count_pending runs ≤ length (all_met runs)
shares leaves [] each = omega arith
shares leaves (run ∷ runs) each =
    let here = share leaves run each.0 in
    let there = shares leaves runs each.1 in
    let size = length-append run.met (all_met runs) in
    let parts : leaves * (one_if_pending run.pending + count_pending runs) ≡ leaves * one_if_pending run.pending + leaves * count_pending runs = mul-add leaves (one_if_pending run.pending) (count_pending runs) in
    omega (arith, here, there, size, parts)

pub trees_of_runs_are_one_search : TreesAreOneSearch
trees_of_runs_are_one_search net runs tree =
    let run = tree_run net (every_set net.places ∷ []) runs tree in
    let met = whole_met net (all_met runs) (all_found runs) run in
    record {
      found = whole_found net (all_met runs) (all_found runs) run;
      met = met;
      number = λ leaves grown each listed.
          let few = shares leaves runs (all_each (HasLeaves leaves) runs each) in
          let fits = at_most (IsGrownSet net) (all_met runs) grown met listed in
          omega (arith, few, fits);
    }

pub lists_of_runs_are_one_search : ListsAreOneSearch
lists_of_runs_are_one_search net runs list = trees_of_runs_are_one_search net runs (list_tree net (every_set net.places ∷ []) runs list)

all_left : {X : Type 0} (P : X → Type 0) (xs ys : List X) → All P (xs ++ ys) → All P xs
all_left P xs ys all k d below = let size = length-append xs ys in subst P (get_or_append_left xs ys d k below) (all k d (omega (arith, below, size)))

pub cut_classes_are_parted : CutsArePartings
cut_classes_are_parted places some others pending = record {
  members = λ class. (Contains-append_cases some others class, λ either. elim either [ inl one ↦ Contains-append_left some others class one | inr other ↦ Contains-append_right some others class other ]);
  sizes = all_left (HasSize places) some others pending.sizes;
  disjoint = pairs_across _ some others pending.disjoint;
}
