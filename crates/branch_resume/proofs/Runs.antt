-- Runs one after the other are one run, and so are runs of classes that are parted: what they meet is apart, and what is
-- grown in no class is nothing.
use Rattle.std.proofs.Common.{◌≡◌, ◌↔◌, ◌⊎◌, sym, subst, ℕ, ◌<◌, List, [], ◌∷◌, ◌++◌, Bool, length, inl, inr, Contains, get_or, arith}
use Rattle.std.proofs.lemmas.Grind.{flat_map-append}
use Rattle.std.proofs.lemmas.List.Elements.{Contains-append_left, Contains-append_right, Contains-append_cases}
use Rattle.net_values.specs.Net.{Net}
use Rattle.siphon_branch.specs.declared.branch.Branch.{Branch}
use Rattle.siphon_branch.specs.Classes.{HasSize, IsGrownSetIn}
use Rattle.siphon_branch.specs.Met.{IsListOf}
use Rattle.siphon_branch.specs.Searches.{IsMinimalOf}
use Rattle.siphon_branch.proofs.Divisions.{some_none, grown_apart}
use Rattle.siphon_branch.proofs.Lists.{distinct_append, contains_none}
use Rattle.branch_resume.specs.declared.resumed.Resumed.{Resumed}
use Rattle.branch_resume.specs.Runs.{IsGrownInSome, IsRun, ArePartedAmong, IsTreeOfRuns, ended, goes_on, parted, IsListOfRuns, all_met, all_found}

-- the run of two runs: what both meet and find, and what the second leaves
abbrev pub joined_run : Resumed → Resumed → Resumed
joined_run one other = record { found = one.found ++ other.found; met = one.met ++ other.met; pending = other.pending }

-- what both find is what is minimal of what both meet
found_both : (net : Net) (met more found others : List (List Bool)) → IsListOf (IsMinimalOf net met) found → IsListOf (IsMinimalOf net more) others → ((set : List Bool) → Contains met set → Contains more set → ⊥)
    → IsListOf (IsMinimalOf net (met ++ more)) (found ++ others)
found_both net met more found others one other apart = record {
  distinct = distinct_append found others one.distinct other.distinct (λ set first then. apart set ((one.members set).0 first).0 ((other.members set).0 then).0);
  members = λ set. (
    λ some. elim (Contains-append_cases found others set some) [
      | inl here ↦ let h = (one.members set).0 here in (Contains-append_left met more set h.0, h.1)
      | inr there ↦ let h = (other.members set).0 there in (Contains-append_right met more set h.0, h.1)
    ],
    λ minimal. elim (Contains-append_cases met more set minimal.0) [
      | inl here ↦ Contains-append_left found others set ((one.members set).1 (here, minimal.1))
      | inr there ↦ Contains-append_right found others set ((other.members set).1 (there, minimal.1))
    ],
  );
}

module _ (net : Net) where
  -- a run and then one from what it leaves
  pub run_on : (classes : List Branch) (one other : Resumed) → IsRun net classes one → IsRun net one.pending other → IsRun net classes (joined_run one other)
  run_on classes one other first then =
      let apart : (set : List Bool) → Contains one.met set → Contains other.met set → ⊥ = λ set here there. first.apart set here ((then.grown set).1 (inl there)) in
      record {
        grown = λ set. (
          λ grown. elim ((first.grown set).0 grown) [
            | inl here ↦ inl (Contains-append_left one.met other.met set here)
            | inr left ↦ elim ((then.grown set).0 left) [
              | inl there ↦ inl (Contains-append_right one.met other.met set there)
              | inr pending ↦ inr pending
            ]
          ],
          λ either. elim either [
            | inl some ↦ elim (Contains-append_cases one.met other.met set some) [
              | inl here ↦ (first.grown set).1 (inl here)
              | inr there ↦ (first.grown set).1 (inr ((then.grown set).1 (inl there)))
            ]
            | inr pending ↦ (first.grown set).1 (inr ((then.grown set).1 (inr pending)))
          ],
        );
        distinct = distinct_append one.met other.met first.distinct then.distinct apart;
        apart = λ set some pending. elim (Contains-append_cases one.met other.met set some) [
          | inl here ↦ first.apart set here ((then.grown set).1 (inr pending))
          | inr there ↦ then.apart set there pending
        ];
        found = found_both net one.met other.met one.found other.found first.found then.found apart;
      }

  -- runs of parted classes to no class
  parted_grown : (classes some others : List Branch) (set : List Bool) → ArePartedAmong net.places classes some others → IsGrownInSome net classes set ↔ (IsGrownInSome net some set ⊎ IsGrownInSome net others set)
  parted_grown classes some others set parts = (
    λ grown. elim ((parts.members grown.class).0 grown.listed) [
      | inl one ↦ inl record { class = grown.class; listed = one; holds = grown.holds }
      | inr other ↦ inr record { class = grown.class; listed = other; holds = grown.holds }
    ],
    λ either. elim either [
      | inl one ↦ record { class = one.class; listed = (parts.members one.class).1 (inl one.listed); holds = one.holds }
      | inr other ↦ record { class = other.class; listed = (parts.members other.class).1 (inr other.listed); holds = other.holds }
    ],
  )

  listed_size : (classes : List Branch) (class : Branch) → ((k : ℕ) (d : Branch) → k < length classes → HasSize net.places (get_or classes k d)) → Contains classes class → HasSize net.places class
  listed_size classes class sizes there = subst (HasSize net.places) there.2 (sizes there.0 class there.1)

  not_in_both : (classes some others : List Branch) (set : List Bool) → ArePartedAmong net.places classes some others → IsGrownInSome net some set → IsGrownInSome net others set → ⊥
  not_in_both classes some others set parts one other =
      grown_apart net one.class other.class set (listed_size some one.class parts.sizes one.listed) (parts.disjoint one.class other.class one.listed other.listed) one.holds other.holds

  abbrev pub to_nothing : List (List Bool) → List (List Bool) → Resumed
  to_nothing met found = record { found = found; met = met; pending = [] }

  pub run_parted : (classes some others : List Branch) (met more found extra : List (List Bool)) → ArePartedAmong net.places classes some others → IsRun net some (to_nothing met found) → IsRun net others (to_nothing more extra)
      → IsRun net classes (to_nothing (met ++ more) (found ++ extra))
  run_parted classes some others met more found extra parts first then =
      let apart : (set : List Bool) → Contains met set → Contains more set → ⊥ = λ set here there. not_in_both classes some others set parts ((first.grown set).1 (inl here)) ((then.grown set).1 (inl there)) in
      record {
        grown = λ set. (
          λ grown. elim ((parted_grown classes some others set parts).0 grown) [
            | inl one ↦ elim ((first.grown set).0 one) [
              | inl here ↦ inl (Contains-append_left met more set here)
              | inr left ↦ absurd (some_none (IsGrownSetIn net) set left)
            ]
            | inr other ↦ elim ((then.grown set).0 other) [
              | inl there ↦ inl (Contains-append_right met more set there)
              | inr left ↦ absurd (some_none (IsGrownSetIn net) set left)
            ]
          ],
          λ either. elim either [
            | inl listed ↦ elim (Contains-append_cases met more set listed) [
              | inl here ↦ (parted_grown classes some others set parts).1 (inl ((first.grown set).1 (inl here)))
              | inr there ↦ (parted_grown classes some others set parts).1 (inr ((then.grown set).1 (inl there)))
            ]
            | inr left ↦ absurd (some_none (IsGrownSetIn net) set left)
          ],
        );
        distinct = distinct_append met more first.distinct then.distinct apart;
        apart = λ set there left. some_none (IsGrownSetIn net) set left;
        found = found_both net met more found extra first.found then.found apart;
      }

  run_nothing : IsRun net [] (to_nothing [] [])
  run_nothing = record {
    grown = λ set. (λ grown. absurd (some_none (IsGrownSetIn net) set grown), λ either. elim either [ inl there ↦ absurd (contains_none set there) | inr left ↦ left ]);
    distinct = λ i j d less within same. absurd (omega arith);
    apart = λ set there left. contains_none set there;
    found = record {
      distinct = λ i j d less within same. absurd (omega arith);
      members = λ set. (λ there. absurd (contains_none set there), λ minimal. absurd (contains_none set minimal.0));
    };
  }

  -- the runs of a tree are together one run to no class
  pub tree_run : (classes : List Branch) (runs : List Resumed) → IsTreeOfRuns net classes runs → IsRun net classes (to_nothing (all_met runs) (all_found runs))
  tree_run _ _ ended = run_nothing
  tree_run _ _ (goes_on {classes} {runs} run is rest) = run_on classes run (to_nothing (all_met runs) (all_found runs)) is (tree_run run.pending runs rest)
  tree_run _ _ (parted {classes} {some} {others} {runs} {more} parts one other) =
      let met : all_met (runs ++ more) ≡ all_met runs ++ all_met more = flat_map-append (λ (run : Resumed). run.met) runs more in
      let found : all_found (runs ++ more) ≡ all_found runs ++ all_found more = flat_map-append (λ (run : Resumed). run.found) runs more in
      let both = run_parted classes some others (all_met runs) (all_met more) (all_found runs) (all_found more) parts (tree_run some runs one) (tree_run others more other) in
      subst (λ (list : List (List Bool)). IsRun net classes (to_nothing list (all_found (runs ++ more)))) (sym met)
      (subst (λ (list : List (List Bool)). IsRun net classes (to_nothing (all_met runs ++ all_met more) list)) (sym found) both)

  -- a list of runs is a tree of them
  pub list_tree : (classes : List Branch) (runs : List Resumed) → IsListOfRuns net classes runs → IsTreeOfRuns net classes runs
  list_tree classes [] list = subst (λ (cs : List Branch). IsTreeOfRuns net cs []) (sym list) ended
  list_tree classes (run ∷ runs) list = goes_on run list.0 (list_tree run.pending runs list.1)
