-- What a search tells: its parts are as its type says, so the grown siphons are met or grown in a pending class, and
-- where none is pending the minimal ones that were found are all.
use Rattle.std.proofs.Common.{◌≡◌, sym, ap, ◌∙◌, subst, ℕ, ◌+◌, ◌≤◌, List, [], ◌∷◌, Bool, suc, length, get_or, inl, inr, All, Ok, arith}
use Rattle.std.specs.Cmp.Lexicographic.{slice_cmp}
use Rattle.std.specs.List.Sorted.{IsPermutation, IsSorted}
use Rattle.std.specs.Ordering.{bool_cmp}
use Rattle.std.proofs.lemmas.Bool.{both_ways, cases_Bool}
use Rattle.std.proofs.lemmas.List.Elements.{All-map}
use Rattle.net_values.specs.FlatNets.{NetLists, net_of}
use Rattle.net_values.specs.Net.{Net}
use Rattle.net_values.specs.PlaceSets.{has}
use Rattle.net_values.specs.TheList.{IsTheList}
use Rattle.closed_sets.specs.ClosedSets.{any_below, IsMinimalSiphon}
use Rattle.closed_sets.specs.Growth.{Belongs, IsGrownIn}
use Rattle.closed_sets.specs.MinimalSets.{IsMinimalSet}
use Rattle.closed_sets.proofs.Below.{any_at, any_from}
use Rattle.closed_sets.proofs.Outside.{outside}
use Rattle.siphon_branch.specs.declared.branch.Branch.{Branch}
use Rattle.siphon_branch.specs.declared.live_class.LiveClass.{LiveClass}
use Rattle.siphon_branch.specs.declared.progress.Progress.{Progress}
use Rattle.siphon_branch.specs.declared.progress.Progress.TheVariants.{Done}
use Rattle.siphon_branch.specs.Classes.{HasSize, IsConsistent, IsGrownSetIn, IsSetIn, every_set}
use Rattle.siphon_branch.specs.LiveClasses.{branch_of, branches_of, IsHeld}
use Rattle.siphon_branch.specs.Held.{IsHeldSearch}
use Rattle.siphon_branch.specs.Limits.{HasAtMostGrown, PassesLimit}
use Rattle.siphon_branch.specs.Searches.{Answers, Begins, DividesAll, GoesOn, InSome, IsDivided, IsSearch, SearchValue, SplitsMinimal, StartedFromAll, searched_net}
use Rattle.siphon_branch.proofs.HeldClasses.{held_consistent}
use Rattle.siphon_branch.proofs.MinimalGrown.{grows_in, growth_other, minimal_grown}
use Rattle.siphon_branch.proofs.Roots.{every_divided, every_few, every_met, every_passes}
use Rattle.siphon_branch.proofs.Sorting.{the_list}

-- what holds of each held class holds of each of the classes alone
all_branches : (net : Net) (P : Branch → Type 0) (classes : List LiveClass) → ((class : LiveClass) → IsHeld net class → P (branch_of class)) → All (IsHeld net) classes → All P (branches_of classes)
all_branches net P classes follows held = All-map P branch_of classes (λ k d within. follows (get_or classes k d) (held k d within))

module _ (lists : NetLists) (origin : List Branch) (classes : List LiveClass) (pending : List Branch) (met found : List (List Bool)) (limit : ℕ) (held : IsHeldSearch (net_of lists) origin classes pending met found limit) where
  pub search_from : IsSearch record { lists = lists; origin = origin; pending = pending; met = met; found = found; limit = limit }
  search_from = record {
    divided = subst (λ (xs : List Branch). IsDivided (net_of lists) origin xs met) (sym held.alone) held.underway.divided;
    found = held.underway.minimal;
    sizes = subst (λ (xs : List Branch). All (HasSize (net_of lists).places) xs) (sym held.alone) (all_branches (net_of lists) (HasSize (net_of lists).places) classes (λ class here. here.size) held.underway.live);
    consistent = subst (λ (xs : List Branch). All IsConsistent xs) (sym held.alone) (all_branches (net_of lists) IsConsistent classes (held_consistent (net_of lists)) held.underway.live);
    room = held.room;
  }

-- a minimal siphon of a class is grown in it
minimal_grown_in : (net : Net) (C A S : ℕ → Bool) → IsMinimalSiphon net S → Belongs net C A S → IsGrownIn net C A S
minimal_grown_in net C A S minimal belongs = record {
  siphon = minimal.siphon;
  belongs = belongs;
  grows = elim (cases_Bool (any_below net.places C)) [
    | inl some ↦
        let grown = grows_in (suc (outside net.places C)) net S C minimal.siphon belongs.has_all (omega arith) in
        let at = any_from net.places C some in
        let filled = any_at net.places grown.S at.0 at.1 (grown.contains at.0 at.1 at.2) in
        inl (some, growth_other net S grown.S C (minimal.least grown.S grown.siphon filled grown.within) grown.within grown.grows)
    | inr none ↦ inr (λ some. both_ways (any_below net.places C) none some, minimal_grown net S minimal)
  ];
}

module _ (search : SearchValue) (holds : IsSearch search) where
  abbrev net : Net
  net = searched_net search

  to_sets : (classes : List Branch) (set : List Bool) → InSome (IsGrownSetIn net) classes set → InSome (IsSetIn net) classes set
  to_sets classes set some = record { class = some.class; listed = some.listed; holds = record { size = some.holds.size; belongs = some.holds.grown.belongs } }

  to_grown : (classes : List Branch) (set : List Bool) → IsMinimalSiphon net (has set) → InSome (IsSetIn net) classes set → InSome (IsGrownSetIn net) classes set
  to_grown classes set minimal some = record {
    class = some.class;
    listed = some.listed;
    holds = record { size = some.holds.size; grown = minimal_grown_in net (has some.class.contains) (has some.class.avoids) (has set) minimal some.holds.belongs };
  }

  pub splits_minimal : SplitsMinimal search
  splits_minimal = record {
    minimal = λ set minimal. (
      λ some. elim ((holds.divided.grown set).0 (to_grown search.origin set minimal some)) [
        | inl there ↦ inl ((holds.found.members set).1 (there, minimal))
        | inr pending ↦ inr (to_sets search.pending set pending)
      ],
      λ either. elim either [
        | inl there ↦ to_sets search.origin set ((holds.divided.grown set).1 (inl ((holds.found.members set).0 there).0))
        | inr pending ↦ to_sets search.origin set ((holds.divided.grown set).1 (inr (to_grown search.pending set minimal pending)))
      ],
    );
  }

  module _ (all : StartedFromAll search) where
    from_all : IsDivided net (every_set net.places ∷ []) search.pending search.met
    from_all = subst (λ (xs : List Branch). IsDivided net xs search.pending search.met) all holds.divided

    pub divides_all : DividesAll search
    divides_all = every_divided net search.pending search.met from_all

    pub passes : length search.met ≡ search.limit + 1 → PassesLimit net search.limit search.met
    passes = every_passes net search.pending search.met from_all search.limit

    module _ (none : search.pending ≡ []) where
      none_left : IsDivided net (every_set net.places ∷ []) [] search.met
      none_left = subst (λ (xs : List Branch). IsDivided net (every_set net.places ∷ []) xs search.met) none from_all

      pub at_most : length search.met ≤ search.limit → HasAtMostGrown net search.limit
      at_most = every_few net search.met none_left search.limit

      pub listed : (sorted : List (List Bool)) → IsPermutation search.found sorted → IsSorted (slice_cmp bool_cmp) sorted → IsTheList (slice_cmp bool_cmp) (IsMinimalSet net) sorted
      listed sorted moved up = the_list net search.met search.found sorted (every_met net search.met none_left) holds.found moved up

-- a search over all siphons of the net with this limit
pub record IsOverAll (net_lists : NetLists) (sets : ℕ) (search : SearchValue) : Type 0 where
  pub lists : search.lists ≡ net_lists
  pub origin : search.origin ≡ every_set (net_of net_lists).places ∷ []
  pub limit : search.limit ≡ sets

pub over_all_begins : (lists : NetLists) (sets : ℕ) (search : SearchValue) → Begins lists (every_set (net_of lists).places ∷ []) sets search → IsOverAll lists sets search
over_all_begins lists sets search begins = record { lists = begins.lists; origin = begins.origin; limit = begins.limit }

pub over_all_on : (lists : NetLists) (sets leaves : ℕ) (old new : SearchValue) → GoesOn leaves old new → IsOverAll lists sets old → IsOverAll lists sets new
over_all_on lists sets leaves old new on over = record { lists = on.lists ∙ over.lists; origin = on.origin ∙ over.origin; limit = on.limit ∙ over.limit }

pub over_all_started : (lists : NetLists) (sets : ℕ) (search : SearchValue) → IsOverAll lists sets search → StartedFromAll search
over_all_started lists sets search over = over.origin ∙ ap (λ (some : NetLists). every_set (net_of some).places ∷ []) (sym over.lists)

pub done_none : (leaves : ℕ) (old new : SearchValue) (progress : Progress) → progress ≡ Done → Answers leaves old new (Ok progress) → new.pending ≡ []
done_none leaves old new progress same answer = (subst (λ (p : Progress). Answers leaves old new (Ok p)) same answer).0
