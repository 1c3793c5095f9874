-- From any classes there is a run with so many leaves: it meets the first of the siphons that are grown in them, in
-- ascending order, and leaves each of the others pending in a class of its own, which contains its places and avoids all
-- others.
use Rattle.std.proofs.Common.{◌≡◌, ◌⊎◌, refl, sym, ap, ◌∙◌, subst, ℕ, ◌<◌, List, [], ◌∷◌, ◌++◌, Bool, false, length, map, not, take, drop, get_or, inl, inr, AllPairs, Contains, arith}
use Rattle.std.proofs.lemmas.Bool.{both_ways, cases_Bool, cases_eq, cases_lt, not_from_false, not-true}
use Rattle.std.proofs.lemmas.List.{get_or-map, get_or_default, length-map, length-take-le, same_lists, take-append-drop, take_all, drop_all}
use Rattle.std.proofs.lemmas.List.Elements.{Contains-append_left, Contains-append_right, Contains-append_cases, Contains-get_or}
use Rattle.std.proofs.lemmas.Map.Made.{is_member-Decides}
use Rattle.std.specs.Set.{is_member}
use Rattle.std.specs.declared.cmp.Ordering.TheVariants.{Less}
use Rattle.std.specs.Cmp.Lexicographic.{slice_cmp}
use Rattle.std.specs.Ordering.{bool_cmp}
use Rattle.net_values.specs.Net.{Net}
use Rattle.net_values.specs.PlaceSets.{complement, has}
use Rattle.net_values.specs.TheList.{IsStrictlyAscending, IsTheList}
use Rattle.net_values.proofs.PlaceSets.{complement_has}
use Rattle.closed_sets.specs.Growth.{whole}
use Rattle.closed_sets.proofs.Below.{any_at, any_from}
use Rattle.siphon_branch.specs.declared.branch.Branch.{Branch}
use Rattle.siphon_branch.specs.Classes.{AreDisjoint, HasSize, IsConsistent, IsGrownSetIn}
use Rattle.siphon_branch.specs.Limits.{AreDistinct}
use Rattle.siphon_branch.specs.Searches.{IsMinimalOf}
use Rattle.siphon_branch.proofs.AllSets.{Decided, Sized, the_list_of}
use Rattle.siphon_branch.proofs.ClassDecisions.{decide_grown_in}
use Rattle.siphon_branch.proofs.Complements.{has_within}
use Rattle.siphon_branch.proofs.Decisions.{decide_minimal}
use Rattle.siphon_branch.proofs.Divisions.{pairs_across, pairs_left, pairs_right, some_none, some_right, some_cases, some_one, some_left, from_one}
use Rattle.siphon_branch.proofs.Limits.{less_is_other}
use Rattle.siphon_branch.proofs.Sorting.{same_sets, decides_same}
use Rattle.branch_resume.specs.declared.resumed.Resumed.{Resumed}
use Rattle.branch_resume.specs.Laws.{SomeRun}
use Rattle.branch_resume.specs.Pending.{ArePending}
use Rattle.branch_resume.specs.Runs.{HasLeaves, IsGrownInSome, IsResumed, IsRun}
use Rattle.branch_resume.proofs.Overlaps.{decide_disjoint}

-- ---- what is decided of a set

module _ (net : Net) where
  decide_grown_set : (class : Branch) (set : List Bool) → Decided (IsGrownSetIn net class set)
  decide_grown_set class set =
      elim (cases_eq (length set) net.places) [
        | inr other ↦ inr (λ grown. other grown.size)
        | inl size ↦ elim (decide_grown_in net (has class.contains) (has class.avoids) (has set)) [
          | inl grown ↦ inl record { size = size; grown = grown }
          | inr fails ↦ inr (λ grown. fails grown.grown)
        ]
      ]

  decide_in_some : (classes : List Branch) (set : List Bool) → Decided (IsGrownInSome net classes set)
  decide_in_some [] set = inr (some_none (IsGrownSetIn net) set)
  decide_in_some (class ∷ classes) set =
      elim (decide_grown_set class set) [
        | inl grown ↦ inl (some_left (IsGrownSetIn net) (class ∷ []) classes set (some_one (IsGrownSetIn net) class set grown))
        | inr fails ↦ elim (decide_in_some classes set) [
          | inl some ↦ inl (some_right (IsGrownSetIn net) (class ∷ []) classes set some)
          | inr none ↦ inr (λ some. elim (some_cases (IsGrownSetIn net) (class ∷ []) classes set some) [
            | inl first ↦ fails (from_one (IsGrownSetIn net) class set first)
            | inr later ↦ none later
          ])
        ]
      ]

  decide_minimal_of : (met : List (List Bool)) (set : List Bool) → Decided (IsMinimalOf net met set)
  decide_minimal_of met set =
      elim (cases_Bool (is_member same_sets met set)) [
        | inr out ↦ inr (λ minimal. both_ways (is_member same_sets met set) out ((is_member-Decides decides_same met set).1 minimal.0))
        | inl there ↦ elim (decide_minimal net (has set)) [
          | inl minimal ↦ inl ((is_member-Decides decides_same met set).0 there, minimal)
          | inr fails ↦ inr (λ minimal. fails minimal.1)
        ]
      ]

-- ---- the class of one set

abbrev class_of : List Bool → Branch
class_of set = record { contains = set; avoids = complement set }

-- sets of one size whose classes aren't disjoint are equal
equal_or_disjoint : (one other : List Bool) → length one ≡ length other → (one ≡ other) ⊎ AreDisjoint (class_of one) (class_of other)
equal_or_disjoint one other size = elim (decide_disjoint (class_of one) (class_of other)) [
  | inl disjoint ↦ inr disjoint
  | inr overlap ↦ inl (same_sets_of overlap)
] where
  same_sets_of : (AreDisjoint (class_of one) (class_of other) → ⊥) → one ≡ other
  same_sets_of overlap = same_lists one other size (λ p d below.
      get_or_default one p d false below ∙ same_at overlap p below ∙ get_or_default other p false d (omega (arith, below, size)))
    where
      same_at : (AreDisjoint (class_of one) (class_of other) → ⊥) → (p : ℕ) → p < length one → has one p ≡ has other p
      same_at overlap p below =
          elim (cases_Bool (has one p)) [
            | inl first ↦ elim (cases_Bool (has other p)) [
              | inl second ↦ first ∙ sym second
              | inr out ↦ absurd (overlap record { place = p; apart = inl (first, complement_has other p (omega (arith, below, size)) ∙ not_from_false (has other p) out) })
            ]
            | inr out ↦ elim (cases_Bool (has other p)) [
              | inl second ↦ absurd (overlap record { place = p; apart = inr (complement_has one p below ∙ not_from_false (has one p) out, second) })
              | inr neither ↦ out ∙ sym neither
            ]
          ]

module _ (net : Net) (set : List Bool) (size : length set ≡ net.places) where
  class_size : HasSize net.places (class_of set)
  class_size = record { contains = size; avoids = length-map set not ∙ size }

  class_consistent : IsConsistent (class_of set)
  class_consistent p member avoided =
      let below = has_within (length set) set p refl member in
      both_ways (has set p) (not-true (has set p) (sym (complement_has set p below) ∙ avoided)) member

  -- a siphon of the class has the places of the set and no others
  only_this : (other : List Bool) → IsGrownSetIn net (class_of set) other → other ≡ set
  only_this other grown = elim (equal_or_disjoint other set (grown.size ∙ sym size)) [
    | inl same ↦ same
    | inr disjoint ↦ absurd (elim disjoint.apart [
      | inl holds ↦
          let below = has_within net.places other disjoint.place grown.size holds.0 in
          both_ways (has other disjoint.place) (grown.grown.belongs.has_none disjoint.place below holds.1) holds.0
      | inr holds ↦
          let below = has_within net.places set disjoint.place size holds.1 in
          let out = not-true (has other disjoint.place) (sym (complement_has other disjoint.place (let same = grown.size in omega (arith, below, same))) ∙ holds.0) in
          both_ways (has other disjoint.place) out (grown.grown.belongs.has_all disjoint.place below holds.1)
    ])
  ]

  -- a siphon that is grown in some class is grown in its own
  grown_alone : (classes : List Branch) → IsGrownInSome net classes set → IsGrownSetIn net (class_of set) set
  grown_alone classes some =
      let grown = some.holds.grown in
      record {
        size = size;
        grown = record {
          siphon = grown.siphon;
          belongs = record {
            has_all = λ p below member. member;
            has_none = λ p below avoided. not-true (has set p) (sym (complement_has set p (omega (arith, below, size))) ∙ avoided);
          };
          grows = inl (
            elim grown.grows [
              | inl from_contained ↦
                  let at = any_from net.places (has some.class.contains) from_contained.0 in
                  any_at net.places (has set) at.0 at.1 (grown.belongs.has_all at.0 at.1 at.2)
              | inr from_lowest ↦ any_at net.places (has set) from_lowest.1.lowest from_lowest.1.first.below from_lowest.1.first.passes
            ],
            whole grown.siphon (λ p below member. member),
          );
        };
      }

-- ---- the run

module _ (net : Net) (classes : List Branch) (leaves : ℕ) where
  abbrev all : List (List Bool)
  all = (the_list_of net.places (IsGrownInSome net classes) (decide_in_some net classes)).0

  all_is : IsTheList (slice_cmp bool_cmp) (Sized net.places (IsGrownInSome net classes)) all
  all_is = (the_list_of net.places (IsGrownInSome net classes) (decide_in_some net classes)).1

  abbrev met : List (List Bool)
  met = take leaves all

  abbrev others : List (List Bool)
  others = drop leaves all

  abbrev found : List (List Bool)
  found = (the_list_of net.places (IsMinimalOf net met) (decide_minimal_of net met)).0

  found_is : IsTheList (slice_cmp bool_cmp) (Sized net.places (IsMinimalOf net met)) found
  found_is = (the_list_of net.places (IsMinimalOf net met) (decide_minimal_of net met)).1

  abbrev run : Resumed
  run = record { found = found; met = met; pending = map class_of others }

  both_ascend : IsStrictlyAscending (slice_cmp bool_cmp) (met ++ others)
  both_ascend = subst (IsStrictlyAscending (slice_cmp bool_cmp)) (sym (take-append-drop leaves all)) all_is.ascending

  met_grown : (set : List Bool) → Contains met set → Sized net.places (IsGrownInSome net classes) set
  met_grown set there = (all_is.members set).0 (subst (λ sets. Contains sets set) (take-append-drop leaves all) (Contains-append_left met others set there))

  other_grown : (set : List Bool) → Contains others set → Sized net.places (IsGrownInSome net classes) set
  other_grown set there = (all_is.members set).0 (subst (λ sets. Contains sets set) (take-append-drop leaves all) (Contains-append_right met others set there))

  one_or_other : (set : List Bool) → IsGrownInSome net classes set → Contains met set ⊎ Contains others set
  one_or_other set some =
      Contains-append_cases met others set (subst (λ sets. Contains sets set) (sym (take-append-drop leaves all)) ((all_is.members set).1 (some.holds.size, some)))

  -- the siphons that are grown in the pending classes are the others
  pending_from : (set : List Bool) → Contains others set → IsGrownInSome net (map class_of others) set
  pending_from set there =
      let h = other_grown set there in
      record {
        class = class_of set;
        listed = (
          there.0,
          (let below = there.1 in let size = length-map others class_of in omega (arith, below, size)),
          get_or-map class_of others there.0 set (class_of set) there.1 ∙ ap class_of there.2,
        );
        holds = grown_alone net set h.0 classes h.1;
      }

  pending_to : (set : List Bool) → IsGrownInSome net (map class_of others) set → Contains others set
  pending_to set some =
      let k = some.listed.0 in
      let below : k < length others = (let low = some.listed.1 in let size = length-map others class_of in omega (arith, low, size)) in
      let mine = get_or others k [] in
      let there : Contains others mine = Contains-get_or others k [] below in
      let is : class_of mine ≡ some.class = sym (get_or-map class_of others k [] some.class below) ∙ some.listed.2 in
      let grown : IsGrownSetIn net (class_of mine) set = subst (λ (class : Branch). IsGrownSetIn net class set) (sym is) some.holds in
      subst (Contains others) (sym (only_this net mine (other_grown mine there).0 set grown)) there

  ascending_distinct : (sets : List (List Bool)) → IsStrictlyAscending (slice_cmp bool_cmp) sets → AreDistinct sets
  ascending_distinct sets up i j d less within = less_is_other (get_or sets i d) (get_or sets j d) (up i j d less within)

  is_run : IsRun net classes run
  is_run = record {
    grown = λ set. (
      λ some. elim (one_or_other set some) [ inl there ↦ inl there | inr there ↦ inr (pending_from set there) ],
      λ either. elim either [ inl there ↦ (met_grown set there).1 | inr some ↦ (other_grown set (pending_to set some)).1 ],
    );
    distinct = ascending_distinct met (pairs_left (λ one later. slice_cmp bool_cmp one later ≡ Less) met others both_ascend);
    apart = λ set there some.
        less_is_other set set (pairs_across (λ one later. slice_cmp bool_cmp one later ≡ Less) met others both_ascend set set there (pending_to set some)) refl;
    found = record {
      distinct = ascending_distinct found found_is.ascending;
      members = λ set. (
        λ there. ((found_is.members set).0 there).1,
        λ minimal. (found_is.members set).1 ((met_grown set minimal.0).0, minimal),
      );
    };
  }

  pending_below : (k : ℕ) → k < length (map class_of others) → k < length others
  pending_below k low = let size = length-map others class_of in omega (arith, low, size)

  pending_at : (k : ℕ) (d : Branch) → k < length (map class_of others) → class_of (get_or others k []) ≡ get_or (map class_of others) k d
  pending_at k d low = sym (get_or-map class_of others k [] d (pending_below k low))

  other_size : (k : ℕ) → k < length (map class_of others) → length (get_or others k []) ≡ net.places
  other_size k low = (other_grown (get_or others k []) (Contains-get_or others k [] (pending_below k low))).0

  others_distinct : AreDistinct others
  others_distinct = ascending_distinct others (pairs_right (λ one later. slice_cmp bool_cmp one later ≡ Less) met others both_ascend)

  pending_disjoint : AllPairs AreDisjoint (map class_of others)
  pending_disjoint i j d less within =
      let low : i < length (map class_of others) = omega (arith, less, within) in
      subst (λ (c : Branch). AreDisjoint c (get_or (map class_of others) j d)) (pending_at i d low) (subst (AreDisjoint (class_of (get_or others i []))) (pending_at j d within)
      (elim (equal_or_disjoint (get_or others i []) (get_or others j []) (other_size i low ∙ sym (other_size j within))) [
        | inr disjoint ↦ disjoint
        | inl same ↦ absurd (others_distinct i j [] less (pending_below j within) same)
      ]))

  are_pending : ArePending net.places (map class_of others)
  are_pending = record {
    sizes = λ k d low. subst (HasSize net.places) (pending_at k d low) (class_size net (get_or others k []) (other_size k low));
    consistent = λ k d low. subst IsConsistent (pending_at k d low) (class_consistent net (get_or others k []) (other_size k low));
    disjoint = pending_disjoint;
  }

  has_leaves : HasLeaves leaves run
  has_leaves = elim (cases_lt (length all) leaves) [
    | inl few ↦
        let same : met ≡ all = take_all leaves all (omega (arith, few)) in
        let count : length met ≡ length all = ap length same in
        record {
          most = omega (arith, few, count);
          exact = λ some. absurd (some (ap (map class_of) (drop_all leaves all (omega (arith, few)))));
        }
    | inr many ↦
        let count : length met ≡ leaves = length-take-le leaves all (omega (arith, many)) in
        record { most = omega (arith, count); exact = λ some. count }
  ]

  is_resumed : IsResumed net leaves classes run
  is_resumed = record { is_run = is_run; ascending = found_is.ascending; left = are_pending; counted = has_leaves }

pub some_run : SomeRun
some_run net classes leaves = (run net classes leaves, is_resumed net classes leaves)
