-- More distinct sets than a list has can't all be in it. The list of all sets with a property tells whether they
-- are more than a limit: then the first of them are carried.
use Rattle.std.proofs.Common.{◌≡◌, sym, ◌∙◌, ◌+◌, inl, inr, take, get_or, refl, ap, ℕ, ◌≤◌, List, Bool, length, arith}
use Rattle.std.specs.Cmp.{IsEquivalence}
use Rattle.std.proofs.lemmas.Map.Made.{length-le_from_is_member, is_member-Decides, IsDistinct-from_AllPairs}
use Rattle.std.specs.declared.cmp.Ordering.TheVariants.{Less, Equal}
use Rattle.std.specs.Cmp.Lexicographic.{slice_cmp}
use Rattle.std.specs.Ordering.{bool_cmp}
use Rattle.std.proofs.lemmas.Bool.{cases_lt}
use Rattle.std.proofs.lemmas.List.{get_or-take, length-take-le}
use Rattle.net_values.specs.Net.{Net, reversed}
use Rattle.net_values.specs.PlaceSets.{has}
use Rattle.net_values.specs.TheList.{IsTheList}
use Rattle.closed_sets.specs.ClosedSets.{IsMinimalSiphon}
use Rattle.closed_sets.specs.Growth.{IsGrown}
use Rattle.closed_sets.specs.MinimalSets.{IsMinimalSet, IsMinimalTrapSet}
use Rattle.closed_sets.proofs.Traps.{traps_reversed}
use Rattle.siphon_branch.specs.Limits.{IsGrownSet, IsGrownTrapSet, HaveAtMost, CarriesMore, AtMostOrMore}
use Rattle.siphon_branch.specs.Laws.{FewAreNotMany, FewOrMany, HasLists}
use Rattle.siphon_branch.proofs.AllSets.{Decided, Sized, the_list_of}
use Rattle.siphon_branch.proofs.Decisions.{decide_grown, decide_minimal}
use Rattle.siphon_branch.proofs.Sorting.{equal_itself, same_sets, decides_same, same_turned}

pub same_equivalence : IsEquivalence same_sets
same_equivalence = record {
  refl = λ x. (decides_same x x).1 refl;
  symm = same_turned;
  congr = λ x y z same. ap (λ (set : List Bool). same_sets set z) ((decides_same x y).0 same);
}

few_not_more : (P : List Bool → Type 0) (limit : ℕ) (carried : List (List Bool)) → HaveAtMost P limit → CarriesMore P limit carried → ⊥
few_not_more P limit carried few more =
    let fits : length carried ≤ length few.list = length-le_from_is_member same_equivalence carried few.list (IsDistinct-from_AllPairs decides_same carried more.distinct)
    (λ q there. (is_member-Decides decides_same few.list q).1 (few.every q (more.grown q ((is_member-Decides decides_same carried q).0 there)))) in
    omega (arith, fits, few.few, more.count)

pub few_not_many : (net : Net) (limit : ℕ) (carried : List (List Bool)) → FewAreNotMany net limit carried
few_not_many net limit carried = record { siphons = few_not_more _ limit carried; traps = few_not_more _ limit carried }

less_not_equal : Less ≡ Equal → ⊥
less_not_equal same = cc

pub less_is_other : (one later : List Bool) → slice_cmp bool_cmp one later ≡ Less → one ≡ later → ⊥
less_is_other one later less same = less_not_equal (sym less ∙ ap (λ set. slice_cmp bool_cmp set later) same ∙ equal_itself later)

at_most_or_more : (net : Net) (P Q : List Bool → Type 0) (limit : ℕ) → ((set : List Bool) → Sized net.places P set → Q set) → ((set : List Bool) → Q set → Sized net.places P set) → ((set : List Bool) → Decided (P set)) → AtMostOrMore Q limit
at_most_or_more net P Q limit to from decide =
    let all = the_list_of net.places P decide in
    elim (cases_lt limit (length all.0)) [
      | inr fits ↦ inl record { list = all.0; few = fits; every = λ set holds. (all.1.members set).1 (from set holds) }
      | inl past ↦
          let count : length (take (limit + 1) all.0) ≡ limit + 1 = length-take-le (limit + 1) all.0 (omega arith) in
          inr (
            take (limit + 1) all.0,
            record {
              count = count;
              distinct = λ i j d less within same.
                  let one = get_or-take (limit + 1) all.0 i d (omega arith) in
                  let later = get_or-take (limit + 1) all.0 j d (omega arith) in
                  less_is_other (get_or all.0 i d) (get_or all.0 j d) (all.1.ascending i j d less (omega arith)) (sym one ∙ same ∙ later);
              grown = λ set there. to set ((all.1.members set).0 (there.0, omega (arith, there.1), sym (get_or-take (limit + 1) all.0 there.0 set (omega (arith, there.1))) ∙ there.2));
            },
          )
    ]

pub few_or_many : (net : Net) (limit : ℕ) → FewOrMany net limit
few_or_many net limit = record {
  siphons = at_most_or_more net (λ set. IsGrown net (has set)) (IsGrownSet net) limit (λ set holds. record { size = holds.0; grown = holds.1 }) (λ set grown. (grown.size, grown.grown)) (λ set. decide_grown net (has set));
  traps = at_most_or_more net (λ set. IsGrown (reversed net) (has set)) (IsGrownTrapSet net) limit
      (λ set holds. record { size = holds.0; grown = (traps_reversed net (has set)).grown.1 holds.1 })
      (λ set grown. (grown.size, (traps_reversed net (has set)).grown.0 grown.grown)) (λ set. decide_grown (reversed net) (has set));
}

-- the list of sets with a property that is decided
list_there : (net : Net) (P Q : List Bool → Type 0) → ((set : List Bool) → Sized net.places P set → Q set) → ((set : List Bool) → Q set → Sized net.places P set) → ((set : List Bool) → Decided (P set)) → (list : List (List Bool)) × IsTheList (slice_cmp bool_cmp) Q list
list_there net P Q to from decide =
    let all = the_list_of net.places P decide in
    (all.0, record { ascending = all.1.ascending; members = λ set. (λ there. to set ((all.1.members set).0 there), λ holds. (all.1.members set).1 (from set holds)) })

pub lists_there : (net : Net) → HasLists net
lists_there net = record {
  siphons = list_there net (λ set. IsMinimalSiphon net (has set)) (IsMinimalSet net) (λ set holds. record { size = holds.0; minimal = holds.1 }) (λ set minimal. (minimal.size, minimal.minimal)) (λ set. decide_minimal net (has set));
  traps = list_there net (λ set. IsMinimalSiphon (reversed net) (has set)) (IsMinimalTrapSet net)
      (λ set holds. record { size = holds.0; minimal = (traps_reversed net (has set)).minimal.1 holds.1 })
      (λ set minimal. (minimal.size, (traps_reversed net (has set)).minimal.0 minimal.minimal)) (λ set. decide_minimal (reversed net) (has set));
}
