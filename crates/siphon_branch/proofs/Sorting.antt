-- Distinct sets that are sorted ascend strictly, since sets that compare as equal are equal. The list is
-- that of the minimal siphons: each is grown, so it was met and kept.
use Rattle.std.proofs.Common.{◌≡◌, refl, sym, ap, ◌∙◌, subst, ℕ, ◌<◌, List, [], ◌∷◌, Bool, true, false, length, get_or, Contains, Decides, arith}
use Rattle.std.specs.declared.cmp.Ordering.{Ordering}
use Rattle.std.specs.declared.cmp.Ordering.TheVariants.{Less, Equal, Greater}
use Rattle.std.specs.Cmp.Lexicographic.{slice_cmp}
use Rattle.std.specs.Cmp.{bool_cmp_total, IsTotalOrder, Equal-is}
use Rattle.std.specs.Ordering.{bool_cmp, is_eq, is_lt, ordering_reverse}
use Rattle.std.specs.List.Sorted.{IsPermutation, IsSorted}
use Rattle.std.proofs.lemmas.Cmp.{lists_total}
use Rattle.std.proofs.lemmas.Bool.{true≢false}
use Rattle.std.proofs.lemmas.Bool.Decides.{same_from_decides}
use Rattle.std.proofs.lemmas.Map.Keys.{IsDistinct-IsPermutation}
use Rattle.std.proofs.lemmas.Map.Made.{AllPairs-from_IsDistinct, IsDistinct-from_AllPairs}
use Rattle.std.proofs.lemmas.List.MinMax.{ranks_by}
use Rattle.std.proofs.lemmas.List.Sorted.{sorted_far, Contains-permutation, IsPermutation-sym}
use Rattle.net_values.specs.Net.{Net}
use Rattle.net_values.specs.PlaceSets.{has}
use Rattle.net_values.specs.TheList.{IsTheList}
use Rattle.closed_sets.specs.ClosedSets.{IsMinimalSiphon}
use Rattle.closed_sets.specs.MinimalSets.{IsMinimalSet}
use Rattle.siphon_branch.specs.Limits.{AreDistinct, IsGrownSet}
use Rattle.siphon_branch.specs.Met.{IsListOf}
use Rattle.siphon_branch.proofs.MinimalGrown.{minimal_grown}

equal_sets : (one other : List Bool) → slice_cmp bool_cmp one other ≡ Equal → one ≡ other
equal_sets [] [] same = refl
equal_sets [] (y ∷ ys) same = cc
equal_sets (x ∷ xs) [] same = cc
equal_sets (true ∷ xs) (true ∷ ys) same = ap (λ zs. true ∷ zs) (equal_sets xs ys same)
equal_sets (true ∷ xs) (false ∷ ys) same = cc
equal_sets (false ∷ xs) (true ∷ ys) same = cc
equal_sets (false ∷ xs) (false ∷ ys) same = ap (λ zs. false ∷ zs) (equal_sets xs ys same)

sets_total : IsTotalOrder (slice_cmp bool_cmp)
sets_total = lists_total bool_cmp_total

less_from : (o back : Ordering) → back ≡ ordering_reverse o → is_lt back ≡ false → (o ≡ Equal → ⊥) → o ≡ Less
less_from Less back turned none other = refl
less_from Equal back turned none other = absurd (other refl)
less_from Greater back turned none other = absurd (true≢false (sym (ap is_lt turned) ∙ none))

pub equal_itself : (list : List Bool) → slice_cmp bool_cmp list list ≡ Equal
equal_itself [] = refl
equal_itself (true ∷ xs) = equal_itself xs
equal_itself (false ∷ xs) = equal_itself xs

abbrev pub same_sets : List Bool → List Bool → Bool
same_sets one other = is_eq (slice_cmp bool_cmp one other)

pub decides_same : (one other : List Bool) → Decides (same_sets one other) (one ≡ other)
decides_same one other = (
  λ holds. equal_sets one other ((Equal-is (slice_cmp bool_cmp one other)).0 holds),
  λ equal. (Equal-is (slice_cmp bool_cmp one other)).1 (subst (λ (set : List Bool). slice_cmp bool_cmp one set ≡ Equal) equal (equal_itself one)),
)

pub same_turned : (one other : List Bool) → same_sets one other ≡ same_sets other one
same_turned one other =
    same_from_decides {P = one ≡ other} (same_sets one other) (same_sets other one) (decides_same one other)
    (λ holds. sym ((decides_same other one).0 holds), λ equal. (decides_same other one).1 (sym equal))

-- distinct members stay so in another order
pub distinct_sorted : (xs ys : List (List Bool)) → IsPermutation xs ys → AreDistinct xs → AreDistinct ys
distinct_sorted xs ys moved distinct =
    AllPairs-from_IsDistinct decides_same ys (IsDistinct-IsPermutation same_sets same_turned xs ys moved (IsDistinct-from_AllPairs decides_same xs distinct))

ascending : (list : List (List Bool)) → AreDistinct list → IsSorted (slice_cmp bool_cmp) list → (i j : ℕ) (d : List Bool) → i < j → j < length list → slice_cmp bool_cmp (get_or list i d) (get_or list j d) ≡ Less
ascending list distinct sorted i j d less within =
    let far = sorted_far (λ (x y : List Bool). is_lt (slice_cmp bool_cmp x y)) (ranks_by sets_total (λ (x : List Bool). x)) list sorted i j d (omega arith) within in
    less_from (slice_cmp bool_cmp (get_or list i d) (get_or list j d)) (slice_cmp bool_cmp (get_or list j d) (get_or list i d)) (sets_total.antisymm (get_or list j d) (get_or list i d)) far
    (λ same. distinct i j d less within (equal_sets _ _ same))

pub the_list : (net : Net) (met found sorted : List (List Bool)) → IsListOf (IsGrownSet net) met → IsListOf (λ list. Contains met list × IsMinimalSiphon net (has list)) found → IsPermutation found sorted → IsSorted (slice_cmp bool_cmp) sorted → IsTheList (slice_cmp bool_cmp) (IsMinimalSet net) sorted
the_list net met found sorted grown kept moved up = record {
  ascending = ascending sorted (distinct_sorted found sorted moved kept.distinct) up;
  members = λ list. (
    λ some.
        let all = (kept.members list).0 (Contains-permutation sorted found list (IsPermutation-sym found sorted moved) some) in
        record { size = ((grown.members list).0 all.0).size; minimal = all.1 },
    λ minimal.
        let there = (grown.members list).1 record { size = minimal.size; grown = minimal_grown net (has list) minimal.minimal } in
        Contains-permutation found sorted list moved ((kept.members list).1 (there, minimal.minimal)),
  );
}
