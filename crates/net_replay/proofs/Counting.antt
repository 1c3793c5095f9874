-- What the numbers of firings tell of a marking: each firing changes a place by its column's entry, so a list does by
-- the sum over its members, which is the sum over the transitions of their counts with these entries. The sums are
-- equal exactly where the marking is the initial one.
use Rattle.std.proofs.Common.{◌≡◌, ◌≢◌, refl, sym, ap, ◌∙◌, subst, ℤ, pos, ◌+ℤ◌, to_z, of_z, ℕ, zero, suc, ◌+◌, ◌*◌, ◌^◌, ◌<◌, ◌≤◌, ◌==◌, cond, true, false, List, [], ◌∷◌, length, take, get_or, All, sum_by, slice_index, slice_set, inl, inr, arith}
use Rattle.std.specs.Int.{w128}
use Rattle.std.proofs.lemmas.Int.{to_z_pos}
use Rattle.std.proofs.lemmas.Bool.Decides.{nat_tests}
use Rattle.std.proofs.lemmas.Bool.{cases_eq}
use Rattle.std.proofs.lemmas.List.{take_all, length-take-le, length-set, get_or-set_same, get_or-set_other, get_or_default}
use Rattle.std.proofs.lemmas.List.Sums.{sum_by-cons, count_by-le-length, count_by_more_yes, count_by_more_no}
use Rattle.net_values.specs.Vectors.{positive_part}
use Rattle.net_values.specs.Net.{Net}
use Rattle.net_values.specs.TokenGame.{IsEnabled, after}
use Rattle.incidence.specs.Matrix.{positive_at, negative_at, gain_sum, loss_sum}
use Rattle.incidence.specs.Semiflow.{IsSemiflow, all_columns}
use Rattle.incidence.specs.Sums.{sum_below}
use Rattle.incidence.proofs.Below.{below_same, by_place}
use Rattle.net_replay.specs.Replays.{FiresTo, IsCountVector, occurrences, by_transition, Returns}

module _ (net : Net) where
  pub all_within : (ts : List ℕ) (M L : ℕ → ℕ) → FiresTo net M ts L → All (λ t. t < net.transitions) ts
  all_within [] M L fired k d below = absurd (omega (arith, below))
  all_within (t ∷ ts) M L fired zero d below = fired.0
  all_within (t ∷ ts) M L fired (suc k) d below = all_within ts (after net M t) L fired.3 k d (omega (arith, below))

  module _ (p : ℕ) (place : p < net.places) where
    -- what a transition gives the place beyond what it takes, and what it takes beyond that
    abbrev gain : ℕ → ℕ
    gain t = positive_at (by_transition net) t p

    abbrev loss : ℕ → ℕ
    loss t = negative_at (by_transition net) t p

    one_changes : (M : ℕ → ℕ) (t : ℕ) → IsEnabled net M t → after net M t p + loss t ≡ M p + gain t
    one_changes M t enabled = let enough : net.pre p t ≤ M p = enabled p place in omega arith

    list_changes : (ts : List ℕ) (M L : ℕ → ℕ) → FiresTo net M ts L → L p + sum_by (λ t. loss t * 1) ts ≡ M p + sum_by (λ t. gain t * 1) ts
    list_changes [] M L fired = let same : L p ≡ M p = fired p place in omega arith
    list_changes (t ∷ ts) M L fired =
        let first = one_changes M t fired.1 in
        let rest = list_changes ts (after net M t) L fired.3 in
        let losses = sum_by-cons (λ t. loss t * 1) t ts in
        let gains = sum_by-cons (λ t. gain t * 1) t ts in
        omega (arith, first, rest, losses, gains)

    -- the sum over the members of a list is the sum over the transitions with their counts
    by_counts : (y : ℕ → ℕ) (ts counts : List ℕ) → All (λ t. t < net.transitions) ts → IsCountVector net ts counts → sum_by (λ t. y t * 1) ts ≡ sum_below net.transitions (λ t. slice_index counts t * y t)
    by_counts y ts counts within are =
        by_place (λ t. t) (λ t. 1) y net.transitions ts within
        ∙ below_same net.transitions (λ t. y t * occurrences ts t) (λ t. slice_index counts t * y t) (λ t below. let same : slice_index counts t ≡ occurrences ts t = are.each t below in ap (λ n. y t * n) (sym same) ∙ omega arith)

    pub state_equation : (ts counts : List ℕ) (M L : ℕ → ℕ) → FiresTo net M ts L → IsCountVector net ts counts → L p + loss_sum (by_transition net) p (slice_index counts) ≡ M p + gain_sum (by_transition net) p (slice_index counts)
    state_equation ts counts M L fired are =
        let within = all_within ts M L fired in
        let losses = by_counts loss ts counts within are in
        let gains = by_counts gain ts counts within are in
        let changes = list_changes ts M L fired in
        omega (arith, losses, gains, changes)

  -- ---- semiflows

  some_member : (t : ℕ) (ts : List ℕ) → 0 < occurrences (t ∷ ts) t
  some_member t ts =
      let first = sum_by-cons (λ u. cond (u == t) 1 0) t ts in
      let one : ◌≡◌ {A = ℕ} (cond (t == t) 1 0) 1 = grind (arith, nat_tests) in
      omega (arith, first, one)

  some_fired : (ts counts : List ℕ) (t : ℕ) → IsCountVector net ts counts → t < net.transitions → 0 < slice_index counts t → ts ≢ []
  some_fired ts counts t are within some none =
      let same = are.each t within in
      let nothing : occurrences ts t ≡ 0 = ap (λ (us : List ℕ). occurrences us t) none in
      absurd (omega (arith, same, nothing, some))

  pub returning : (ts counts : List ℕ) (L : ℕ → ℕ) → FiresTo net net.initial ts L → IsCountVector net ts counts → IsSemiflow (by_transition net) all_columns (slice_index counts) → Returns net ts L
  returning ts counts L fired are flow = record {
    some = some_fired ts counts flow.nonzero.0 are flow.nonzero.1 flow.nonzero.2;
    again = λ p below.
        let balanced : gain_sum (by_transition net) p (slice_index counts) ≡ loss_sum (by_transition net) p (slice_index counts) = flow.balanced p below tt in
        let changes = state_equation p below ts counts net.initial L fired are in
        omega (arith, balanced, changes);
  }

  pub flowing : (ts counts : List ℕ) (L : ℕ → ℕ) → FiresTo net net.initial ts L → IsCountVector net ts counts → Returns net ts L → IsSemiflow (by_transition net) all_columns (slice_index counts)
  flowing [] counts L fired are back = absurd (back.some refl)
  flowing (t ∷ ts) counts L fired are back = record {
    nonzero = (t, fired.0, let same = are.each t fired.0 in let some = some_member t ts in omega (arith, same, some));
    balanced = λ p below every.
        let changes = state_equation p below (t ∷ ts) counts net.initial L fired are in
        let same : L p ≡ net.initial p = back.again p below in
        omega (arith, changes, same);
  }

-- ---- counting member by member

module _ (net : Net) (ts : List ℕ) (k : ℕ) (counts : List ℕ) (are : IsCountVector net (take k ts) counts) where
  pub small_count : (t old d : ℕ) → k ≤ length ts → t < net.transitions → old ≡ get_or counts t d → old ≤ length ts
  small_count t old d within below read =
      let same = read ∙ get_or_default counts t d 0 (subst (λ n. t < n) (sym are.size) below) ∙ are.each t below in
      let few = count_by-le-length (λ u. u == t) (take k ts) in
      let size = length-take-le k ts within in
      omega (arith, same, few, size)

  occurs_more : (t u : ℕ) → k < length ts → t ≡ get_or ts k 0 → occurrences (take (k + 1) ts) u ≡ occurrences (take k ts) u + cond (t == u) 1 0
  occurs_more t u more is =
      elim (cases_eq t u) [
        | inl same ↦
            let test : (get_or ts k 0 == u) ≡ true = grind (arith, nat_tests) in
            let here : ◌≡◌ {A = ℕ} (cond (t == u) 1 0) 1 = grind (arith, nat_tests) in
            count_by_more_yes (λ v. v == u) ts k 0 more test ∙ ap (λ n. occurrences (take k ts) u + n) (sym here)
        | inr other ↦
            let test : (get_or ts k 0 == u) ≡ false = grind (arith, nat_tests) in
            let here : ◌≡◌ {A = ℕ} (cond (t == u) 1 0) 0 = grind (arith, nat_tests) in
            count_by_more_no (λ v. v == u) ts k 0 more test ∙ omega (arith, here)
      ]

  pub count_more : (t old d : ℕ) → k < length ts → t ≡ get_or ts k 0 → t < net.transitions → old ≡ get_or counts t d → IsCountVector net (take (k + 1) ts) (slice_set counts t (old + 1))
  count_more t old d more is below read = record {
    size = length-set counts t (old + 1) ∙ are.size;
    each = λ u within.
        let grows = occurs_more t u more is in
        let before = are.each u within in
        let inside : t < length counts = subst (λ n. t < n) (sym are.size) below in
        elim (cases_eq u t) [
          | inl same ↦
              let here : ◌≡◌ {A = ℕ} (cond (t == u) 1 0) 1 = grind (arith, nat_tests) in
              let now : slice_index (slice_set counts t (old + 1)) u ≡ old + 1 = ap (slice_index (slice_set counts t (old + 1))) same ∙ get_or-set_same counts t (old + 1) 0 inside in
              let was : old ≡ slice_index counts u = read ∙ get_or_default counts t d 0 inside ∙ ap (slice_index counts) (sym same) in
              omega (arith, grows, before, here, now, was)
          | inr other ↦
              let here : ◌≡◌ {A = ℕ} (cond (t == u) 1 0) 0 = grind (arith, nat_tests) in
              let now : slice_index (slice_set counts t (old + 1)) u ≡ slice_index counts u = get_or-set_other counts t u (old + 1) 0 other in
              omega (arith, grows, before, here, now)
        ];
  }

  pub all_counted : length ts ≤ k → IsCountVector net ts counts
  all_counted past = subst (λ (list : List ℕ). IsCountVector net list counts) (take_all k ts past) are

-- a count that is read, raised and put back as signed numbers of 128 bits
pub counted_once : (n : ℕ) (z : ℤ) → z ≡ pos n → n + 1 < 2 ^ 127 → positive_part (to_z w128 (of_z w128 (to_z w128 (of_z w128 z) +ℤ pos 1))) ≡ n + 1
counted_once n z is small =
    let held : of_z w128 z ≡ n = ap (of_z w128) is in
    let read : to_z w128 (of_z w128 z) ≡ pos n = ap (to_z w128) held ∙ to_z_pos w128 n (omega arith) in
    let raised : of_z w128 (to_z w128 (of_z w128 z) +ℤ pos 1) ≡ n + 1 = ap (λ (x : ℤ). of_z w128 (x +ℤ pos 1)) read in
    ap (λ (x : ℕ). positive_part (to_z w128 x)) raised ∙ ap positive_part (to_z_pos w128 (n + 1) small)
