-- An elimination has one first failure: two lists of the minimal semiflows of a step have the same members, each
-- once, so as many with each property. What passes or fails with the one list so does with the other, and the
-- steps that pass take the same columns.
use Rattle.std.proofs.Common.{◌≡◌, refl, sym, ap, ◌∙◌, subst, ℕ, zero, suc, ◌+◌, ◌*◌, ◌<◌, ◌≤◌, Bool, true, cond, List, [], ◌∷◌, length, get_or, remove, slice_index, set, count_by, All, AllPairs, Contains, inl, inr, arith}
use Rattle.std.proofs.lemmas.Bool.{cases_order}
use Rattle.std.proofs.lemmas.List.{get_or_default}
use Rattle.std.proofs.lemmas.List.Elements.{Contains-get_or}
use Rattle.std.proofs.lemmas.List.Sorted.{IsPermutation-remove, Contains-permutation}
use Rattle.std.proofs.lemmas.List.Sums.{sum_by-cons, sum_by-remove}
use Rattle.incidence.specs.Matrix.{Matrix, AreNarrow}
use Rattle.semiflow_elim.specs.Bases.{AreMinimal, in_set}
use Rattle.semiflow_elim.specs.Elimination.{Passes, FailsBy, IsPair, IsNarrowPair, IsWidePair, HasWidePair, AreNarrowAt, AreWideAt, AreNarrowOutside, IsFirstWide, IsChosen, candidate_count, is_zero, is_positive, is_negative, row_of}
use Rattle.semiflow_elim.specs.FirstFail.{StepPasses, StepFails, Reaches, EveryStepPasses, IsFirstFail}
use Rattle.semiflow_elim.specs.declared.fault.ElimFault.{ElimFault}
use Rattle.semiflow_elim.specs.declared.fault.ElimFault.TheVariants.{NoMemory, WideSum, RowBudget, WideRow}

in_tail : {X : Type 0} (x : X) (xs : List X) (z : X) → Contains (x ∷ xs) z → (x ≡ z → ⊥) → Contains xs z
in_tail x xs z (zero, within, same) other = absurd (other same)
in_tail x xs z (suc k, within, same) other = (k, omega (arith, within), same)

-- a list whose members occur once each, all in another, has at most as many with a property
count_le : {X : Type 0} (p : X → Bool) (xs ys : List X) → AllPairs (λ one later. one ≡ later → ⊥) xs → ((x : X) → Contains xs x → Contains ys x) → count_by p xs ≤ count_by p ys
count_le p [] ys once inside = omega arith
count_le {X} p (x ∷ xs) ys once inside =
    let f : X → ℕ = λ x. cond {A = ℕ} (p x) 1 0 in
    let at = inside x (0, omega arith, refl) in
    let lost = sum_by-remove f ys at.0 x at.1 in
    let here : f (get_or ys at.0 x) ≡ f x = ap f at.2 in
    let first = sum_by-cons f x xs in
    let rest : count_by p xs ≤ count_by p (remove ys at.0) =
    count_le p xs (remove ys at.0) (λ i k d before within. once (suc i) (suc k) d (omega arith) (omega (arith, within)))
    (λ z in_xs.
    in_tail x (remove ys at.0) z
    (Contains-permutation ys (x ∷ remove ys at.0) z (IsPermutation-remove ys at.0 x at.1 (sym at.2)) (inside z (suc in_xs.0, omega (arith, in_xs.1), in_xs.2)))
    (λ same. once 0 (suc in_xs.0) z (omega arith) (omega (arith, in_xs.1)) (same ∙ sym in_xs.2)))
    in
    omega (arith, lost, here, first, rest)

module _ (m : Matrix) (K : ℕ → Type 0) (rows others : List (List ℕ)) (one : AreMinimal m K rows) (two : AreMinimal m K others) where
  forth : (x : List ℕ) → Contains rows x → Contains others x
  forth x here = (two.members x).1 ((one.members x).0 here)

  back : (x : List ℕ) → Contains others x → Contains rows x
  back x here = (one.members x).1 ((two.members x).0 here)

  same_count : (p : List ℕ → Bool) → count_by p rows ≡ count_by p others
  same_count p =
      let most = count_le p rows others one.once forth in
      let least = count_le p others rows two.once back in
      omega (arith, most, least)

  same_candidates : (j : ℕ) → candidate_count m j rows ≡ candidate_count m j others
  same_candidates j =
      ap (λ (z : ℕ). z + count_by (is_positive m j) rows * count_by (is_negative m j) rows) (same_count (is_zero m j))
      ∙ ap (λ (p : ℕ). count_by (is_zero m j) others + p * count_by (is_negative m j) rows) (same_count (is_positive m j))
      ∙ ap (λ (n : ℕ). count_by (is_zero m j) others + count_by (is_positive m j) others * n) (same_count (is_negative m j))

  -- a member of the other list has what each member of the one has
  of_member : (P : List ℕ → Type 0) → All P rows → (x : List ℕ) → Contains others x → P x
  of_member P each x here = let there = back x here in subst P there.2 (each there.0 x there.1)

  -- a row of the other list occurs in the one
  moved : (k : ℕ) → k < length others → (i : ℕ) × (i < length rows) × (row_of rows i ≡ row_of others k)
  moved k within =
      let there = back (row_of others k) (Contains-get_or others k [] within) in
      (there.0, there.1, get_or_default rows there.0 [] (row_of others k) there.1 ∙ there.2)

  narrow_not_wide : (j : ℕ) → AreNarrowAt m j rows → AreWideAt m j others → ⊥
  narrow_not_wide j narrow wide = wide.4 (of_member (λ row. AreNarrow m j (slice_index row)) narrow wide.1 (wide.0, wide.2, wide.3))

  narrow_not_first : AreNarrowOutside m K rows → (j : ℕ) → IsFirstWide m K others j → ⊥
  narrow_not_first narrow j wide = narrow_not_wide j (narrow j wide.within wide.outside) wide.wide

  -- the lowest column with a wide sum is one
  wide_not_later : (i j : ℕ) → IsFirstWide m K rows i → IsFirstWide m K others j → j < i → ⊥
  wide_not_later i j first second before = narrow_not_wide j (first.before j before second.outside) second.wide

  -- and so is the column of the step
  chosen_same : (c d : ℕ) → IsChosen m K rows c → IsChosen m K others d → c ≡ d
  chosen_same c d first second =
      let at_c = same_candidates c in
      let at_d = same_candidates d in
      elim (cases_order c d) [
        | inl same ↦ same
        | inr apart ↦ elim apart [
          | inl below ↦
              let few = first.fewest d second.within second.outside in
              let less = second.lowest c below first.outside in
              absurd (omega arith)
          | inr above ↦
              let few = second.fewest c first.within first.outside in
              let less = first.lowest d above second.outside in
              absurd (omega arith)
        ]
      ]

  pairs_not_wide : (c : ℕ) → ((i k : ℕ) → i < length rows → k < length rows → IsPair m c (row_of rows i) (row_of rows k) → IsNarrowPair m c (row_of rows i) (row_of rows k)) → HasWidePair m c others → ⊥
  pairs_not_wide c pairs pair =
      let a = moved pair.0 pair.2 in
      let b = moved pair.1 pair.3 in
      let there : IsWidePair m c (row_of rows a.0) (row_of rows b.0) =
      subst (λ (s : List ℕ). IsWidePair m c (row_of rows a.0) s) (sym b.2) (subst (λ (r : List ℕ). IsWidePair m c r (row_of others pair.1)) (sym a.2) pair.4)
      in
      let narrow = pairs a.0 b.0 a.1 b.1 there.pair there.g there.gcd there.at there.within in
      let large = there.wide in
      omega (arith, narrow, large)

  passes_not_fails : (budget c : ℕ) (fault : ElimFault) → Passes m budget K rows c → FailsBy m budget K others fault → ⊥
  passes_not_fails budget c NoMemory passes fails = fails
  passes_not_fails budget c (WideSum j) passes fails = narrow_not_first passes.sums j fails
  passes_not_fails budget c (RowBudget d count) passes fails =
      let same : candidate_count m c others ≡ candidate_count m d others = ap (λ (j : ℕ). candidate_count m j others) (chosen_same c d passes.chosen fails.1) in
      let met = passes.budget_met in
      let counts = same_candidates c in
      omega (arith, fails.2, fails.3)
  passes_not_fails budget c (WideRow d) passes fails =
      let same : d ≡ c = sym (chosen_same c d passes.chosen fails.1) in
      pairs_not_wide c passes.pairs (subst (λ (j : ℕ). HasWidePair m j others) same fails.3)

same_first : (m : Matrix) (K : ℕ → Type 0) (rows others : List (List ℕ)) → AreMinimal m K rows → AreMinimal m K others → (i j : ℕ) → IsFirstWide m K rows i → IsFirstWide m K others j → i ≡ j
same_first m K rows others one two i j first second =
    elim (cases_order i j) [
      | inl same ↦ same
      | inr apart ↦ elim apart [
        | inl below ↦ absurd (wide_not_later m K others rows two one j i second first below)
        | inr above ↦ absurd (wide_not_later m K rows others one two i j first second above)
      ]
    ]

same_fault : (m : Matrix) (budget : ℕ) (K : ℕ → Type 0) (rows others : List (List ℕ)) → AreMinimal m K rows → AreMinimal m K others → (fault other : ElimFault) → FailsBy m budget K rows fault → FailsBy m budget K others other → fault ≡ other
same_fault m budget K rows others one two NoMemory other first second = absurd first
same_fault m budget K rows others one two (WideSum i) NoMemory first second = absurd second
same_fault m budget K rows others one two (WideSum i) (WideSum j) first second = ap WideSum (same_first m K rows others one two i j first second)
same_fault m budget K rows others one two (WideSum i) (RowBudget d total) first second = absurd (narrow_not_first m K others rows two one second.0 i first)
same_fault m budget K rows others one two (WideSum i) (WideRow d) first second = absurd (narrow_not_first m K others rows two one second.0 i first)
same_fault m budget K rows others one two (RowBudget c count) NoMemory first second = absurd second
same_fault m budget K rows others one two (RowBudget c count) (WideSum j) first second = absurd (narrow_not_first m K rows others one two first.0 j second)
same_fault m budget K rows others one two (RowBudget c count) (RowBudget d total) first second =
    let same = chosen_same m K rows others one two c d first.1 second.1 in
    ap (λ (i : ℕ). RowBudget i count) same
    ∙ ap (RowBudget d) (first.2 ∙ same_candidates m K rows others one two c ∙ ap (λ (j : ℕ). candidate_count m j others) same ∙ sym second.2)
same_fault m budget K rows others one two (RowBudget c count) (WideRow d) first second =
    let same = ap (λ (j : ℕ). candidate_count m j others) (chosen_same m K rows others one two c d first.1 second.1) in
    let counts = same_candidates m K rows others one two c in
    absurd (omega (arith, same, counts, first.2, first.3, second.2))
same_fault m budget K rows others one two (WideRow c) NoMemory first second = absurd second
same_fault m budget K rows others one two (WideRow c) (WideSum j) first second = absurd (narrow_not_first m K rows others one two first.0 j second)
same_fault m budget K rows others one two (WideRow c) (RowBudget d total) first second =
    let same = ap (λ (j : ℕ). candidate_count m j others) (chosen_same m K rows others one two c d first.1 second.1) in
    let counts = same_candidates m K rows others one two c in
    absurd (omega (arith, same, counts, first.2, second.2, second.3))
same_fault m budget K rows others one two (WideRow c) (WideRow d) first second = ap WideRow (chosen_same m K rows others one two c d first.1 second.1)

step_not_both : (m : Matrix) (budget : ℕ) (taken : List Bool) (c : ℕ) (fault : ElimFault) → StepPasses m budget taken c → StepFails m budget taken fault → ⊥
step_not_both m budget taken c fault passes fails = passes_not_fails m (in_set taken) passes.0 fails.0 passes.1 fails.1 budget c fault passes.2 fails.2

step_fails_once : (m : Matrix) (budget : ℕ) (taken : List Bool) (fault other : ElimFault) → StepFails m budget taken fault → StepFails m budget taken other → fault ≡ other
step_fails_once m budget taken fault other first second = same_fault m budget (in_set taken) first.0 second.0 first.1 second.1 fault other first.2 second.2

step_takes_once : (m : Matrix) (budget : ℕ) (taken : List Bool) (c d : ℕ) → StepPasses m budget taken c → StepPasses m budget taken d → c ≡ d
step_takes_once m budget taken c d first second = chosen_same m (in_set taken) first.0 second.0 first.1 second.1 c d first.2.chosen second.2.chosen

-- as many steps lead to one set
reaches_once : (m : Matrix) (budget n : ℕ) (taken other : List Bool) → Reaches m budget n taken → Reaches m budget n other → taken ≡ other
reaches_once m budget zero taken other first second = first ∙ sym second
reaches_once m budget (suc n) taken other first second =
    let same : first.0 ≡ second.0 = reaches_once m budget n first.0 second.0 first.2 second.2 in
    let column : first.1 ≡ second.1 = step_takes_once m budget second.0 first.1 second.1 (subst (λ (b : List Bool). StepPasses m budget b first.1) same first.3) second.3 in
    first.4 ∙ ap (λ (b : List Bool). set b first.1 true) same ∙ ap (λ (c : ℕ). set second.0 c true) column ∙ sym second.4

-- where more steps don't fail, the step after n of them doesn't
passed : (m : Matrix) (budget n : ℕ) (taken : List Bool) → Reaches m budget n taken → (k : ℕ) → k < n → (before : List Bool) × (c : ℕ) × Reaches m budget k before × StepPasses m budget before c
passed m budget zero taken reaches k less = absurd (omega arith)
passed m budget (suc n) taken reaches k less =
    elim (cases_order k n) [
      | inl same ↦ (reaches.0, reaches.1, subst (λ (i : ℕ). Reaches m budget i reaches.0) (sym same) reaches.2, reaches.3)
      | inr apart ↦ elim apart [
        | inl below ↦ passed m budget n reaches.0 reaches.2 k below
        | inr above ↦ absurd (omega arith)
      ]
    ]

-- so no step before a set that is reached fails
reached_not_failed : (m : Matrix) (budget n k : ℕ) (taken failed : List Bool) (fault : ElimFault) → Reaches m budget n taken → k < n → Reaches m budget k failed → StepFails m budget failed fault → ⊥
reached_not_failed m budget n k taken failed fault reaches less before fails =
    let p = passed m budget n taken reaches k less in
    let same : p.0 ≡ failed = reaches_once m budget k p.0 failed p.2 before in
    step_not_both m budget failed p.1 fault (subst (λ (b : List Bool). StepPasses m budget b p.1) same p.3) fails

pub first_failures_are_one : (m : Matrix) (budget : ℕ) (fault other : ElimFault) → IsFirstFail m budget fault → IsFirstFail m budget other → fault ≡ other
first_failures_are_one m budget fault other first second =
    elim (cases_order first.steps second.steps) [
      | inl same ↦
          let before = subst (λ (n : ℕ). Reaches m budget n first.taken) same first.before in
          let sets : first.taken ≡ second.taken = reaches_once m budget second.steps first.taken second.taken before second.before in
          step_fails_once m budget second.taken fault other (subst (λ (t : List Bool). StepFails m budget t fault) sets first.fails) second.fails
      | inr apart ↦ elim apart [
        | inl below ↦ absurd (reached_not_failed m budget second.steps first.steps second.taken first.taken fault second.before below first.before first.fails)
        | inr above ↦ absurd (reached_not_failed m budget first.steps second.steps first.taken second.taken other first.before above second.before second.fails)
      ]
    ]

pub failures_exclude_passing : (m : Matrix) (budget : ℕ) (fault : ElimFault) → IsFirstFail m budget fault → EveryStepPasses m budget → ⊥
failures_exclude_passing m budget fault first passes = reached_not_failed m budget m.columns first.steps passes.0 first.taken fault passes.1 first.within first.before first.fails
