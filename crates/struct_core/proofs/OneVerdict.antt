-- The bounds of a net and Commoner's verdict on it are one: the least of several numbers is one, and so is the
-- first listed siphon without a marked trap.
use Rattle.std.proofs.Common.{◌≡◌, ℕ, zero, suc, ◌+◌, ◌<◌, ◌≤◌, List, [], ◌∷◌, ◌++◌, Option, Some, None, length, refl, sym, ap, subst, ◌∙◌, arith, inl, inr}
use Rattle.std.specs.Prelude.{Bool, codes, decimal, is_some, count_by, cond, slice_index_or}
use Rattle.std.specs.List.{flat_map, range_with_len}
use Rattle.std.proofs.lemmas.List.Sums.{sum_by-cons}
use Rattle.std.proofs.lemmas.Bool.{cases_lt}
use Rattle.net_values.specs.Net.{Net}
use Rattle.net_values.proofs.OneList.{one_list_of_sets}
use Rattle.bounds.specs.declared.place_bound.PlaceBound.{PlaceBound}
use Rattle.bounds.specs.LeastBound.{IsLeastBound}
use Rattle.bounds.specs.Listed.{kept_at, bound_of, AreLeastBounds, AreNarrowRows, IsFirstWideRow}
use Rattle.closed_sets.specs.Commoner.{HasMarkedTrap}
use Rattle.closed_sets.specs.MinimalSets.{IsMinimalSet}
use Rattle.incidence.specs.Matrix.{incidence_of}
use Rattle.net_class.specs.declared.verdict.Verdict.{Verdict}
use Rattle.net_class.specs.declared.verdict.Verdict.TheVariants.{Yes, No}
use Rattle.net_class.specs.Verdicts.{IsFirstWithoutTrap}
use Rattle.net_values.specs.PlaceSets.{has}
use Rattle.siphon_branch.proofs.Limits.{few_not_many}
use Rattle.report.specs.FaultLines.{wide_bound_line}
use Rattle.report.specs.Texts.{bounds_text, bound_line}
use Rattle.report.specs.VerdictTexts.{IsCommonerText, verdict_lines, deadlock_line, ProvesDeadlockFree}
use Rattle.struct_core.specs.Verdicts.{BoundOutcome, all_bounds, wide_bound, no_semiflows, IsVerdict, CommonerOutcome, verdict, no_siphons}
use Rattle.struct_core.proofs.OneListing.{failing, one_failure, listed_or_fails, one_semiflow_list, few_or_passed, one_passing}
use Rattle.struct_core.proofs.Truths.{same_answer}

-- ---- bounds

pub one_bound : (net : Net) (p : ℕ) (one other : Option ℕ) → IsLeastBound net p one → IsLeastBound net p other → one ≡ other
one_bound net p None None is also = refl
one_bound net p None (Some b) is also = absurd (is also.attained.0 also.attained.1 also.attained.2)
one_bound net p (Some a) None is also = absurd (also is.attained.0 is.attained.1 is.attained.2)
one_bound net p (Some a) (Some b) is also =
    let below : a ≤ b = subst (λ (n : ℕ). a ≤ n) (sym also.attained.3) (is.least also.attained.0 also.attained.1 also.attained.2) in
    let above : b ≤ a = subst (λ (n : ℕ). b ≤ n) (sym is.attained.3) (also.least is.attained.0 is.attained.1 is.attained.2) in
    ap Some (omega (arith, below, above))

-- lists of one length that have the same bounds at each place tell the same
same_lines : (ids : ℕ → List ℕ) (one other : List (Option PlaceBound)) (start n : ℕ) → ((p : ℕ) → start ≤ p → p < start + n → bound_of (kept_at one p) ≡ bound_of (kept_at other p))
    → flat_map (λ p. bound_line (ids p) (bound_of (kept_at one p))) (range_with_len start n) ≡ flat_map (λ p. bound_line (ids p) (bound_of (kept_at other p))) (range_with_len start n)
same_lines ids one other start zero same = refl
same_lines ids one other start (suc n) same =
    ap (λ (bound : Option ℕ). bound_line (ids start) bound ++ flat_map (λ p. bound_line (ids p) (bound_of (kept_at one p))) (range_with_len (start + 1) n))
    (same start (omega arith) (omega arith))
    ∙ ap (λ (rest : List ℕ). bound_line (ids start) (bound_of (kept_at other start)) ++ rest)
    (same_lines ids one other (start + 1) n (λ p from below. same p (omega arith) (omega arith)))

some_as : (one other : Option PlaceBound) → bound_of one ≡ bound_of other → is_some one ≡ is_some other
some_as None None same = refl
some_as None (Some other) same = absurd (cc)
some_as (Some one) None same = absurd (cc)
some_as (Some one) (Some other) same = refl

same_counts : (one other : List (Option PlaceBound)) → length one ≡ length other
    → ((p : ℕ) → p < length one → bound_of (kept_at one p) ≡ bound_of (kept_at other p)) → count_by is_some one ≡ count_by is_some other
same_counts [] [] size same = refl
same_counts [] (y ∷ ys) size same = absurd (omega (arith, size))
same_counts (x ∷ xs) [] size same = absurd (omega (arith, size))
same_counts (x ∷ xs) (y ∷ ys) size same =
    let rest : count_by is_some xs ≡ count_by is_some ys = same_counts xs ys (omega (arith, size)) (λ p below. same (suc p) (omega (arith, below))) in
    let first : is_some x ≡ is_some y = some_as x y (same 0 (omega arith)) in
    sum_by-cons (λ z. cond (is_some z) 1 0) x xs
    ∙ ap (λ (b : Bool). cond b 1 0 + count_by is_some xs) first
    ∙ ap (λ (n : ℕ). cond (is_some y) 1 0 + n) rest
    ∙ sym (sum_by-cons (λ z. cond (is_some z) 1 0) y ys)

same_bounds : (net : Net) (ids : ℕ → List ℕ) (one other : List (Option PlaceBound)) → length one ≡ net.places → length other ≡ net.places
    → AreLeastBounds net one → AreLeastBounds net other → bounds_text ids one ≡ bounds_text ids other
unfolding bounds_text
same_bounds net ids one other size also least too =
    let each : (p : ℕ) → p < length one → bound_of (kept_at one p) ≡ bound_of (kept_at other p) =
    λ p below. one_bound net p (bound_of (kept_at one p)) (bound_of (kept_at other p)) (least p (omega (arith, size, below))) (too p (omega (arith, size, below))) in
    let lengths : length one ≡ length other = size ∙ sym also in
    let lines = same_lines ids one other 0 (length one) (λ p from below. each p (omega (arith, below))) in
    let counts = same_counts one other lengths each in
    ap (λ (front : List ℕ). front ++ codes "covered " ++ decimal (count_by is_some one) ++ codes " of " ++ decimal (length one) ++ codes "\n") lines
    ∙ ap (λ (n : ℕ). flat_map (λ p. bound_line (ids p) (bound_of (kept_at other p))) (range_with_len 0 (length one)) ++ codes "covered " ++ decimal n ++ codes " of " ++ decimal (length one) ++ codes "\n") counts
    ∙ ap (λ (n : ℕ). flat_map (λ p. bound_line (ids p) (bound_of (kept_at other p))) (range_with_len 0 n) ++ codes "covered " ++ decimal (count_by is_some other) ++ codes " of " ++ decimal n ++ codes "\n") lengths

narrow_or_wide : (net : Net) (list others : List (List ℕ)) (row : ℕ) → list ≡ others → AreNarrowRows net list (length list) → IsFirstWideRow net others row → ⊥
narrow_or_wide net list others row same narrow wide =
    let all : AreNarrowRows net others (length others) = subst (λ (rows : List (List ℕ)). AreNarrowRows net rows (length rows)) same narrow in
    omega (arith, all row wide.within, wide.wide)

one_wide_row : (net : Net) (list : List (List ℕ)) (one other : ℕ) → IsFirstWideRow net list one → IsFirstWideRow net list other → one ≡ other
one_wide_row net list one other is also = elim (cases_lt one other) [
  | inl before ↦ absurd (omega (arith, also.before one before, is.wide))
  | inr from ↦ elim (cases_lt other one) [
    | inl before ↦ absurd (omega (arith, is.before other before, also.wide))
    | inr to ↦ omega (arith, from, to)
  ]
]

pub one_bound_outcome : (net : Net) (ids columns : ℕ → List ℕ) (budget status other : ℕ) (text line : List ℕ) → BoundOutcome net ids columns budget status text
    → BoundOutcome net ids columns budget other line → (status ≡ other) × (text ≡ line)
one_bound_outcome net ids columns budget _ _ _ _ (all_bounds list one listed narrow size least) (all_bounds others another also too same_size least_too) =
    (refl, same_bounds net ids one another size same_size least least_too)
one_bound_outcome net ids columns budget _ _ _ _ (all_bounds list one listed narrow size least) (wide_bound others row also wide) =
    absurd (narrow_or_wide net list others row (one_semiflow_list (incidence_of net) budget list others listed also) narrow wide)
one_bound_outcome net ids columns budget _ _ _ _ (all_bounds list one listed narrow size least) (no_semiflows status line fails) =
    absurd (listed_or_fails (incidence_of net) columns budget status line list listed fails)
one_bound_outcome net ids columns budget _ _ _ _ (wide_bound list row listed wide) (all_bounds others one also narrow size least) =
    absurd (narrow_or_wide net others list row (one_semiflow_list (incidence_of net) budget others list also listed) narrow wide)
one_bound_outcome net ids columns budget _ _ _ _ (wide_bound list row listed wide) (wide_bound others another also too) =
    let same = one_semiflow_list (incidence_of net) budget others list also listed in
    (refl, ap wide_bound_line (one_wide_row net list row another wide (subst (λ (rows : List (List ℕ)). IsFirstWideRow net rows another) same too)))
one_bound_outcome net ids columns budget _ _ _ _ (wide_bound list row listed wide) (no_semiflows status line fails) =
    absurd (listed_or_fails (incidence_of net) columns budget status line list listed fails)
one_bound_outcome net ids columns budget _ _ _ _ (no_semiflows status line fails) (all_bounds list one listed narrow size least) =
    absurd (listed_or_fails (incidence_of net) columns budget status line list listed fails)
one_bound_outcome net ids columns budget _ _ _ _ (no_semiflows status line fails) (wide_bound list row listed wide) =
    absurd (listed_or_fails (incidence_of net) columns budget status line list listed fails)
one_bound_outcome net ids columns budget _ _ _ _ (no_semiflows status line fails) (no_semiflows other text also) =
    one_failure (incidence_of net) columns budget status other line text (failing (incidence_of net) columns budget status line fails) (failing (incidence_of net) columns budget other text also)

-- ---- Commoner's verdict

pub one_unsafe : (net : Net) (list : List (List Bool)) (one other : List Bool) → IsFirstWithoutTrap net list one → IsFirstWithoutTrap net list other → one ≡ other
one_unsafe net list one other is also = elim (cases_lt is.index also.index) [
  | inl before ↦ absurd (is.lacks (subst (λ (set : List Bool). HasMarkedTrap net (has set)) is.listed (also.earlier is.index before)))
  | inr from ↦ elim (cases_lt also.index is.index) [
    | inl before ↦ absurd (also.lacks (subst (λ (set : List Bool). HasMarkedTrap net (has set)) also.listed (is.earlier also.index before)))
    | inr to ↦ (let same : is.index ≡ also.index = omega (arith, from, to) in
        sym is.listed ∙ ap (λ (k : ℕ). slice_index_or list k []) same ∙ also.listed)
  ]
]

pub one_verdict : (net : Net) (one other : Verdict) → IsVerdict net one → IsVerdict net other → one ≡ other
one_verdict net Yes Yes is also = refl
one_verdict net Yes (No siphon) is also = sym (also.exact.1 (is.exact.0 refl))
one_verdict net (No siphon) Yes is also = is.exact.1 (also.exact.0 refl)
one_verdict net (No siphon) (No other) is also =
    let same = one_list_of_sets (IsMinimalSet net) also.siphons is.siphons also.all is.all in
    ap No (one_unsafe net is.siphons siphon other is.first (subst (λ (list : List (List Bool)). IsFirstWithoutTrap net list other) same also.first))

one_commoner_text : (net : Net) (ids : ℕ → List ℕ) (one : Verdict) (text line : List ℕ) → IsCommonerText net ids one text
    → IsCommonerText net ids one line → text ≡ line
one_commoner_text net ids one text line is also =
    is.spelled
    ∙ ap (λ (proved : Bool). verdict_lines ids one ++ deadlock_line proved) (same_answer is.is_proved also.is_proved (ProvesDeadlockFree net one) is.exact also.exact)
    ∙ sym also.spelled

pub one_commoner_outcome : (net : Net) (ids : ℕ → List ℕ) (limit status other : ℕ) (text line : List ℕ) → CommonerOutcome net ids limit status text
    → CommonerOutcome net ids limit other line → (status ≡ other) × (text ≡ line)
one_commoner_outcome net ids limit _ _ _ _ (verdict one text few is spelled) (verdict another line also too printed) =
    let same = one_verdict net another one too is in
    (refl, one_commoner_text net ids one text line spelled (subst (λ (v : Verdict). IsCommonerText net ids v line) same printed))
one_commoner_outcome net ids limit _ _ _ _ (verdict one text few is spelled) (no_siphons status line passed) =
    absurd (few_or_passed _ limit status line (λ carried. (few_not_many net limit carried).siphons) few passed)
one_commoner_outcome net ids limit _ _ _ _ (no_siphons status line passed) (verdict one text few is spelled) =
    absurd (few_or_passed _ limit status line (λ carried. (few_not_many net limit carried).siphons) few passed)
one_commoner_outcome net ids limit _ _ _ _ (no_siphons status line passed) (no_siphons other text also) = one_passing _ limit status other line text passed also
