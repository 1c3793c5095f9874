-- What an offer leaves. Where a kept support is in that of the offered row, nothing changes. Otherwise the
-- kept rows that aren't wider stay, the offered row comes in, and each row that went has it below.
use Rattle.std.proofs.Common.{◌≡◌, ◌+◌, ◌<◌, ◌≤◌, refl, sym, ap, ◌∙◌, subst, ℕ, zero, suc, Bool, true, false, not, cond, List, [], ◌∷◌, ◌++◌, ◌↔◌, length, length-append, get_or, filter, take, All, Any, Contains, inl, inr, arith}
use Rattle.std.specs.List.{list_any}
use Rattle.std.specs.Prelude.{◌⊎◌, ◌||◌}
use Rattle.std.proofs.lemmas.Bool.{false≢true, not-true}
use Rattle.std.proofs.Math.Seq.{get_or-append_seam, take-append_seam}
use Rattle.std.proofs.lemmas.List.Elements.{All-nil, All-tail, All-cons, All-push, All-filter, Contains-get_or, Contains-push, Contains-append_left}
use Rattle.std.proofs.lemmas.List.Kept.{AllPairs-filter}
use Rattle.std.proofs.lemmas.List.Quantifiers.{all_pairs_push}
use Rattle.std.proofs.lemmas.List.Sums.{length-filter, count_by-le-length}
use Rattle.std.proofs.lemmas.List.Folds.{Any-from_list_any}
use Rattle.support_prune.specs.Supports.{IsWithin, is_within}
use Rattle.support_prune.specs.Pools.{AreApart, IsPool, HasWithin, StaysAfter, Offered, row_at}
use Rattle.support_prune.proofs.SupportLemmas.{within_true, within_false}

any_of : {X : Type 0} (P : X → Type 0) (xs : List X) (x : X) → Contains xs x → P x → Any P xs
any_of P xs x here holds = (here.0, x, here.1, here.2, holds)

all_by_test : {X : Type 0} (P : X → Type 0) (x : X) (xs : List X) (b : Bool) → (b ≡ true → P x) → All P xs → All P (cond b (x ∷ xs) xs)
all_by_test P x xs true first rest = All-cons P x xs (first refl) rest
all_by_test P x xs false first rest = rest

-- the members that pass a filter have what passing gives them
All-passed : {X : Type 0} (passes : X → Bool) (P : X → Type 0) (xs : List X) → All (λ x. passes x ≡ true → P x) xs → All P (filter passes xs)
All-passed passes P [] h = All-nil P
All-passed passes P (x ∷ xs) h =
    all_by_test P x (filter passes xs) (passes x) (h 0 x (omega arith)) (All-passed passes P xs (All-tail (λ x. passes x ≡ true → P x) x xs h))

contains_by_test : {X : Type 0} (x y : X) (xs : List X) (b : Bool) → Contains xs x → Contains (cond b (y ∷ xs) xs) x
contains_by_test x y xs true rest = (suc rest.0, omega (arith, rest.1), rest.2)
contains_by_test x y xs false rest = rest

Contains-passed : {X : Type 0} (passes : X → Bool) (xs : List X) (x : X) → Contains xs x → passes x ≡ true → Contains (filter passes xs) x
Contains-passed passes [] x here passed = absurd (omega (arith, here.1))
Contains-passed {X} passes (y ∷ ys) x (zero, within, same) passed =
    let F : Bool → Type 0 = λ b. Contains (cond b (y ∷ filter passes ys) (filter passes ys)) x in
    subst F (sym (ap passes same ∙ passed)) (0, omega arith, same)
Contains-passed passes (y ∷ ys) x (suc k, within, same) passed =
    contains_by_test x y (filter passes ys) (passes y) (Contains-passed passes ys x (k, omega arith, same) passed)

both_false : (a b : Bool) → (a || b) ≡ false → (a ≡ false) × (b ≡ false)
both_false true b t = absurd (false≢true (sym t))
both_false false b t = (refl, t)

none_passes : {X : Type 0} (test : X → Bool) (xs : List X) → list_any test xs ≡ false → All (λ x. test x ≡ false) xs
none_passes test [] h = All-nil (λ x. test x ≡ false)
none_passes test (x ∷ xs) h =
    let parts = both_false (test x) (list_any test xs) h in
    All-cons (λ x. test x ≡ false) x xs parts.0 (none_passes test xs parts.1)

below_by_test : (old : List (List ℕ)) (row other : List ℕ) (b : Bool) → is_within row other ≡ b → Contains old other → length row ≡ length other → HasWithin (filter (λ other. not (is_within row other)) old ++ row ∷ []) other
below_by_test old row other true inside here same =
    any_of (λ kept. IsWithin kept other) (filter (λ other. not (is_within row other)) old ++ row ∷ []) row (Contains-push (filter (λ other. not (is_within row other)) old) row) (within_true row other same inside)
below_by_test old row other false outside here same =
    any_of (λ kept. IsWithin kept other) (filter (λ other. not (is_within row other)) old ++ row ∷ []) other
    (Contains-append_left (filter (λ other. not (is_within row other)) old) (row ∷ []) other (Contains-passed (λ other. not (is_within row other)) old other here (ap not outside)))
    (λ i some. some)

pub offered_found : (old : List (List ℕ)) (row : List ℕ) → IsPool old → All (λ kept. length kept ≡ length row) old → list_any (λ other. is_within other row) old ≡ true → Offered old old row
offered_found old row pool alike found =
    let at = Any-from_list_any (λ other. is_within other row) old found in
    record {
      pool = pool;
      drawn = λ k d within. inl (Contains-get_or old k d within);
      kept_below = λ k d within. any_of _ old (get_or old k d) (Contains-get_or old k d within) (λ i some. some);
      offer_below = (at.0, at.1, at.2, at.3, within_true at.1 row (subst (λ (x : List ℕ). length x ≡ length row) at.3 (alike at.0 at.1 at.2)) at.4);
    }

pub offered_new : (old new : List (List ℕ)) (row : List ℕ) → IsPool old → All (λ kept. length kept ≡ length row) old → list_any (λ other. is_within other row) old ≡ false → new ≡ filter (λ other. not (is_within row other)) old ++ row ∷ [] → Offered old new row
offered_new old new row pool alike none is =
    let passes = λ (other : List ℕ). not (is_within row other) in
    let kept = filter passes old in
    let apart = All-passed passes (λ other. AreApart other row) old (λ k d within passed. record {
      forth = within_false (get_or old k d) row (alike k d within) (none_passes (λ other. is_within other row) old none k d within);
      back = within_false row (get_or old k d) (sym (alike k d within)) (not-true (is_within row (get_or old k d)) passed);
    })
    in
    let below = λ (k : ℕ) (d : List ℕ) (within : k < length old). below_by_test old row (get_or old k d) (is_within row (get_or old k d)) refl (Contains-get_or old k d within) (sym (alike k d within)) in
    subst (λ (rows : List (List ℕ)). Offered old rows row) (sym is) record {
      pool = record {
        antichain = all_pairs_push AreApart kept row (AllPairs-filter AreApart passes old pool.antichain) apart;
        alike = record {
          common = length row;
          alike = All-push (λ other. length other ≡ length row) kept row (All-filter passes (λ other. length other ≡ length row) old alike) refl;
        };
      };
      drawn = All-push (λ other. (Contains old other) ⊎ (other ≡ row)) kept row (All-filter passes (λ other. (Contains old other) ⊎ (other ≡ row)) old (λ k d within. inl (Contains-get_or old k d within))) (inr refl);
      kept_below = below;
      offer_below = any_of (λ other. IsWithin other row) (kept ++ row ∷ []) row (Contains-push kept row) (λ i some. some);
    }

-- no support in the offered one's is kept where the test finds none
pub none_within : (old : List (List ℕ)) (row : List ℕ) → All (λ kept. length kept ≡ length row) old → list_any (λ other. is_within other row) old ≡ false → HasWithin old row → ⊥
none_within old row alike none found =
    let fails = none_passes (λ other. is_within other row) old none found.0 found.1 found.2 in
    let here : get_or old found.0 found.1 ≡ found.1 = found.3 in
    within_false (get_or old found.0 found.1) row (alike found.0 found.1 found.2) fails (subst (λ (x : List ℕ). IsWithin x row) (sym here) found.4)

stays_by_test : (old : List (List ℕ)) (row x : List ℕ) (b : Bool) → is_within row x ≡ b → Contains old x → length row ≡ length x → (IsWithin row x → ⊥) → Contains (filter (λ other. not (is_within row other)) old ++ row ∷ []) x
stays_by_test old row x true inside here same apart = absurd (apart (within_true row x same inside))
stays_by_test old row x false outside here same apart =
    Contains-append_left (filter (λ other. not (is_within row other)) old) (row ∷ []) x (Contains-passed (λ other. not (is_within row other)) old x here (ap not outside))

-- which rows stay where the offered one comes in
pub stays_exactly : (old new : List (List ℕ)) (row : List ℕ) → All (λ kept. length kept ≡ length row) old → new ≡ filter (λ other. not (is_within row other)) old ++ row ∷ [] → (x : List ℕ) → (Contains new x) ↔ StaysAfter old row x
stays_exactly old new row alike is x =
    let passes = λ (other : List ℕ). not (is_within row other) in
    let kept = filter passes old in
    let each : All (StaysAfter old row) (kept ++ row ∷ []) =
    All-push (StaysAfter old row) kept row
    (All-passed passes (StaysAfter old row) old (λ k d within passed. inl (Contains-get_or old k d within, within_false row (get_or old k d) (sym (alike k d within)) (not-true (is_within row (get_or old k d)) passed))))
    (inr refl)
    in
    let size : (old_at : Contains old x) → length row ≡ length x = λ old_at. sym (ap length (sym old_at.2) ∙ alike old_at.0 x old_at.1) in (
      λ here. let there = subst (λ (rows : List (List ℕ)). Contains rows x) is here in subst (StaysAfter old row) there.2 (each there.0 x there.1),
      λ stays. subst (λ (rows : List (List ℕ)). Contains rows x) (sym is) (elim stays [
        | inl in_old ↦ stays_by_test old row x (is_within row x) refl in_old.0 (size in_old.0) in_old.1
        | inr offered ↦ subst (Contains (kept ++ row ∷ [])) (sym offered) (Contains-push kept row)
      ]),
    )

-- the list that was sieved is the old one with the row after it
pub sieve_of_push : (old : List (List ℕ)) (row : List ℕ) (pushed new : List (List ℕ)) (before : ℕ) → pushed ≡ old ++ row ∷ [] → before ≡ length old → new ≡ filter (λ other. not (is_within (row_at pushed before) other)) (take before pushed) ++ row_at pushed before ∷ [] → new ≡ filter (λ other. not (is_within row other)) old ++ row ∷ []
sieve_of_push old row pushed new before pushed_is before_is new_is =
    let last : row_at pushed before ≡ row = ap (λ (rows : List (List ℕ)). row_at rows before) pushed_is ∙ ap (row_at (old ++ row ∷ [])) before_is ∙ get_or-append_seam old row [] [] in
    let front : take before pushed ≡ old = ap (take before) pushed_is ∙ ap (λ n. take n (old ++ row ∷ [])) before_is ∙ take-append_seam old (row ∷ []) in
    new_is ∙ ap (λ (r : List ℕ). filter (λ other. not (is_within r other)) (take before pushed) ++ r ∷ []) last ∙ ap (λ (rows : List (List ℕ)). filter (λ other. not (is_within row other)) rows ++ row ∷ []) front

-- the pool has at most one row more
pub short_of_sieve : (passes : List ℕ → Bool) (old new : List (List ℕ)) (row : List ℕ) → new ≡ filter passes old ++ row ∷ [] → length new ≤ length old + 1
short_of_sieve passes old new row is =
    let count = ap length is ∙ length-append (filter passes old) (row ∷ []) in
    let kept = length-filter passes old in
    let fewer = count_by-le-length passes old in
    omega (arith, count, kept, fewer)
