-- A walk over the positive entries: each one that it passes is one more below the position that it has come to.
use Rattle.std.proofs.Common.{◌≡◌, refl, sym, ap, ◌∙◌, subst, ℕ, zero, suc, ◌+◌, ◌<◌, ◌≤◌, nat_lt, List, [], ◌∷◌, true, false, Option, None, Some, MatchOption, IfSome, length, slice_index, arith}
use Rattle.std.proofs.lemmas.Bool.{lt-ltb, le-ltb, true≢false}
use Rattle.net_values.specs.Vectors.{AreZerosFrom, IsFirstPositive, IsPositive, WalkValue, positives_below, positive_count}

-- a position that isn't in the set has no positive entry
pub zero_where : (n : ℕ) → nat_lt 0 n ≡ false → n ≡ 0
zero_where zero none = refl
zero_where (suc n) none = absurd (true≢false (sym (lt-ltb 0 (suc n) (omega arith)) ∙ none))

pub positive_where : (n : ℕ) → nat_lt 0 n ≡ true → 0 < n
positive_where zero some = absurd (true≢false (sym some ∙ le-ltb 0 0 (omega arith)))
positive_where (suc n) some = omega arith

pub start : (entries : List ℕ) → positives_below entries 0 ≡ 0
start [] = refl
start (e ∷ entries) = refl

-- zeros count for nothing
pub none_between : (entries : List ℕ) (from to : ℕ) → from ≤ to → ((q : ℕ) → from ≤ q → q < to → slice_index entries q ≡ 0) → positives_below entries to ≡ positives_below entries from
none_between [] from to order zeros = refl
none_between (e ∷ entries) zero zero order zeros = refl
none_between (e ∷ entries) zero (suc to) order zeros =
    let first : e ≡ 0 = zeros 0 (omega arith) (omega arith) in
    let rest = none_between entries 0 to (omega arith) (λ q late under. zeros (suc q) (omega arith) (omega arith)) in
    let none = start entries in
    omega arith
none_between (e ∷ entries) (suc from) zero order zeros = absurd (omega arith)
none_between (e ∷ entries) (suc from) (suc to) order zeros =
    let rest = none_between entries from to (omega arith) (λ q late under. zeros (suc q) (omega arith) (omega arith)) in
    omega arith

pub one_more : (entries : List ℕ) (p : ℕ) → 0 < slice_index entries p → positives_below entries (suc p) ≡ positives_below entries p + 1
one_more [] p some = absurd (omega arith)
one_more (e ∷ entries) zero some = let none = start entries in omega arith
one_more (e ∷ entries) (suc p) some = let rest = one_more entries p some in omega arith

pub below_all : (entries : List ℕ) (p : ℕ) → positives_below entries p ≤ positive_count entries
below_all [] p = omega arith
below_all (e ∷ entries) zero = omega arith
below_all (e ∷ entries) (suc p) = let rest = below_all entries p in omega arith

pub passed : (entries : List ℕ) (from p entry : ℕ) → IsFirstPositive entries from p entry → positives_below entries (p + 1) ≡ positives_below entries from + 1
passed entries from p entry first =
    let here = first.here in
    let some = first.positive in
    let before = none_between entries from p first.zeros.order first.zeros.zeros in
    let after = one_more entries p (omega arith) in
    let same : p + 1 ≡ suc p = omega arith in
    let to : positives_below entries (p + 1) ≡ positives_below entries (suc p) = ap (positives_below entries) same in
    omega arith

pub all_passed : (entries : List ℕ) (from : ℕ) → AreZerosFrom entries from → positives_below entries from ≡ positive_count entries
all_passed [] from zeros = refl
all_passed (e ∷ entries) zero zeros =
    let first : e ≡ 0 = zeros 0 (omega arith) in
    let rest = all_passed entries 0 (λ p late. zeros (suc p) (omega arith)) in
    let none = start entries in
    omega arith
all_passed (e ∷ entries) (suc from) zeros = let rest = all_passed entries from (λ p late. zeros (suc p) (omega arith)) in omega arith

pub count_short : (entries : List ℕ) → positive_count entries ≤ length entries
count_short [] = omega arith
count_short (e ∷ entries) = let rest = count_short entries in omega arith

-- a walk goes on while not all were passed
pub goes_on : (entries : List ℕ) (walk : WalkValue) (k : ℕ) → walk.entries ≡ entries → positives_below entries walk.from ≡ k → k < positive_count entries → AreZerosFrom walk.entries walk.from → ⊥
goes_on entries walk k same at more zeros =
    let all = all_passed entries walk.from (subst (λ (es : List ℕ). AreZerosFrom es walk.from) same zeros) in
    omega arith

pub goes_by_one : (entries : List ℕ) (walk : WalkValue) (k next : ℕ) (found : Option (ℕ × ℕ)) → walk.entries ≡ entries → positives_below entries walk.from ≡ k → k < positive_count entries → MatchOption found (AreZerosFrom walk.entries walk.from) (λ f. IsFirstPositive walk.entries walk.from f.0 f.1) → IfSome found (λ f. next ≡ f.0 + 1) → positives_below entries next ≡ k + 1
goes_by_one entries walk k next None same at more zeros to = absurd (goes_on entries walk k same at more zeros)
goes_by_one entries walk k next (Some f) same at more first to =
    ap (positives_below entries) to ∙ passed entries walk.from f.0 f.1 (subst (λ (es : List ℕ). IsFirstPositive es walk.from f.0 f.1) same first) ∙ ap (λ (n : ℕ). n + 1) at

-- what is found is the next one
pub found_is : (entries : List ℕ) (walk : WalkValue) (k p entry : ℕ) → walk.entries ≡ entries → positives_below entries walk.from ≡ k → IsFirstPositive walk.entries walk.from p entry → IsPositive entries k p
found_is entries walk k p entry same at found =
    let first = subst (λ (es : List ℕ). IsFirstPositive es walk.from p entry) same found in
    record {
      within = first.within;
      positive = let here = first.here in let some = first.positive in omega arith;
      number = none_between entries walk.from p first.zeros.order first.zeros.zeros ∙ at;
    }
