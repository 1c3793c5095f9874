-- Masks keep the order of supports: each position adds its bit to the second mask where it adds it to the
-- first, and `or` works bit by bit. So a test of the masks refuses only pairs that the test of the entries
-- refuses too.
use Rattle.std.proofs.Common.{◌≡◌, ◌+◌, ◌*◌, ◌<◌, ◌≤◌, ◌%◌, ◌^◌, refl, sym, ap, ◌∙◌, subst, ℕ, zero, suc, max, nat_lt, Bool, true, false, cond, List, [], ◌∷◌, ◌++◌, length, map, get_or, take, drop, remove, slice_index, inl, inr, arith}
use Rattle.std.specs.Prelude.{◌==◌, bit_or}
use Rattle.std.proofs.lemmas.Bool.{cases_eq, false≢true}
use Rattle.std.proofs.lemmas.Bool.Decides.{nat_tests}
use Rattle.std.proofs.lemmas.Nat.Bits.{bit_at_or, same_from_bits}
use Rattle.std.proofs.lemmas.Nat.{one_shl}
use Rattle.std.proofs.lemmas.List.{get_or-map, map-append}
use Rattle.std.specs.List.{drop-map}
use Rattle.std.proofs.Math.Nat.{mod-lt}
use Rattle.net_values.specs.TheList.{HaveOneLength}
use Rattle.net_values.specs.Vectors.{AreZerosFrom, IsFirstPositive, WalkValue}
use Rattle.std.specs.Int.{bit_at}
use Rattle.support_prune.specs.Masks.{mask_below, mask_of, masks_of}
use Rattle.support_prune.specs.Supports.{IsWithin, is_within}
use Rattle.support_prune.proofs.SupportLemmas.{within_true}

or_bits : (a b : ℕ) (i : ℕ) → bit_at (bit_or a b) i ≡ max (bit_at a i) (bit_at b i)
or_bits a b i = bit_at_or a b i

-- one bit more in both masks, or in the second only
both_more : (m o x : ℕ) → bit_or m o ≡ o → bit_or (bit_or m x) (bit_or o x) ≡ bit_or o x
both_more m o x h = same_from_bits _ _ (λ i.
    let below : bit_at (bit_or m o) i ≡ bit_at o i = ap (λ (z : ℕ). bit_at z i) h in
    let M : ℕ = bit_at m i in
    omega (arith, below, or_bits m o i, or_bits m x i, or_bits o x i, or_bits (bit_or m x) (bit_or o x) i))

second_more : (m o x : ℕ) → bit_or m o ≡ o → bit_or m (bit_or o x) ≡ bit_or o x
second_more m o x h = same_from_bits _ _ (λ i.
    let below : bit_at (bit_or m o) i ≡ bit_at o i = ap (λ (z : ℕ). bit_at z i) h in
    omega (arith, below, or_bits m o i, or_bits o x i, or_bits m (bit_or o x) i))

more_by_tests : (b c : Bool) (m o x : ℕ) → (b ≡ true → c ≡ true) → bit_or m o ≡ o → bit_or (cond b (bit_or m x) m) (cond c (bit_or o x) o) ≡ cond c (bit_or o x) o
more_by_tests true true m o x both h = both_more m o x h
more_by_tests true false m o x both h = absurd (false≢true (both refl))
more_by_tests false true m o x both h = second_more m o x h
more_by_tests false false m o x both h = h

positive_passes : (x y : ℕ) → (0 < x → 0 < y) → nat_lt 0 x ≡ true → nat_lt 0 y ≡ true
positive_passes x y h passed = let some : 0 < x = grind (arith, nat_tests) in let more : 0 < y = h some in grind (arith, nat_tests)

mask_in : (row other : List ℕ) (n : ℕ) → IsWithin row other → bit_or (mask_below row n) (mask_below other n) ≡ mask_below other n
mask_in row other zero within = refl
mask_in row other (suc n) within =
    more_by_tests (nat_lt 0 (slice_index row n)) (nat_lt 0 (slice_index other n)) (mask_below row n) (mask_below other n) (2 ^ (n % 128))
    (positive_passes (slice_index row n) (slice_index other n) (within n)) (mask_in row other n within)

pub masks_in : (row other : List ℕ) → length row ≡ length other → IsWithin row other → bit_or (mask_of row) (mask_of other) ≡ mask_of other
masks_in row other same within =
    ap (λ (n : ℕ). bit_or (mask_below row n) (mask_of other)) same ∙ mask_in row other (length other) within

refused_by_case : (row other : List ℕ) (b : Bool) → is_within row other ≡ b → length row ≡ length other → (bit_or (mask_of row) (mask_of other) ≡ mask_of other → ⊥) → false ≡ b
refused_by_case row other true is same refused = absurd (refused (masks_in row other same (within_true row other same is)))
refused_by_case row other false is same refused = refl

refusal : (a b : ℕ) → (a ≡ b → ⊥) → (a == b) ≡ false
refusal a b differ = grind (arith, nat_tests)

-- where the masks refuse, the entries refuse
pub refused_by_masks : (row other : List ℕ) (mask other_mask : ℕ) → mask ≡ mask_of row → other_mask ≡ mask_of other → length row ≡ length other → (bit_or mask other_mask ≡ other_mask → ⊥) → (bit_or mask other_mask == other_mask) ≡ is_within row other
refused_by_masks row other mask other_mask mask_is other_is same differ =
    refusal (bit_or mask other_mask) other_mask differ
    ∙ refused_by_case row other (is_within row other) refl same
    (λ inside. differ (ap (λ (m : ℕ). bit_or m other_mask) mask_is ∙ ap (bit_or (mask_of row)) other_is ∙ inside ∙ sym other_is))

mask_by_test : (row : List ℕ) (n new : ℕ) (b : Bool) → nat_lt 0 (slice_index row n) ≡ b → new ≡ cond b (bit_or (mask_below row n) (2 ^ (n % 128))) (mask_below row n) → new ≡ mask_below row (n + 1)
mask_by_test row n new b tested is =
    let next : suc n ≡ n + 1 = omega arith in
    is ∙ ap (λ (c : Bool). cond c (bit_or (mask_below row n) (2 ^ (n % 128))) (mask_below row n)) (sym tested) ∙ ap (mask_below row) next

-- one entry more, which is positive or isn't
pub mask_taken : (row : List ℕ) (n mask new : ℕ) → mask ≡ mask_below row n → 0 < slice_index row n → new ≡ bit_or mask (1 * 2 ^ (n % 128) % 2 ^ 128) → new ≡ mask_below row (n + 1)
mask_taken row n mask new mask_is some is =
    let bit : 1 * 2 ^ (n % 128) % 2 ^ 128 ≡ 2 ^ (n % 128) = one_shl (n % 128) 128 (mod-lt n {m = 128} (omega arith)) in
    mask_by_test row n new true (grind (arith, nat_tests)) (is ∙ ap (bit_or mask) bit ∙ ap (λ (m : ℕ). bit_or m (2 ^ (n % 128))) mask_is)

pub mask_passed : (row : List ℕ) (n mask new : ℕ) → mask ≡ mask_below row n → slice_index row n ≤ 0 → new ≡ mask → new ≡ mask_below row (n + 1)
mask_passed row n mask new mask_is none is = mask_by_test row n new false (grind (arith, nat_tests)) (is ∙ mask_is)

-- a mask that is read beside a row is the row's
pub mask_read : (rows : List (List ℕ)) (masks : List ℕ) (i : ℕ) (row : List ℕ) (mask : ℕ) → masks ≡ masks_of rows → i < length rows → row ≡ get_or rows i row → mask ≡ get_or masks i mask → mask ≡ mask_of row
mask_read rows masks i row mask masks_are within row_is mask_is =
    mask_is ∙ ap (λ (l : List ℕ). get_or l i mask) masks_are ∙ get_or-map mask_of rows i row mask within ∙ ap mask_of (sym row_is)

-- two rows that are read from rows of one length
pub alike_read : (rows : List (List ℕ)) (i k : ℕ) (row other : List ℕ) → HaveOneLength rows → i < length rows → k < length rows → row ≡ get_or rows i row → other ≡ get_or rows k other → length row ≡ length other
alike_read rows i k row other h first second row_is other_is =
    ap length row_is ∙ h.alike i row first ∙ sym (ap length other_is ∙ h.alike k other second)

map-take : {X Y : Type 0} (f : X → Y) (n : ℕ) (xs : List X) → map f (take n xs) ≡ take n (map f xs)
map-take f zero xs = refl
map-take f (suc n) [] = refl
map-take f (suc n) (x ∷ xs) = ap (λ l. f x ∷ l) (map-take f n xs)

-- a row goes with its mask
pub masks_removed : (rows : List (List ℕ)) (i : ℕ) → masks_of (remove rows i) ≡ remove (masks_of rows) i
masks_removed rows i =
    map-append mask_of (take i rows) (drop (suc i) rows)
    ∙ ap (λ (l : List ℕ). l ++ map mask_of (drop (suc i) rows)) (map-take mask_of i rows)
    ∙ ap (λ (l : List ℕ). take i (masks_of rows) ++ l) (sym (drop-map mask_of (suc i) rows))

-- positions of zeros add no bit
mask_gap : (row : List ℕ) (from to : ℕ) → from ≤ to → ((i : ℕ) → from ≤ i → i < to → slice_index row i ≡ 0) → mask_below row to ≡ mask_below row from
mask_gap row from zero order zeros = ap (mask_below row) (let same : 0 ≡ from = omega arith in same)
mask_gap row from (suc to) order zeros =
    elim (cases_eq from (suc to)) [
      | inl same ↦ ap (mask_below row) (sym same)
      | inr other ↦
          let none = zeros to (omega arith) (omega arith) in
          let next : suc to ≡ to + 1 = omega arith in
          ap (mask_below row) next ∙ sym (mask_passed row to (mask_below row to) (mask_below row to) refl (omega arith) refl)
          ∙ mask_gap row from to (omega arith) (λ i late under. zeros i late (omega arith))
    ]

module _ (row : List ℕ) (walk : WalkValue) (mask : ℕ) (same : walk.entries ≡ row) (so_far : mask ≡ mask_below row walk.from) where
  pub mask_walked : (p entry next new : ℕ) → IsFirstPositive walk.entries walk.from p entry → next ≡ p + 1 → new ≡ bit_or mask (1 * 2 ^ (p % 128) % 2 ^ 128) → new ≡ mask_below row next
  mask_walked p entry next new found to is =
      let first = subst (λ (es : List ℕ). IsFirstPositive es walk.from p entry) same found in
      let some : 0 < slice_index row p = let here = first.here in let positive = first.positive in omega arith in
      mask_taken row p mask new (so_far ∙ sym (mask_gap row walk.from p first.zeros.order first.zeros.zeros)) some is ∙ ap (mask_below row) (sym to)

  pub mask_whole : walk.from ≤ length row → AreZerosFrom walk.entries walk.from → mask ≡ mask_of row
  mask_whole within zeros =
      so_far ∙ sym (mask_gap row walk.from (length row) within (λ i late under. subst (λ (es : List ℕ). slice_index es i ≡ 0) same (zeros i late)))
