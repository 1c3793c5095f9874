-- The sum of positive multiples of a positive and a negative row. Where a third row's support is in the union
-- of theirs, that row is combined with the one of the other sign, and the result is subtracted from the sum by
-- the least ratio: what is left has a smaller support, or else nothing is left, and then one of the three
-- supports is in another.
use Rattle.std.proofs.Common.{◌≡◌, ◌⊎◌, refl, sym, ap, ◌∙◌, ℕ, zero, suc, ◌+◌, ◌-◌, ◌*◌, ◌<◌, ◌≤◌, inl, inr, arith}
use Rattle.std.proofs.lemmas.Bool.{cases_lt, cases_order}
use Rattle.std.proofs.Math.Nat.{mul-le-mul_left, mul-lt-mul_of_pos_left, le_of_mul-le-mul_left}
use Rattle.incidence.specs.Matrix.{Matrix, gain_sum, loss_sum, positive_at, negative_at}
use Rattle.incidence.specs.Semiflow.{IsWithin, IsSemiflow, IsCoprime, IsMinimal}
use Rattle.semiflow_elim.specs.Laws.{AreProportional}
use Rattle.semiflow_elim.proofs.Weighted.{weighted, weighted_scale, none_or_some}
use Rattle.semiflow_elim.proofs.Support.{Reduced, reduced}
use Rattle.semiflow_elim.proofs.Transport.{Covers, rest_semiflow, rows_below}
use Rattle.semiflow_elim.proofs.Minimal.{proportional}
use Rattle.semiflow_elim.proofs.CandidateLemmas.{Extends, zero_semiflow, pair_semiflow, zero_factor, product_positive}

-- a multiple of w is a sum of positive multiples of r and s, and w is a semiflow over K'
pub record IsJoin (m : Matrix) (K' : ℕ → Type 0) (r s w : ℕ → ℕ) : Type 0 where
  pub times : ℕ
  pub x : ℕ
  pub y : ℕ
  pub times_positive : 0 < times
  pub x_positive : 0 < x
  pub y_positive : 0 < y
  pub entries : (i : ℕ) → i < m.rows → times * w i ≡ x * r i + y * s i
  pub semiflow : IsSemiflow m K' w

pub flipped : (m : Matrix) (K' : ℕ → Type 0) (r s w : ℕ → ℕ) → IsJoin m K' r s w → IsJoin m K' s r w
flipped m K' r s w h = record {
  times = h.times;
  x = h.y;
  y = h.x;
  times_positive = h.times_positive;
  x_positive = h.y_positive;
  y_positive = h.x_positive;
  entries = λ i under. let entry = h.entries i under in omega (arith, entry);
  semiflow = h.semiflow;
}

some_of_sum : (h w x r y s : ℕ) → h * w ≡ x * r + y * s → 0 < h → 0 < w → 0 < r + s
some_of_sum h w x zero y zero same positive some = let product = product_positive h w positive some in absurd (omega arith)
some_of_sum h w x zero y (suc s) same positive some = omega arith
some_of_sum h w x (suc r) y s same positive some = omega arith

sum_of_first : (h w x r y s : ℕ) → h * w ≡ x * r + y * s → 0 < x → 0 < r → 0 < w
sum_of_first h w x r y s same positive some = let product = product_positive x r positive some in zero_factor h w (omega arith)

-- its support is in the union of theirs, and theirs are in it
pub join_within : (m : Matrix) (K' : ℕ → Type 0) (r s w : ℕ → ℕ) → IsJoin m K' r s w → IsWithin m w (λ i. r i + s i)
join_within m K' r s w h i under some = some_of_sum h.times (w i) h.x (r i) h.y (s i) (h.entries i under) h.times_positive some

pub first_within : (m : Matrix) (K' : ℕ → Type 0) (r s w : ℕ → ℕ) → IsJoin m K' r s w → IsWithin m r w
first_within m K' r s w h i under some = sum_of_first h.times (w i) h.x (r i) h.y (s i) (h.entries i under) h.x_positive some

pub second_within : (m : Matrix) (K' : ℕ → Type 0) (r s w : ℕ → ℕ) → IsJoin m K' r s w → IsWithin m s w
second_within m K' r s w h = first_within m K' s r w (flipped m K' r s w h)

pub either_in : (a b y : ℕ) → (0 < a → 0 < y) → (0 < b → 0 < y) → 0 < a + b → 0 < y
either_in zero b y first second some = second (omega arith)
either_in (suc a) b y first second some = first (omega arith)

pub union_within : (m : Matrix) (K' : ℕ → Type 0) (r s w : ℕ → ℕ) → IsJoin m K' r s w → IsWithin m (λ i. r i + s i) w
union_within m K' r s w h i under some = either_in (r i) (s i) (w i) (first_within m K' r s w h i under) (second_within m K' r s w h i under) some

commuted : (a b : ℕ) → a * b ≡ b * a
commuted a b = omega arith

-- a positive and a negative semiflow have one
pub pair_join : (m : Matrix) (K K' : ℕ → Type 0) (c : ℕ) (r s : ℕ → ℕ) → Extends K c K' → IsSemiflow m K r → IsSemiflow m K s → loss_sum m c r < gain_sum m c r → gain_sum m c s < loss_sum m c s → (w : ℕ → ℕ) × IsJoin m K' r s w
pair_join m K K' c r s more r_flow s_flow up down =
    let a : ℕ = gain_sum m c r - loss_sum m c r in
    let b : ℕ = loss_sum m c s - gain_sum m c s in (
      λ i. b * r i + a * s i,
      record {
        times = 1;
        x = b;
        y = a;
        times_positive = omega arith;
        x_positive = omega arith;
        y_positive = omega arith;
        entries = λ i under. omega arith;
        semiflow = pair_semiflow m K K' c (λ i. b * r i + a * s i) r s b a a b more r_flow s_flow (omega arith) (omega arith) (commuted b a) (omega arith) (λ i under. refl);
      },
    )

-- two joins that share a row and are proportional
joined_same : (times_v v x_v t y_v s times_w w x_w r y_w a b : ℕ) → times_v * v ≡ x_v * t + y_v * s → times_w * w ≡ x_w * r + y_w * s → b * v ≡ a * w → times_w * b * x_v * t + times_w * b * y_v * s ≡ times_v * a * x_w * r + times_v * a * y_w * s
joined_same times_v v x_v t y_v s times_w w x_w r y_w a b v_is w_is same =
    let one : times_w * b * (times_v * v) ≡ times_w * b * (x_v * t + y_v * s) = ap (λ z. times_w * b * z) v_is in
    let two : times_v * a * (times_w * w) ≡ times_v * a * (x_w * r + y_w * s) = ap (λ z. times_v * a * z) w_is in
    let three : times_v * times_w * (b * v) ≡ times_v * times_w * (a * w) = ap (λ z. times_v * times_w * z) same in
    omega arith

third_in_first : (a t b s e r d : ℕ) → a * t + b * s ≡ e * r + d * s → 0 < a → d ≤ b → 0 < t → 0 < r
third_in_first a t b s e zero d same positive less some =
    let product = product_positive a t positive some in
    let times : s * d ≤ s * b = mul-le-mul_left s less in
    absurd (omega arith)
third_in_first a t b s e (suc r) d same positive less some = omega arith

shared_in_third : (a t b s e r d : ℕ) → a * t + b * s ≡ e * r + d * s → b < d → 0 < s → 0 < t
shared_in_third a zero b s e r d same less some =
    let times : s * b < s * d = mul-lt-mul_of_pos_left less some in
    absurd (omega arith)
shared_in_third a (suc t) b s e r d same less some = omega arith

-- where the joins of t and s and of r and s are proportional, the support of t is in that of r, or that of s in
-- that of t
pub joins_meet : (m : Matrix) (K' : ℕ → Type 0) (t r s v w : ℕ → ℕ) → IsJoin m K' t s v → IsJoin m K' r s w → AreProportional m v w → (IsWithin m t r) ⊎ (IsWithin m s t)
joins_meet m K' t r s v w hv hw p =
    let a : ℕ = hw.times * p.b * hv.x in
    let b : ℕ = hw.times * p.b * hv.y in
    let e : ℕ = hv.times * p.a * hw.x in
    let d : ℕ = hv.times * p.a * hw.y in
    let positive : 0 < a = product_positive (hw.times * p.b) hv.x (product_positive hw.times p.b hw.times_positive p.b_positive) hv.x_positive in
    let same : (i : ℕ) → i < m.rows → a * t i + b * s i ≡ e * r i + d * s i =
    λ i under. joined_same hv.times (v i) hv.x (t i) hv.y (s i) hw.times (w i) hw.x (r i) hw.y p.a p.b (hv.entries i under) (hw.entries i under) (p.same i under)
    in
    elim (cases_lt b d) [
      | inl less ↦ inr (λ i under some. shared_in_third a (t i) b (s i) e (r i) d (same i under) less some)
      | inr more ↦ inl (λ i under some. third_in_first a (t i) b (s i) e (r i) d (same i under) positive (omega arith) some)
    ]

-- a semiflow whose support is in that of w and lacks a position of it
pub record HasSmaller (m : Matrix) (K : ℕ → Type 0) (w : ℕ → ℕ) : Type 0 where
  pub rest : ℕ → ℕ
  pub semiflow : IsSemiflow m K rest
  pub within : IsWithin m rest w
  pub at : ℕ
  pub below : at < m.rows
  pub lacks : rest at ≡ 0
  pub has : 0 < w at

-- a semiflow in the support of another is proportional to it, or a smaller one is left
pub same_or_smaller : (m : Matrix) (K : ℕ → Type 0) (w z : ℕ → ℕ) → IsSemiflow m K w → IsSemiflow m K z → IsWithin m z w → (AreProportional m z w) ⊎ (HasSmaller m K w)
same_or_smaller m K w z w_flow z_flow within =
    let d : Reduced m.rows w z = reduced m.rows w z z_flow.nonzero.0 z_flow.nonzero.1 z_flow.nonzero.2 in
    let inside : 0 < w d.at = within d.at d.below d.positive in
    elim (none_or_some m.rows d.rest) [
      | inl none ↦ inl record {
        a = z d.at;
        b = w d.at;
        a_positive = d.positive;
        b_positive = inside;
        same = λ i under. let split = d.splits i under in let left = none i under in omega arith;
      }
      | inr some ↦ inr record {
        rest = d.rest;
        semiflow = rest_semiflow m K w z d w_flow z_flow some;
        within = d.within;
        at = d.at;
        below = d.below;
        lacks = d.lacks;
        has = inside;
      }
    ]

factor_some : (b z a w : ℕ) → b * z ≡ a * w → 0 < a → 0 < w → 0 < z
factor_some b z a w same positive some = let product = product_positive a w positive some in zero_factor b z (omega arith)

-- proportional vectors have one support
pub proportional_within : (m : Matrix) (z w : ℕ → ℕ) → AreProportional m z w → IsWithin m w z
proportional_within m z w p i under some = factor_some p.b (z i) p.a (w i) (p.same i under) p.a_positive some

-- a minimal third row in the union of two rows of either sign is in one of them, or their join isn't minimal
pub third : (m : Matrix) (K K' : ℕ → Type 0) (c : ℕ) (r s w t : ℕ → ℕ) → Extends K c K' → IsSemiflow m K r → IsSemiflow m K s → loss_sum m c r < gain_sum m c r → gain_sum m c s < loss_sum m c s → IsJoin m K' r s w → IsMinimal m K t → IsWithin m t (λ i. r i + s i) → ((IsWithin m t r) ⊎ (IsWithin m t s)) ⊎ (HasSmaller m K' w)
third m K K' c r s w t more r_flow s_flow up down join minimal within =
    let inside : IsWithin m t w = λ i under some. union_within m K' r s w join i under (within i under some) in
    let r_in = first_within m K' r s w join in
    let s_in = second_within m K' r s w join in
    elim (cases_order (gain_sum m c t) (loss_sum m c t)) [
      | inl none ↦ elim (same_or_smaller m K' w t join.semiflow (zero_semiflow m K K' c t more minimal.semiflow none) inside) [
        | inl same ↦ inl (inl (minimal.least r r_flow (λ i under some. proportional_within m t w same i under (r_in i under some))))
        | inr smaller ↦ inr smaller
      ]
      | inr signed ↦ elim signed [
        | inl negative ↦
            let made = pair_join m K K' c r t more r_flow minimal.semiflow up negative in
            let v = made.0 in
            let other = made.1 in
            elim (same_or_smaller m K' w v join.semiflow other.semiflow (λ i under some. either_in (r i) (t i) (w i) (r_in i under) (inside i under) (join_within m K' r t v other i under some))) [
              | inl same ↦ elim (joins_meet m K' t s r v w (flipped m K' r t v other) (flipped m K' r s w join) same) [
                | inl in_second ↦ inl (inr in_second)
                | inr first_in ↦ inl (inl (minimal.least r r_flow first_in))
              ]
              | inr smaller ↦ inr smaller
            ]
        | inr positive ↦
            let made = pair_join m K K' c t s more minimal.semiflow s_flow positive down in
            let v = made.0 in
            let other = made.1 in
            elim (same_or_smaller m K' w v join.semiflow other.semiflow (λ i under some. either_in (t i) (s i) (w i) (inside i under) (s_in i under) (join_within m K' t s v other i under some))) [
              | inl same ↦ elim (joins_meet m K' t r s v w other join same) [
                | inl in_first ↦ inl (inl in_first)
                | inr second_in ↦ inl (inr (minimal.least s s_flow second_in))
              ]
              | inr smaller ↦ inr smaller
            ]
      ]
    ]

-- a minimal vector has no smaller one
pub none_smaller : (m : Matrix) (K : ℕ → Type 0) (w : ℕ → ℕ) → IsMinimal m K w → HasSmaller m K w → ⊥
none_smaller m K w minimal h =
    let back : 0 < h.rest h.at = minimal.least h.rest h.semiflow h.within h.at h.below h.has in
    let lacks = h.lacks in
    absurd (omega arith)

-- (B) where the join is minimal over one column more, each minimal row in the union is in one of the two
pub minimal_alone : (m : Matrix) (K K' : ℕ → Type 0) (c : ℕ) (r s w t : ℕ → ℕ) → Extends K c K' → IsSemiflow m K r → IsSemiflow m K s → loss_sum m c r < gain_sum m c r → gain_sum m c s < loss_sum m c s → IsJoin m K' r s w → IsMinimal m K' w → IsMinimal m K t → IsWithin m t (λ i. r i + s i) → (IsWithin m t r) ⊎ (IsWithin m t s)
minimal_alone m K K' c r s w t more r_flow s_flow up down join w_minimal t_minimal within =
    elim (third m K K' c r s w t more r_flow s_flow up down join t_minimal within) [
      | inl inside ↦ inside
      | inr smaller ↦ absurd (none_smaller m K' w w_minimal smaller)
    ]

scaled_le : (b a gz lz gy ly : ℕ) → b * gz ≡ a * gy → b * lz ≡ a * ly → gz ≤ lz → 0 < a → gy ≤ ly
scaled_le b a gz lz gy ly gains losses less positive =
    let times : b * gz ≤ b * lz = mul-le-mul_left b less in
    let product : a * gy ≤ a * ly = omega arith in
    le_of_mul-le-mul_left product positive

scaled_sum : (m : Matrix) (f z y : ℕ → ℕ) (p : AreProportional m z y) → p.b * weighted m.rows f z ≡ p.a * weighted m.rows f y
scaled_sum m f z y p =
    sym (weighted_scale m.rows f (λ i. p.b * z i) z p.b (λ i under. refl))
    ∙ weighted_scale m.rows f (λ i. p.b * z i) y p.a p.same

-- proportional vectors have one sign at a column
pub not_over : (m : Matrix) (c : ℕ) (z y : ℕ → ℕ) → AreProportional m z y → gain_sum m c z ≤ loss_sum m c z → gain_sum m c y ≤ loss_sum m c y
not_over m c z y p = λ less. scaled_le p.b p.a _ _ _ _ (scaled_sum m (λ i. positive_at m i c) z y p) (scaled_sum m (λ i. negative_at m i c) z y p) less p.a_positive

pub not_under : (m : Matrix) (c : ℕ) (z y : ℕ → ℕ) → AreProportional m z y → loss_sum m c z ≤ gain_sum m c z → loss_sum m c y ≤ gain_sum m c y
not_under m c z y p = λ less. scaled_le p.b p.a _ _ _ _ (scaled_sum m (λ i. negative_at m i c) z y p) (scaled_sum m (λ i. positive_at m i c) z y p) less p.a_positive

-- (A) where each row in the union is in one of the two, the join, made coprime, is minimal over one column more
module _ (m : Matrix) (K K' : ℕ → Type 0) (c : ℕ) (Row : (ℕ → ℕ) → Type 0) (covers : Covers m K Row) (more : Extends K c K') (column : c < m.columns) (r s w : ℕ → ℕ) (r_minimal : IsMinimal m K r) (s_minimal : IsMinimal m K s) (up : loss_sum m c r < gain_sum m c r) (down : gain_sum m c s < loss_sum m c s) (join : IsJoin m K' r s w) (alone : (t : ℕ → ℕ) → Row t → IsWithin m t (λ i. r i + s i) → (IsWithin m t r) ⊎ (IsWithin m t s)) where
  -- a row in the union that isn't negative has the first row in it, and one that isn't positive the second
  first_in : (t : ℕ → ℕ) → Row t → IsWithin m t (λ i. r i + s i) → loss_sum m c t ≤ gain_sum m c t → IsWithin m r t
  first_in t row within sign =
      elim (alone t row within) [
        | inl in_first ↦ r_minimal.least t (covers.sound t row) in_first
        | inr in_second ↦
            let p = proportional m K s t s_minimal (covers.sound t row) in_second in
            let h : loss_sum m c s ≤ gain_sum m c s = not_under m c t s p sign in
            absurd (omega arith)
      ]

  second_in : (t : ℕ → ℕ) → Row t → IsWithin m t (λ i. r i + s i) → gain_sum m c t ≤ loss_sum m c t → IsWithin m s t
  second_in t row within sign =
      elim (alone t row within) [
        | inl in_first ↦
            let p = proportional m K r t r_minimal (covers.sound t row) in_first in
            let h : gain_sum m c r ≤ loss_sum m c r = not_over m c t r p sign in
            absurd (omega arith)
        | inr in_second ↦ s_minimal.least t (covers.sound t row) in_second
      ]

  join_least : (z : ℕ → ℕ) → IsSemiflow m K' z → IsWithin m z w → IsWithin m w z
  join_least z flow within =
      let old : IsSemiflow m K z = record { nonzero = flow.nonzero; balanced = λ j p k. flow.balanced j p (more.old j k) } in
      let union : (t : ℕ → ℕ) → IsWithin m t z → IsWithin m t (λ i. r i + s i) =
      λ t inside i under some. join_within m K' r s w join i under (within i under (inside i under some))
      in
      let both : IsWithin m r z → IsWithin m s z → IsWithin m w z =
      λ first second i under some. either_in (r i) (s i) (z i) (first i under) (second i under) (join_within m K' r s w join i under some)
      in
      elim (rows_below m K Row covers (λ i. positive_at m i c) (λ i. negative_at m i c) z old (flow.balanced c column more.new)) [
        | inl zero_row ↦
            let t = zero_row.0 in
            let inside = zero_row.2 in
            let equal : gain_sum m c t ≡ loss_sum m c t = zero_row.3 in
            both
            (λ i under some. inside i under (first_in t zero_row.1 (union t inside) (omega arith) i under some))
            (λ i under some. inside i under (second_in t zero_row.1 (union t inside) (omega arith) i under some))
        | inr signed ↦
            let p = signed.0 in
            let q = signed.1 in
            let p_sign : loss_sum m c p.0 < gain_sum m c p.0 = p.3 in
            let q_sign : gain_sum m c q.0 < loss_sum m c q.0 = q.3 in
            both
            (λ i under some. p.2 i under (first_in p.0 p.1 (union p.0 p.2) (omega arith) i under some))
            (λ i under some. q.2 i under (second_in q.0 q.1 (union q.0 q.2) (omega arith) i under some))
      ]

  pub alone_minimal : IsCoprime m w → IsMinimal m K' w
  alone_minimal coprime = record { semiflow = join.semiflow; coprime = coprime; least = join_least }
