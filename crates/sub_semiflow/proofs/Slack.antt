-- The semiflows of the extended incidence are the sub-semiflows of the places, each with its slack: what each transition
-- takes more than it gives. So the slack is determined by the place entries, supports are marks, and the same numbers
-- divide all entries.
use Rattle.std.proofs.Common.{◌≡◌, sym, subst, ℕ, zero, suc, ◌+◌, ◌*◌, ◌-◌, ◌<◌, inl, inr, arith}
use Rattle.std.specs.Int.{◌∣◌}
use Rattle.std.proofs.lemmas.Bool.{cases_lt}
use Rattle.std.proofs.lemmas.Nat.Gcd.{dvd-zero}
use Rattle.std.proofs.Math.Nat.{dvd-add_iff_right, dvd-mul_right_of_dvd}
use Rattle.net_values.specs.Net.{Net}
use Rattle.incidence.specs.Matrix.{positive_at, negative_at, gain_sum, loss_sum}
use Rattle.incidence.specs.Semiflow.{IsSemiflow, IsWithin, IsCoprime, all_columns}
use Rattle.incidence.specs.Sums.{sum_below}
use Rattle.sub_semiflow.specs.SubSemiflows.{IsSubSemiflow, HasMarkWithin}
use Rattle.sub_semiflow.proofs.Sums.{of_places, extended, Agree, gain_agree, loss_agree, gain_is, loss_is, some_place}

-- a number that divides each factor divides the sum
dvd-sum : (n d : ℕ) (f g : ℕ → ℕ) → ((i : ℕ) → i < n → d ∣ f i) → d ∣ sum_below n (λ i. f i * g i)
dvd-sum zero d f g each = dvd-zero d
dvd-sum (suc n) d f g each =
    let rest : d ∣ sum_below n (λ i. f i * g i) = dvd-sum n d f g (λ i under. each i (omega arith)) in
    let last : d ∣ f n * g n = dvd-mul_right_of_dvd d (each n (omega arith)) (g n) in
    (dvd-add_iff_right d {m = sum_below n (λ i. f i * g i)} {n = f n * g n} rest).0 last

module _ (net : Net) where
  -- what the transition takes more than it gives
  abbrev pub slack : (ℕ → ℕ) → ℕ → ℕ
  slack y t = loss_sum (of_places net) t y - gain_sum (of_places net) t y

  pub slack_agree : (y z : ℕ → ℕ) (t : ℕ) → Agree net y z → slack y t ≡ slack z t
  slack_agree y z t agree = let gains = gain_agree net t y z agree in let losses = loss_agree net t y z agree in omega (arith, gains, losses)

  -- the entry of each transition is its slack
  abbrev pub HasSlack : (ℕ → ℕ) → Type 0
  HasSlack z = (t : ℕ) → t < net.transitions → z (net.places + t) ≡ slack z t

  balance : (z : ℕ → ℕ) (t : ℕ) → t < net.transitions → IsSemiflow (extended net) all_columns z → gain_sum (of_places net) t z + z (net.places + t) ≡ loss_sum (of_places net) t z
  balance z t within flow =
      let balanced : gain_sum (extended net) t z ≡ loss_sum (extended net) t z = flow.balanced t within tt in
      let gains = gain_is net t z within in
      let losses = loss_is net t z in
      omega (arith, balanced, gains, losses)

  pub has_slack : (z : ℕ → ℕ) → IsSemiflow (extended net) all_columns z → HasSlack z
  has_slack z flow t within = let even = balance z t within flow in omega (arith, even)

  -- ---- semiflows and sub-semiflows

  pub falls_of : (z : ℕ → ℕ) → IsSemiflow (extended net) all_columns z → IsSubSemiflow net z
  falls_of z flow = record {
    nonzero =
        let i = flow.nonzero.0 in
        let under : i < net.places + net.transitions = flow.nonzero.1 in
        elim (cases_lt i net.places) [
          | inl within ↦ (i, within, flow.nonzero.2)
          | inr past ↦
              let t = i - net.places in
              let back : i ≡ net.places + t = omega (arith, past) in
              let below : t < net.transitions = omega (arith, under, past) in
              let some : 0 < z (net.places + t) = subst (λ k. 0 < z k) back flow.nonzero.2 in
              let even = balance z t below flow in
              some_place net t z (omega (arith, even, some))
        ];
    falls = λ t within. let even = balance z t within flow in omega (arith, even);
  }

  pub flow_of : (z : ℕ → ℕ) → IsSubSemiflow net z → HasSlack z → IsSemiflow (extended net) all_columns z
  flow_of z sub has = record {
    nonzero = let below : sub.nonzero.0 < net.places = sub.nonzero.1 in (sub.nonzero.0, omega arith, sub.nonzero.2);
    balanced = λ t within every.
        let gains = gain_is net t z within in
        let losses = loss_is net t z in
        let own = has t within in
        let falls = sub.falls t within in
        omega (arith, gains, losses, own, falls);
  }

  pub sub_agree : (y z : ℕ → ℕ) → Agree net y z → IsSubSemiflow net y → IsSubSemiflow net z
  sub_agree y z agree sub = record {
    nonzero = (sub.nonzero.0, sub.nonzero.1, subst (λ n. 0 < n) (agree sub.nonzero.0 sub.nonzero.1) sub.nonzero.2);
    falls = λ t within. let gains = gain_agree net t y z agree in let losses = loss_agree net t y z agree in let falls = sub.falls t within in omega (arith, gains, losses, falls);
  }

  -- ---- marks and supports

  pub mark_agree : (y z a b : ℕ → ℕ) → Agree net y a → Agree net z b → HasMarkWithin net y z → HasMarkWithin net a b
  mark_agree y z a b first second mark = record {
    places = λ p within some. subst (λ n. 0 < n) (second p within) (mark.places p within (subst (λ n. 0 < n) (sym (first p within)) some));
    transitions = λ t within lossy.
        let gains = gain_agree net t y a first in
        let losses = loss_agree net t y a first in
        let gains_too = gain_agree net t z b second in
        let losses_too = loss_agree net t z b second in
        let before : gain_sum (of_places net) t y < loss_sum (of_places net) t y = omega (arith, gains, losses, lossy) in
        let after : gain_sum (of_places net) t z < loss_sum (of_places net) t z = mark.transitions t within before in
        omega (arith, gains_too, losses_too, after);
  }

  pub marked : (y z : ℕ → ℕ) → HasSlack y → HasSlack z → IsWithin (extended net) y z → HasMarkWithin net y z
  marked y z of_y of_z within = record {
    places = λ p below some. within p (omega (arith, below)) some;
    transitions = λ t below lossy.
        let own = of_y t below in
        let own_too = of_z t below in
        let some : 0 < z (net.places + t) = within (net.places + t) (omega (arith, below)) (omega (arith, own, lossy)) in
        omega (arith, own_too, some);
  }

  pub supported : (y z : ℕ → ℕ) → HasSlack y → HasSlack z → HasMarkWithin net y z → IsWithin (extended net) y z
  supported y z of_y of_z mark i under some =
      elim (cases_lt i net.places) [
        | inl within ↦ mark.places i within some
        | inr past ↦
            let t = i - net.places in
            let back : net.places + t ≡ i = omega (arith, past) in
            let below : t < net.transitions = omega (arith, under, past) in
            let own = of_y t below in
            let own_too = of_z t below in
            let here : 0 < y (net.places + t) = subst (λ k. 0 < y k) (sym back) some in
            let lossy : gain_sum (of_places net) t z < loss_sum (of_places net) t z = mark.transitions t below (omega (arith, own, here)) in
            let there : 0 < z (net.places + t) = omega (arith, own_too, lossy) in
            subst (λ k. 0 < z k) back there
      ]

  -- ---- divisors

  pub coprime_agree : (y z : ℕ → ℕ) → Agree net y z → IsCoprime (of_places net) y → IsCoprime (of_places net) z
  coprime_agree y z agree coprime d each = coprime d (λ i under. subst (λ n. d ∣ n) (sym (agree i under)) (each i under))

  pub coprime_extended : (z : ℕ → ℕ) → IsCoprime (of_places net) z → IsCoprime (extended net) z
  coprime_extended z coprime d each = coprime d (λ i under. each i (omega (arith, under)))

  divides_slack : (z : ℕ → ℕ) (d t : ℕ) → IsSemiflow (extended net) all_columns z → t < net.transitions → ((p : ℕ) → p < net.places → d ∣ z p) → d ∣ z (net.places + t)
  divides_slack z d t flow within each =
      let gains : d ∣ gain_sum (of_places net) t z = dvd-sum net.places d z (λ i. positive_at (of_places net) i t) each in
      let losses : d ∣ loss_sum (of_places net) t z = dvd-sum net.places d z (λ i. negative_at (of_places net) i t) each in
      let whole : d ∣ gain_sum (of_places net) t z + z (net.places + t) = subst (λ n. d ∣ n) (sym (balance z t within flow)) losses in
      (dvd-add_iff_right d {m = gain_sum (of_places net) t z} {n = z (net.places + t)} gains).1 whole

  pub coprime_places : (z : ℕ → ℕ) → IsSemiflow (extended net) all_columns z → IsCoprime (extended net) z → IsCoprime (of_places net) z
  coprime_places z flow coprime d each = coprime d (λ i under.
      elim (cases_lt i net.places) [
        | inl within ↦ each i within
        | inr past ↦
            let t = i - net.places in
            let back : net.places + t ≡ i = omega (arith, past) in
            subst (λ k. d ∣ z k) back (divides_slack z d t flow (omega (arith, under, past)) each)
      ])
