-- A list fires within range or a member of it is refused, one of the two and in one way: both are followed from the
-- first member on.
use Rattle.std.proofs.Common.{◌≡◌, ◌⊎◌, refl, sym, ap, subst, ℕ, zero, suc, ◌-◌, ◌^◌, ◌<◌, ◌≤◌, List, [], ◌∷◌, length, take, All, ltb, inl, inr, slice_index, arith}
use Rattle.std.proofs.lemmas.Bool.{ltb-true, ltb-false}
use Rattle.std.proofs.lemmas.List.Elements.{All-tail}
use Rattle.net_values.specs.Net.{Net}
use Rattle.net_values.specs.TokenGame.{IsEnabled, after, NoneOverflows, IsLowest, Lacks, Overflows, FailsToFire}
use Rattle.net_values.specs.declared.token_game.FireFault.{FireFault}
use Rattle.net_values.specs.declared.token_game.FireFault.TheVariants.{NotEnabled, WideMarking}
use Rattle.net_replay.specs.Replays.{FiresTo, FiresWithinRange, FailsAt}
use Rattle.net_replay.proofs.Lowest.{lowest_or_none, lowest_is_one}
use Rattle.net_replay.proofs.Firing.{Agree, after_agree, enabled_too}

module _ (net : Net) where
  -- ---- one member

  lowest_too : (P Q : ℕ → Type 0) (p : ℕ) → ((q : ℕ) → q < net.places → P q → Q q) → ((q : ℕ) → q < net.places → Q q → P q) → IsLowest net P p → IsLowest net Q p
  lowest_too P Q p there back is = record {
    within = is.within;
    holds = there p is.within is.holds;
    lowest = λ q below has. let under : p < net.places = is.within in is.lowest q below (back q (omega arith) has);
  }

  refused_too : (M L : ℕ → ℕ) (t : ℕ) (fault : FireFault) → Agree net M L → FailsToFire net M t fault → FailsToFire net L t fault
  refused_too M L t (NotEnabled p) agree fails = lowest_too (Lacks net M t) (Lacks net L t) p (λ q below. subst (λ n. n < net.pre q t) (agree q below)) (λ q below. subst (λ n. n < net.pre q t) (sym (agree q below))) fails
  refused_too M L t (WideMarking p) agree fails = (
    enabled_too net M L t agree fails.0,
    lowest_too (Overflows net M t) (Overflows net L t) p (λ q below. subst (λ n. 2 ^ 127 ≤ n) (after_agree net M L t agree q below)) (λ q below. subst (λ n. 2 ^ 127 ≤ n) (sym (after_agree net M L t agree q below))) fails.1,
  )

  refused_stays : (M : ℕ → ℕ) (t : ℕ) (fault : FireFault) → FailsToFire net M t fault → IsEnabled net M t → NoneOverflows net M t → ⊥
  refused_stays M t (NotEnabled p) fails enabled narrow =
      let less : M p < net.pre p t = fails.holds in
      let enough : net.pre p t ≤ M p = enabled p fails.within in
      absurd (omega arith)
  refused_stays M t (WideMarking p) fails enabled narrow =
      let many : 2 ^ 127 ≤ after net M t p = fails.1.holds in
      let few : after net M t p < 2 ^ 127 = narrow p fails.1.within in
      absurd (omega arith)

  one_lowest : (P : ℕ → Type 0) (p q : ℕ) → IsLowest net P p → IsLowest net P q → p ≡ q
  one_lowest P p q one other = lowest_is_one P p q one.holds one.lowest other.holds other.lowest

  one_refusal : (M : ℕ → ℕ) (t : ℕ) (f g : FireFault) → FailsToFire net M t f → FailsToFire net M t g → f ≡ g
  one_refusal M t (NotEnabled p) (NotEnabled q) one other = ap NotEnabled (one_lowest (Lacks net M t) p q one other)
  one_refusal M t (NotEnabled p) (WideMarking q) one other =
      let less : M p < net.pre p t = one.holds in
      let enough : net.pre p t ≤ M p = other.0 p one.within in
      absurd (omega arith)
  one_refusal M t (WideMarking p) (NotEnabled q) one other =
      let less : M q < net.pre q t = other.holds in
      let enough : net.pre q t ≤ M q = one.0 q other.within in
      absurd (omega arith)
  one_refusal M t (WideMarking p) (WideMarking q) one other = ap WideMarking (one_lowest (Overflows net M t) p q one.1 other.1)

  -- ---- member by member

  abbrev pub FailsAfter : (ℕ → ℕ) → List ℕ → ℕ → FireFault → Type 0
  FailsAfter M [] index fault = ⊥
  FailsAfter M (t ∷ ts) zero fault = FailsToFire net M t fault
  FailsAfter M (t ∷ ts) (suc index) fault = (t < net.transitions) × IsEnabled net M t × NoneOverflows net M t × FailsAfter (after net M t) ts index fault

  pub followed : (M L : ℕ → ℕ) (ts : List ℕ) (index : ℕ) (fault : FireFault) → index < length ts → FiresTo net M (take index ts) L → FailsToFire net L (slice_index ts index) fault → FailsAfter M ts index fault
  followed M L [] index fault within fired fails = absurd (omega (arith, within))
  followed M L (t ∷ ts) zero fault within fired fails = refused_too L M t fault fired fails
  followed M L (t ∷ ts) (suc index) fault within fired fails = (fired.0, fired.1, fired.2, followed (after net M t) L ts index fault (omega (arith, within)) fired.3 fails)

  pub record FailsFrom (M : ℕ → ℕ) (ts : List ℕ) (index : ℕ) (fault : FireFault) : Type 0 where
    pub within : index < length ts
    pub reached : ℕ → ℕ
    pub before : FiresTo net M (take index ts) reached
    pub refused : FailsToFire net reached (slice_index ts index) fault

  one_more : (M : ℕ → ℕ) (t : ℕ) (ts : List ℕ) (index : ℕ) (fault : FireFault) → t < net.transitions → IsEnabled net M t → NoneOverflows net M t → FailsFrom (after net M t) ts index fault → FailsFrom M (t ∷ ts) (suc index) fault
  one_more M t ts index fault within enabled narrow h = let inside : index < length ts = h.within in record {
    within = omega (arith, inside);
    reached = h.reached;
    before = (within, enabled, narrow, h.before);
    refused = h.refused;
  }

  one_way : (M : ℕ → ℕ) (ts : List ℕ) (i j : ℕ) (f g : FireFault) → FailsAfter M ts i f → FailsAfter M ts j g → (i ≡ j) × (f ≡ g)
  one_way M [] i j f g one other = absurd one
  one_way M (t ∷ ts) zero zero f g one other = (refl, one_refusal M t f g one other)
  one_way M (t ∷ ts) zero (suc j) f g one other = absurd (refused_stays M t f one other.1 other.2)
  one_way M (t ∷ ts) (suc i) zero f g one other = absurd (refused_stays M t g other one.1 one.2)
  one_way M (t ∷ ts) (suc i) (suc j) f g one other = let h = one_way (after net M t) ts i j f g one.3 other.3 in (ap suc h.0, h.1)

  not_both : (M L : ℕ → ℕ) (ts : List ℕ) (i : ℕ) (f : FireFault) → FiresTo net M ts L → FailsAfter M ts i f → ⊥
  not_both M L [] i f fired fails = fails
  not_both M L (t ∷ ts) zero f fired fails = refused_stays M t f fails fired.1 fired.2
  not_both M L (t ∷ ts) (suc i) f fired fails = not_both (after net M t) L ts i f fired.3 fails.3

  of_failure : (ts : List ℕ) (index : ℕ) (fault : FireFault) → FailsAt net ts index fault → FailsAfter net.initial ts index fault
  of_failure ts index fault h = followed net.initial h.reached ts index fault h.within h.before h.refused

  pub one_failure : (ts : List ℕ) (i j : ℕ) (f g : FireFault) → FailsAt net ts i f → FailsAt net ts j g → (i ≡ j) × (f ≡ g)
  one_failure ts i j f g one other = one_way net.initial ts i j f g (of_failure ts i f one) (of_failure ts j g other)

  pub never_both : (ts : List ℕ) (i : ℕ) (f : FireFault) → FiresWithinRange net ts → FailsAt net ts i f → ⊥
  never_both ts i f fires fails = not_both net.initial fires.0 ts i f fires.1 (of_failure ts i f fails)

  -- ---- one of the two

  fires_or_fails : (M : ℕ → ℕ) (t : ℕ) → (IsEnabled net M t × NoneOverflows net M t) ⊎ ((fault : FireFault) × FailsToFire net M t fault)
  fires_or_fails M t =
      elim (lowest_or_none (λ p. ltb (M p) (net.pre p t)) net.places) [
        | inl lacks ↦ inr (
          NotEnabled lacks.0,
          record {
            within = lacks.1;
            holds = ltb-true (M lacks.0) (net.pre lacks.0 t) lacks.2;
            lowest = λ q below less. let enough = ltb-false (M q) (net.pre q t) (lacks.3 q below) in absurd (omega (arith, enough, less));
          },
        )
        | inr enough ↦
            let enabled : IsEnabled net M t = λ p below. ltb-false (M p) (net.pre p t) (enough p below) in
            elim (lowest_or_none (λ p. ltb (2 ^ 127 - 1) (after net M t p)) net.places) [
              | inl wide ↦ inr (
                WideMarking wide.0,
                (
                  enabled,
                  record {
                    within = wide.1;
                    holds = let many = ltb-true (2 ^ 127 - 1) (after net M t wide.0) wide.2 in omega (arith, many);
                    lowest = λ q below many. let few = ltb-false (2 ^ 127 - 1) (after net M t q) (wide.3 q below) in absurd (omega (arith, few, many));
                  },
                ),
              )
              | inr few ↦ inl (enabled, λ p below. let narrow = ltb-false (2 ^ 127 - 1) (after net M t p) (few p below) in omega (arith, narrow))
            ]
      ]

  pub walked : (M : ℕ → ℕ) (ts : List ℕ) → All (λ t. t < net.transitions) ts → ((L : ℕ → ℕ) × FiresTo net M ts L) ⊎ ((index : ℕ) × (fault : FireFault) × FailsFrom M ts index fault)
  walked M [] within = inl (M, λ p below. refl)
  walked M (t ∷ ts) within =
      let here : t < net.transitions = within 0 t (omega arith) in
      elim (fires_or_fails M t) [
        | inl fires ↦ elim (walked (after net M t) ts (All-tail (λ u. u < net.transitions) t ts within)) [
          | inl on ↦ inl (on.0, (here, fires.0, fires.1, on.1))
          | inr stops ↦ inr (suc stops.0, stops.1, one_more M t ts stops.0 stops.1 here fires.0 fires.1 stops.2)
        ]
        | inr fails ↦ inr (0, fails.0, record { within = omega arith; reached = M; before = λ p below. refl; refused = fails.1 })
      ]

  pub as_failure : (ts : List ℕ) (index : ℕ) (fault : FireFault) → FailsFrom net.initial ts index fault → FailsAt net ts index fault
  as_failure ts index fault h = record { within = h.within; reached = h.reached; before = h.before; refused = h.refused }
