-- Firing a list within range: where two markings agree at the places of the net the same fires from both and leads to
-- markings that agree; one firing more continues a list.
use Rattle.std.proofs.Common.{◌≡◌, sym, ap, ◌∙◌, subst, ℕ, ◌+◌, ◌-◌, ◌^◌, ◌<◌, ◌≤◌, List, [], ◌∷◌, ◌++◌}
use Rattle.net_values.specs.Net.{Net}
use Rattle.net_values.specs.TokenGame.{IsEnabled, after, Reach, NoneOverflows, Fires}
use Rattle.net_replay.specs.Replays.{FiresTo}

module _ (net : Net) where
  -- markings that agree at the places of the net
  abbrev pub Agree : (ℕ → ℕ) → (ℕ → ℕ) → Type 0
  Agree M L = (p : ℕ) → p < net.places → M p ≡ L p

  pub after_agree : (M L : ℕ → ℕ) (t : ℕ) → Agree M L → Agree (after net M t) (after net L t)
  after_agree M L t agree p below = ap (λ n. n - net.pre p t + net.post p t) (agree p below)

  pub enabled_too : (M L : ℕ → ℕ) (t : ℕ) → Agree M L → IsEnabled net M t → IsEnabled net L t
  enabled_too M L t agree enabled p below = subst (λ n. net.pre p t ≤ n) (agree p below) (enabled p below)

  pub narrow_too : (M L : ℕ → ℕ) (t : ℕ) → Agree M L → NoneOverflows net M t → NoneOverflows net L t
  narrow_too M L t agree narrow p below = subst (λ n. n < 2 ^ 127) (after_agree M L t agree p below) (narrow p below)

  pub from_agreeing : (ts : List ℕ) (M L M' : ℕ → ℕ) → Agree M L → FiresTo net M ts M' → FiresTo net L ts M'
  from_agreeing [] M L M' agree fired = λ p below. fired p below ∙ agree p below
  from_agreeing (t ∷ ts) M L M' agree fired = (
    fired.0,
    enabled_too M L t agree fired.1,
    narrow_too M L t agree fired.2,
    from_agreeing ts (after net M t) (after net L t) M' (after_agree M L t agree) fired.3,
  )

  -- one firing more
  pub fires_then : (ts : List ℕ) (M M' L : ℕ → ℕ) (t : ℕ) → FiresTo net M ts M' → t < net.transitions → Fires net M' t L → FiresTo net M (ts ++ t ∷ []) L
  fires_then [] M M' L t fired within fires = (
    within,
    enabled_too M' M t fired fires.enabled,
    narrow_too M' M t fired fires.narrow,
    λ p below. fires.reached p below ∙ after_agree M' M t fired p below,
  )
  fires_then (u ∷ ts) M M' L t fired within fires = (fired.0, fired.1, fired.2, fires_then ts (after net M u) M' L t fired.3 within fires)

  -- a list leads to one marking
  pub one_end : (ts : List ℕ) (M L K : ℕ → ℕ) → FiresTo net M ts L → FiresTo net M ts K → Agree L K
  one_end [] M L K one other = λ p below. one p below ∙ sym (other p below)
  one_end (t ∷ ts) M L K one other = one_end ts (after net M t) L K one.3 other.3

  -- and to each marking that agrees with that
  pub to_agreeing : (ts : List ℕ) (M L K : ℕ → ℕ) → Agree L K → FiresTo net M ts L → FiresTo net M ts K
  to_agreeing [] M L K agree fired = λ p below. sym (agree p below) ∙ fired p below
  to_agreeing (t ∷ ts) M L K agree fired = (fired.0, fired.1, fired.2, to_agreeing ts (after net M t) L K agree fired.3)

  pub reaches : (ts : List ℕ) (M L : ℕ → ℕ) → FiresTo net M ts L → Reach net M ts L
  reaches [] M L fired = fired
  reaches (t ∷ ts) M L fired = (fired.0, fired.1, reaches ts (after net M t) L fired.3)
