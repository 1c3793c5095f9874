-- Lost transitions along firing lists: what is lost stays lost; an input place of a lost transition that has
-- a token keeps one, since by free choice a transition that takes it could fire only where the lost one
-- could; and a lost transition has an input place without a token.
use Rattle.std.proofs.Common.{◌≡◌, refl, ap, ◌∙◌, ℕ, ◌+◌, ◌-◌, ◌<◌, List, [], ◌∷◌, ◌++◌, ltb, inl, inr, arith}
use Rattle.std.proofs.lemmas.Bool.{cases_lt, ltb-true, ltb-false, cases_Bool}
use Rattle.net_values.specs.Net.{Net}
use Rattle.net_values.specs.TokenGame.{IsEnabled, after, Reach, IsReachable, IsDead}
use Rattle.closed_sets.specs.ClosedSets.{any_below}
use Rattle.closed_sets.specs.Commoner.{IsOrdinary}
use Rattle.closed_sets.proofs.Below.{any_from, none_at}
use Rattle.net_class.specs.Classes.{IsFreeChoice}
use Rattle.free_choice_live.specs.Live.{IsLost, LiveNetsNeverDie}

-- ---- firing lists, one after the other

-- markings that agree at the places of the net
abbrev Agree : Net → (ℕ → ℕ) → (ℕ → ℕ) → Type 0
Agree net M L = (p : ℕ) → p < net.places → M p ≡ L p

reach_from : (net : Net) (ts : List ℕ) (M L M' : ℕ → ℕ) → Agree net M L → Reach net M ts M' → Reach net L ts M'
reach_from net [] M L M' agree reached = λ p below. reached p below ∙ agree p below
reach_from net (t ∷ ts) M L M' agree reached = (
  reached.0,
  λ p below. omega (arith, agree p below, reached.1 p below),
  reach_from net ts (after net M t) (after net L t) M' (λ p below. ap (λ n. n - net.pre p t + net.post p t) (agree p below)) reached.2,
)

reach_join : (net : Net) (ts us : List ℕ) (M M' L : ℕ → ℕ) → Reach net M ts M' → Reach net M' us L → Reach net M (ts ++ us) L
reach_join net [] us M M' L first second = reach_from net us M' M L first second
reach_join net (t ∷ ts) us M M' L first second = (first.0, first.1, reach_join net ts us (after net M t) M' L first.2 second)

-- one firing more
pub reach_then : (net : Net) (ts : List ℕ) (M M' : ℕ → ℕ) (t : ℕ) → Reach net M ts M' → t < net.transitions → IsEnabled net M' t → Reach net M (ts ++ t ∷ []) (after net M' t)
reach_then net ts M M' t reached below enabled = reach_join net ts (t ∷ []) M M' (after net M' t) reached (below, enabled, λ p within. refl)

pub reachable_on : (net : Net) (ts : List ℕ) (M M' : ℕ → ℕ) → IsReachable net M → Reach net M ts M' → IsReachable net M'
reachable_on net ts M M' reachable reached = (reachable.0 ++ ts, reach_join net reachable.0 ts net.initial M M' reachable.1 reached)

-- ---- lost transitions

pub lost_on : (net : Net) (ts : List ℕ) (M M' : ℕ → ℕ) (t : ℕ) → IsLost net M t → Reach net M ts M' → IsLost net M' t
lost_on net ts M M' t lost reached us L more enabled = lost (ts ++ us) L (reach_join net ts us M M' L reached more) enabled

-- one firing leaves a token on an input place of a lost transition
kept : (net : Net) (M : ℕ → ℕ) (d p t : ℕ) → IsFreeChoice net → d < net.transitions → p < net.places → 0 < net.pre p d → IsLost net M d → 0 < M p → t < net.transitions → IsEnabled net M t → 0 < after net M t p
kept net M d p t choice within below input lost marked here enabled =
    elim (cases_lt 0 (net.pre p t)) [
      | inl takes ↦
          absurd (
          lost [] M (λ q _. refl) (
          λ q inside. elim (cases_lt 0 (net.pre q d)) [
            | inl needs ↦
                let takes_too = (choice.shared d t within here (p, below, input, takes) q inside).0 needs in
                let has = enabled q inside in
                let once = (choice.ordinary q d inside within).0 in
                omega arith
            | inr free ↦ omega arith
          ]
          )
          )
      | inr leaves ↦ omega arith
    ]

-- and so does any firing list
pub kept_along : (net : Net) (ts : List ℕ) (M M' : ℕ → ℕ) (d p : ℕ) → IsFreeChoice net → d < net.transitions → p < net.places → 0 < net.pre p d → IsLost net M d → 0 < M p → Reach net M ts M' → 0 < M' p
kept_along net [] M M' d p choice within below input lost marked reached = omega (arith, reached p below)
kept_along net (t ∷ ts) M M' d p choice within below input lost marked reached =
    kept_along net ts (after net M t) M' d p choice within below input (lost_on net (t ∷ []) M (after net M t) d lost (reached.0, reached.1, λ q _. refl))
    (kept net M d p t choice within below input lost marked reached.0 reached.1) reached.2

-- an input place of a transition without a token
pub record IsEmptyInput (net : Net) (M : ℕ → ℕ) (t p : ℕ) : Type 0 where
  pub within : p < net.places
  pub input : 0 < net.pre p t
  pub empty : M p ≡ 0

pub lost_input : (net : Net) (M : ℕ → ℕ) (t : ℕ) → IsOrdinary net → t < net.transitions → IsLost net M t → (p : ℕ) × IsEmptyInput net M t p
lost_input net M t ordinary below lost =
    elim (cases_Bool (any_below net.places (λ p. ltb (M p) (net.pre p t)))) [
      | inl some ↦
          let at = any_from net.places (λ p. ltb (M p) (net.pre p t)) some in
          let less = ltb-true (M at.0) (net.pre at.0 t) at.2 in
          let once = (ordinary at.0 t at.1 below).0 in
          (at.0, record { within = at.1; input = omega arith; empty = omega arith })
      | inr none ↦
          absurd (lost [] M (λ q _. refl) (λ p within. ltb-false (M p) (net.pre p t) (none_at net.places (λ p. ltb (M p) (net.pre p t)) none p within)))
    ]

-- ---- dead markings

-- from a dead marking nothing fires, so each transition is lost there
dead_loses : (net : Net) (M : ℕ → ℕ) (t : ℕ) → t < net.transitions → IsDead net M → IsLost net M t
dead_loses net M t below dead [] M' reached enabled = dead t below (λ p within. omega (arith, reached p within, enabled p within))
dead_loses net M t below dead (u ∷ us) M' reached enabled = dead u reached.0 reached.1

pub live_never_dead : (net : Net) → LiveNetsNeverDie net
live_never_dead net some live M reachable dead = live M reachable 0 some (dead_loses net M 0 some dead)
