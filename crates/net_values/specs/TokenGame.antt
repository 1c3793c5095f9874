-- The token game of a place/transition net (ISO/IEC 15909-1). A marking gives each place its number of
-- tokens.
use Rattle.std.specs.Prelude.{◌≡◌, ℕ, ◌+◌, ◌-◌, ◌^◌, ◌<◌, ◌≤◌, List, [], ◌∷◌}
use Rattle.net_values.specs.Net.{Net}
use Rattle.net_values.specs.declared.token_game.FireFault.{FireFault}
use Rattle.net_values.specs.declared.token_game.FireFault.TheVariants.{NotEnabled, WideMarking}

-- each place has at least the tokens that the transition takes
abbrev pub IsEnabled : Net → (ℕ → ℕ) → ℕ → Type 0
IsEnabled net M t = (p : ℕ) → p < net.places → net.pre p t ≤ M p

-- the marking after the transition fired
abbrev pub after : Net → (ℕ → ℕ) → ℕ → ℕ → ℕ
after net M t p = M p - net.pre p t + net.post p t

-- the transitions of the list fire one after the other from the first marking to the last
abbrev pub Reach : Net → (ℕ → ℕ) → List ℕ → (ℕ → ℕ) → Type 0
Reach net M [] M' = (p : ℕ) → p < net.places → M' p ≡ M p
Reach net M (t ∷ ts) M' = (t < net.transitions) × IsEnabled net M t × Reach net (after net M t) ts M'

-- some list of transitions leads from the initial marking to it
abbrev pub IsReachable : Net → (ℕ → ℕ) → Type 0
IsReachable net M = (ts : List ℕ) × Reach net net.initial ts M

-- no transition is enabled
abbrev pub IsDead : Net → (ℕ → ℕ) → Type 0
IsDead net M = (t : ℕ) → t < net.transitions → IsEnabled net M t → ⊥

-- the lowest place with the property
pub record IsLowest (net : Net) (Property : ℕ → Type 0) (p : ℕ) : Type 0 where
  pub within : p < net.places
  pub holds : Property p
  pub lowest : (q : ℕ) → q < p → Property q → ⊥

-- the place has fewer tokens than the transition takes
abbrev pub Lacks : Net → (ℕ → ℕ) → ℕ → ℕ → Type 0
Lacks net M t p = M p < net.pre p t

-- the place would have more than 2^127 - 1 tokens
abbrev pub Overflows : Net → (ℕ → ℕ) → ℕ → ℕ → Type 0
Overflows net M t p = 2 ^ 127 ≤ after net M t p

-- no place would
abbrev pub NoneOverflows : Net → (ℕ → ℕ) → ℕ → Type 0
NoneOverflows net M t = (p : ℕ) → p < net.places → after net M t p < 2 ^ 127

-- the transition fires from the first marking to the second, whose counts are at most 2^127 - 1
pub record Fires (net : Net) (M : ℕ → ℕ) (t : ℕ) (M' : ℕ → ℕ) : Type 0 where
  pub enabled : IsEnabled net M t
  pub reached : (p : ℕ) → p < net.places → M' p ≡ after net M t p
  pub narrow : NoneOverflows net M t

-- why a transition doesn't fire: it isn't enabled, or else a new count is too large; the lowest such
-- place is told
abbrev pub FailsToFire : Net → (ℕ → ℕ) → ℕ → FireFault → Type 0
FailsToFire net M t (NotEnabled p) = IsLowest net (Lacks net M t) p
FailsToFire net M t (WideMarking p) = IsEnabled net M t × IsLowest net (Overflows net M t) p
