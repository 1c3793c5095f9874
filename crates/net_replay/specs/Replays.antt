-- Replays of firing lists in the token game (ISO/IEC 15909-1), and what the numbers of firings tell of them
-- (T. Murata, "Petri nets: properties, analysis and applications", Proceedings of the IEEE 77, 1989, section
-- IV-B: the state equation and the firing count vector).
use Rattle.std.specs.Prelude.{◌≡◌, ◌≢◌, ◌↔◌, ℕ, ◌+◌, ◌<◌, ◌==◌, List, [], ◌∷◌, IsTrue, count_by, length, take, slice_index}
use Rattle.net_values.specs.Net.{Net}
use Rattle.net_values.specs.TokenGame.{IsEnabled, after, Reach, NoneOverflows, FailsToFire}
use Rattle.net_values.specs.declared.token_game.FireFault.{FireFault}
use Rattle.incidence.specs.Matrix.{Matrix, incidence_of, transposed, gain_sum, loss_sum}
use Rattle.incidence.specs.Semiflow.{IsSemiflow, all_columns}
use Rattle.net_replay.specs.declared.replayed.Replay.{Replay}

-- ---- firing within range

-- the transitions of the list fire one after the other from the first marking to the last, and no number of
-- tokens on the way exceeds 2^127 - 1
abbrev pub FiresTo : Net → (ℕ → ℕ) → List ℕ → (ℕ → ℕ) → Type 0
FiresTo net M [] M' = (p : ℕ) → p < net.places → M' p ≡ M p
FiresTo net M (t ∷ ts) M' = (t < net.transitions) × IsEnabled net M t × NoneOverflows net M t × FiresTo net (after net M t) ts M'

-- from the initial marking
abbrev pub FiresWithinRange : Net → List ℕ → Type 0
FiresWithinRange net ts = (M : ℕ → ℕ) × FiresTo net net.initial ts M

-- the members before this one fire, and this one is refused so
pub record FailsAt (net : Net) (ts : List ℕ) (index : ℕ) (fault : FireFault) : Type 0 where
  pub within : index < length ts
  pub reached : ℕ → ℕ
  pub before : FiresTo net net.initial (take index ts) reached
  pub refused : FailsToFire net reached (slice_index ts index) fault

-- ---- what was fired

-- how often a transition occurs in a list
abbrev pub occurrences : List ℕ → ℕ → ℕ
occurrences ts t = count_by (λ u. u == t) ts

-- the count vector of a firing list: per transition the number of its occurrences
pub record IsCountVector (net : Net) (ts counts : List ℕ) : Type 0 where
  pub size : length counts ≡ net.transitions
  pub each : (t : ℕ) → t < net.transitions → slice_index counts t ≡ occurrences ts t

-- the matrix whose semiflows are those of transitions
abbrev pub by_transition : Net → Matrix
by_transition net = transposed (incidence_of net)

-- the state equation: the marking is the initial one and, at each place, the sum of the counts with the
-- entries of the incidence matrix; what is taken is on the left
abbrev pub MeetsStateEquation : Net → (ℕ → ℕ) → (ℕ → ℕ) → Type 0
MeetsStateEquation net counts M =
    (p : ℕ) → p < net.places → M p + loss_sum (by_transition net) p counts ≡ net.initial p + gain_sum (by_transition net) p counts

-- something was fired, and the initial marking is there again
pub record Returns (net : Net) (ts : List ℕ) (M : ℕ → ℕ) : Type 0 where
  pub some : ts ≢ []
  pub again : (p : ℕ) → p < net.places → M p ≡ net.initial p

-- the replay of a firing list
pub record IsReplay (net : Net) (ts : List ℕ) (replay : Replay) : Type 0 where
  pub size : length replay.marking ≡ net.places
  pub fires : FiresTo net net.initial ts (slice_index replay.marking)
  pub reached : Reach net net.initial ts (slice_index replay.marking)
  pub counts : IsCountVector net ts replay.counts
  pub changed : MeetsStateEquation net (slice_index replay.counts) (slice_index replay.marking)
  pub semiflow : IsTrue replay.semiflow ↔ IsSemiflow (by_transition net) all_columns (slice_index replay.counts)
  pub returns : IsTrue replay.semiflow ↔ Returns net ts (slice_index replay.marking)
