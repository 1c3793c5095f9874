-- What is read of bytes, and what a replay of a firing list ends in, is one of two things, and one only.
use Rattle.std.specs.Prelude.{◌≡◌, ◌⊎◌, ℕ, ◌<◌, List, All}
use Rattle.net_values.specs.Net.{Net}
use Rattle.net_values.specs.declared.token_game.FireFault.{FireFault}
use Rattle.net_replay.specs.FiringLists.{ListsFirings, IsBadFiringLine}
use Rattle.net_replay.specs.Replays.{FiresWithinRange, FailsAt, IsReplay}
use Rattle.net_replay.specs.declared.replayed.Replay.{Replay}

-- bytes are a firing list or have a bad line
abbrev pub AFiringListOrABadLine : Net → (ℕ → List ℕ) → List ℕ → Type 0
AFiringListOrABadLine net ids bytes =
    ((ts : List ℕ) × ListsFirings net ids bytes ts × All (λ t. t < net.transitions) ts) ⊎ ((line : ℕ) × IsBadFiringLine net ids bytes line)

-- only one of either, and not both
pub record OneFiringList (net : Net) (ids : ℕ → List ℕ) (bytes : List ℕ) : Type 0 where
  pub list : (ts us : List ℕ) → ListsFirings net ids bytes ts → ListsFirings net ids bytes us → ts ≡ us
  pub line : (one other : ℕ) → IsBadFiringLine net ids bytes one → IsBadFiringLine net ids bytes other → one ≡ other
  pub apart : (ts : List ℕ) (line : ℕ) → ListsFirings net ids bytes ts → IsBadFiringLine net ids bytes line → ⊥

-- a firing list has a replay, or a member is refused
abbrev pub AReplayOrAFailure : Net → List ℕ → Type 0
AReplayOrAFailure net ts =
    All (λ t. t < net.transitions) ts → ((replay : Replay) × IsReplay net ts replay) ⊎ ((index : ℕ) × (fault : FireFault) × FailsAt net ts index fault)

-- only one of either, and not both: so a list has a replay exactly where it fires within range
pub record OneReplay (net : Net) (ts : List ℕ) : Type 0 where
  pub replay : (one other : Replay) → IsReplay net ts one → IsReplay net ts other → one ≡ other
  pub failure : (i j : ℕ) (f g : FireFault) → FailsAt net ts i f → FailsAt net ts j g → (i ≡ j) × (f ≡ g)
  pub apart : (i : ℕ) (f : FireFault) → FiresWithinRange net ts → FailsAt net ts i f → ⊥
