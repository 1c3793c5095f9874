-- What `replay` tells of a net and the bytes that follow its document.
use Rattle.std.specs.Prelude.{ℕ, List}
use Rattle.net_values.specs.Net.{Net}
use Rattle.net_values.specs.declared.token_game.FireFault.TheVariants.{NotEnabled, WideMarking}
use Rattle.net_replay.specs.FiringLists.{ListsFirings, IsBadFiringLine}
use Rattle.net_replay.specs.Replays.{FailsAt, IsReplay}
use Rattle.net_replay.specs.Texts.{replay_text}
use Rattle.net_replay.specs.declared.replayed.Replay.{Replay}
use Rattle.report.specs.FaultLines.{firing_malformed_line, firing_rejected_line, wide_marking_line}

-- a member that doesn't fire
pub data FailedFiring (net : Net) (places : ℕ → List ℕ) (ts : List ℕ) : ℕ → List ℕ → Type 0 where
  -- the first one isn't enabled, and this is the lowest place that lacks tokens
  not_enabled : (index p : ℕ) → FailsAt net ts index (NotEnabled p) → FailedFiring net places ts 1 (firing_rejected_line index (places p))
  -- the first one would give a place too many tokens, and this is the lowest such place
  wide_marking : (index p : ℕ) → FailsAt net ts index (WideMarking p) → FailedFiring net places ts 4 (wide_marking_line index (places p))

-- for the bytes: the first line that isn't the id of a transition, or lacks its line feed; or a member that doesn't fire;
-- or the replay
pub data ReplayOutcome (net : Net) (places transitions : ℕ → List ℕ) (bytes : List ℕ) : ℕ → List ℕ → Type 0 where
  bad_line : (number : ℕ) → IsBadFiringLine net transitions bytes number → ReplayOutcome net places transitions bytes 1 (firing_malformed_line number)
  no_firing : (ts : List ℕ) (status : ℕ) (line : List ℕ) → ListsFirings net transitions bytes ts → FailedFiring net places ts status line
      → ReplayOutcome net places transitions bytes status line
  replayed : (ts : List ℕ) (replay : Replay) → ListsFirings net transitions bytes ts → IsReplay net ts replay
      → ReplayOutcome net places transitions bytes 0 (replay_text places ts replay)
