-- Why a firing list isn't replayed.
use Rattle.std.specs.Prelude.{ℕ, List}
use Rattle.net_values.specs.Net.{Net}
use Rattle.net_values.specs.declared.token_game.FireFault.{FireFault}
use Rattle.net_values.specs.declared.token_game.FireFault.TheVariants as fire
use Rattle.net_replay.specs.declared.replayed.ReplayFault.{ReplayFault}
use Rattle.net_replay.specs.declared.replayed.ReplayFault.TheVariants.{NoMemory, NotEnabled, WideMarking}
use Rattle.net_replay.specs.Replays.{FailsAt}

-- the fault of a member that is refused so
abbrev pub at_member : ℕ → FireFault → ReplayFault
at_member index (fire.NotEnabled p) = NotEnabled index p
at_member index (fire.WideMarking p) = WideMarking index p

-- the members before this one fire, and firing this one is refused so; out of memory says nothing
abbrev pub ExplainsFailure : Net → List ℕ → ReplayFault → Type 0
ExplainsFailure net ts NoMemory = Unit {0}
ExplainsFailure net ts (NotEnabled index p) = FailsAt net ts index (fire.NotEnabled p)
ExplainsFailure net ts (WideMarking index p) = FailsAt net ts index (fire.WideMarking p)
