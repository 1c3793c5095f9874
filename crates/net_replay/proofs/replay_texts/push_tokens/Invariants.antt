use Rattle.std.proofs.Common.{◌≡◌, ◌++◌}
use Rattle.net_values.specs.Nodes.{place_id}
use Rattle.net_replay.specs.Texts.{token_lines}
use Rattle.net_replay.proofs.replay_texts.push_tokens.Given as goal

abbrev pub invariant-loop-p : goal.invariant-loop-p
invariant-loop-p l = l.text ≡ l.fn.text ++ token_lines (place_id l.net) l.marking l.p
