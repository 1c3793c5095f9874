-- How far the bytes were read; each line has at least a byte.
use Rattle.std.proofs.Common.{◌+◌, ◌≤◌, length}
use Rattle.net_values.specs.FlatNets.{net_of}
use Rattle.net_values.specs.Nodes.{transition_id}
use Rattle.net_replay.proofs.Reading.{ReadTo}
use Rattle.net_replay.proofs.firings.read_firings.Given as goal

abbrev pub invariant-lines : goal.invariant-lines
invariant-lines l = ReadTo (net_of l.net) (transition_id l.net) l.rest l.left l.firings × (length l.firings + length l.left ≤ length l.rest)

abbrev pub decreases-lines : goal.decreases-lines
decreases-lines l = length l.left
