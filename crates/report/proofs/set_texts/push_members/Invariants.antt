use Rattle.std.proofs.Common.{map}
use Rattle.net_values.specs.PlaceSets.{has}
use Rattle.net_values.specs.Nodes.{place_id}
use Rattle.report.specs.Texts.{passing}
use Rattle.report.proofs.Pieces.{IsJoined}
use Rattle.report.proofs.set_texts.push_members.Given as goal

abbrev pub invariant-loop-p : goal.invariant-loop-p
invariant-loop-p l = IsJoined l.begins l.fn.text l.text (map (place_id l.net) (passing (has l.set) l.p)) l.is_first
