use Rattle.std.proofs.Common.{◌≡◌, ◌-◌, ◌≤◌, true, map, ltb, length, get_or}
use Rattle.net_values.specs.Nodes.{node_id}
use Rattle.report.specs.Texts.{passing, term}
use Rattle.report.proofs.Pieces.{IsJoined}
use Rattle.report.proofs.semiflow_texts.push_terms.Given as goal

abbrev pub invariant-entries : goal.invariant-entries
invariant-entries l = record {
  same : l.walk.entries ≡ l.entries;
  within : l.walk.from ≤ length l.entries;
  joined : IsJoined true l.fn.text l.text (map (λ k. term (get_or l.entries k 0) (node_id l.kind l.net k)) (passing (λ k. ltb 0 (get_or l.entries k 0)) l.walk.from)) l.is_first;
}

abbrev pub decreases-entries : goal.decreases-entries
decreases-entries l = length l.entries - l.walk.from
