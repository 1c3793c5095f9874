-- The transition before the first one is put in last.
use Rattle.std.proofs.Common.{◌≡◌, ◌∙◌, subst, ◌+◌, ◌-◌, ◌<◌, ◌≤◌, Some, arith}
use Rattle.std.proofs.lemmas.Map.Text.{hash_map_updates_str}
use Rattle.net_values.specs.FlatNets.{net_of}
use Rattle.net_values.specs.Nodes.{transition_id}
use Rattle.net_replay.specs.Numbers.{IsFoundFrom, kept_for}
use Rattle.net_replay.proofs.Numbering.{one_before}
use Rattle.net_replay.proofs.numbers.number_transitions.Goals as goal

pub loop-first-preserved : goal.loop-first-preserved
loop-first-preserved c =
    let count = (net_of c.args.net.now).transitions in
    let ids = transition_id c.args.net.now in
    let first = c.loop-first.first - 1 in
    let some : 0 < c.loop-first.first = c.loop-first-test.true in
    let within : c.loop-first.first ≤ count = c.loop-first.invariant.0 in
    let again : c.loop-first.first ≡ first + 1 = omega (arith, some) in (
      omega (arith, within),
      λ id. one_before count ids first c.as_bytes.result.now id _ _ (omega (arith, some, within)) (c.as_bytes.ensures.value ∙ c.transition_id.ensures)
          (hash_map_updates_str c.as_bytes.result.now c.loop-first.numbers c.insert.new.self (Some first) c.in_ok-insert.ensures.updates id)
          (subst (λ n. IsFoundFrom count ids n id (kept_for id c.loop-first.numbers)) again (c.loop-first.invariant.1 id)),
    )
