use Rattle.std.proofs.Common.{◌∙◌, ℕ, List, slice_index, ap}
use Rattle.net_values.specs.Nodes.{place_id}
use Rattle.net_replay.proofs.TokenLines.{one_more}
use Rattle.net_replay.proofs.replay_texts.push_tokens.Goals as goal

pub loop-p-preserved : goal.loop-p-preserved
loop-p-preserved c =
    one_more (place_id c.args.net.now) c.args.marking.now c.loop-p.p _ _ _ _ _ c.loop-p.invariant (c.as_str.ensures ∙ c.place_id.ensures)
    (ap (λ (counts : List ℕ). slice_index counts c.loop-p.p) c.as_slice-counts.ensures.value) c.in_ok-push_count.ensures
