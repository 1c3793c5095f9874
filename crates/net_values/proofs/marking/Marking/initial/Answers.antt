use Rattle.std.proofs.Common.{◌<◌, ◌^◌, ◌∙◌, arith}
use Rattle.std.proofs.lemmas.List.Elements.{All-push}
use Rattle.net_values.proofs.FlatNets.{initial_more}
use Rattle.net_values.proofs.marking.Marking.initial.Goals as goal

pub loop-p-preserved : goal.loop-p-preserved
loop-p-preserved c = (
  initial_more c.args.net.now c.loop-p.p _ _ _ (omega arith) c.loop-p.invariant.0 (c.from.ensures ∙ c.initial.ensures) c.in_ok-push.ensures.items,
  rw c.in_ok-push.ensures.items (All-push (λ count. count < 2 ^ 127) _ _ c.loop-p.invariant.1 (omega arith)),
)
