use Rattle.page_flatten.proofs.ChainLaws.{IsFollowed}
use Rattle.page_flatten.proofs.chains.end_of.Given as goal

abbrev pub invariant-loop-step : goal.invariant-loop-step
invariant-loop-step l = IsFollowed l.links l.start l._step l.at
