use Rattle.semiflow_elim.specs.Choices.{IsBest, NoneWide}
use Rattle.semiflow_elim.specs.Counts.{candidates_at}
use Rattle.semiflow_elim.proofs.choice.best_of.Given as goal

abbrev pub invariant-loop-j : goal.invariant-loop-j
invariant-loop-j l = record {
  best : IsBest l.taken (candidates_at l.counts l.total) l.j l.best;
  narrow : NoneWide l.taken l.counts l.j;
}
