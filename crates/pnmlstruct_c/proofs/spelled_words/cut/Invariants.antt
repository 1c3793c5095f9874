use Rattle.std.proofs.Common.{◌≡◌, map}
use Rattle.pnmlstruct_c.proofs.spelled_words.cut.Given as goal

abbrev pub invariant-loop-piece : goal.invariant-loop-piece
invariant-loop-piece l = l.words ≡ map (λ x. x.now) l.yielded
