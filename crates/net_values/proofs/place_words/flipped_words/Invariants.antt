use Rattle.net_values.specs.PlaceWords.{AreFlipped}
use Rattle.net_values.proofs.place_words.flipped_words.Given as goal

abbrev pub invariant-loop-k : goal.invariant-loop-k
invariant-loop-k l = AreFlipped l.words l.size l.others.items l.k
