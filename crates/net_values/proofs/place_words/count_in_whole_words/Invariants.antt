-- the places of the words before the index are counted
use Rattle.std.proofs.Common.{◌≡◌, ◌≤◌, ◌*◌}
use Rattle.net_values.specs.PlaceWords.{count_under, word_has}
use Rattle.net_values.proofs.place_words.count_in_whole_words.Given as goal

abbrev pub invariant-loop-k : goal.invariant-loop-k
invariant-loop-k l = record {
  value : l.count ≡ count_under (word_has l.words) (l.k * 64);
  bound : l.count ≤ l.k * 64;
}
