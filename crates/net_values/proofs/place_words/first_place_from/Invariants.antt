use Rattle.std.proofs.Common.{◌≡◌, ℕ, ◌<◌, ◌≤◌, ◌/◌, false}
use Rattle.net_values.specs.PlaceWords.{word_has}
use Rattle.net_values.proofs.place_words.first_place_from.Given as goal

abbrev pub invariant-loop-k : goal.invariant-loop-k
invariant-loop-k l = (q : ℕ) → l.from ≤ q → q / 64 < l.k → word_has l.words q ≡ false
