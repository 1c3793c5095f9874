-- What all words spell is what those from here on spell after the places so far.
use Rattle.std.proofs.Common.{◌≡◌, [], length}
use Rattle.certificates.specs.Lines.{place_in}
use Rattle.certificates.specs.Words.{listed, words_in}
use Rattle.certificates.proofs.lines.places.Given as goal

abbrev pub invariant-words : goal.invariant-words
invariant-words l = listed place_in (λ place. place) 0 [] (words_in l.fn.words) ≡ listed place_in (λ place. place) l.least l.places (words_in l.rest)

abbrev pub decreases-words : goal.decreases-words
decreases-words l = length l.rest
