-- What all words spell is what those from here on spell after the terms so far.
use Rattle.std.proofs.Common.{◌≡◌, [], length}
use Rattle.certificates.specs.Lines.{term_in}
use Rattle.certificates.specs.Words.{listed, words_in}
use Rattle.certificates.proofs.lines.terms.Given as goal

abbrev pub invariant-words : goal.invariant-words
invariant-words l = listed term_in (λ term. term.0) 0 [] (words_in l.fn.words) ≡ listed term_in (λ term. term.0) l.least l.flow (words_in l.rest)

abbrev pub decreases-words : goal.decreases-words
decreases-words l = length l.rest
