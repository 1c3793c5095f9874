-- The words are those of what follows the space.
use Rattle.certificates.proofs.Cuts.{next_words}
use Rattle.certificates.proofs.words.next_word.Goals as goal

pub returns-in-len1-up-clause-words : goal.returns-in-len1-up-clause-words
returns-in-len1-up-clause-words c =
    next_words c.args.bytes.now c.split.result.0.now c.split.result.1.now c.in-len1-up.len_at_least c.split.ensures.first c.split.ensures.rest
