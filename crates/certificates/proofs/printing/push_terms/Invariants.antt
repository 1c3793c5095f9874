use Rattle.std.proofs.Common.{◌≡◌, ◌++◌, take}
use Rattle.std.specs.List.{flat_map}
use Rattle.certificates.specs.Spelling.{term_word}
use Rattle.certificates.proofs.printing.push_terms.Given as goal

abbrev pub invariant-loop-term : goal.invariant-loop-term
invariant-loop-term l = l.text ≡ l.fn.text ++ flat_map term_word (take l.term-index l.terms)
