use Rattle.std.proofs.Common.{◌≡◌, length}
use Rattle.pnml_grammar.specs.Resolving.{literal, resolved, with_front}
use Rattle.std.specs.Prelude.{IsUtf8}
use Rattle.pnml_token.proofs.values.resolve.Given as goal

-- the value so far and that of the rest are the whole value
abbrev pub invariant-more : goal.invariant-more
invariant-more l = (with_front l.value (resolved (literal l.spaces l.rest)) ≡ resolved (literal l.spaces l.text)) × IsUtf8 l.rest

abbrev pub decreases-more : goal.decreases-more
decreases-more l = length l.rest
