use Rattle.std.proofs.Common.{◌≡◌, true, is_some, length}
use Rattle.std.specs.Prelude.{IsUtf8}
use Rattle.pnml_grammar.specs.Resolving.{literal, resolved}
use Rattle.pnml_token.proofs.values.is_resolved.Given as goal

-- the text has a value where the rest has one
abbrev pub invariant-more : goal.invariant-more
invariant-more l = (is_some (resolved (literal l.spaces l.rest)) ≡ true → is_some (resolved (literal l.spaces l.text)) ≡ true) × IsUtf8 l.rest

abbrev pub decreases-more : goal.decreases-more
decreases-more l = length l.rest
