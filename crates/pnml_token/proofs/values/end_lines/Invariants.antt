use Rattle.std.proofs.Common.{◌≡◌, ◌++◌, length}
use Rattle.pnml_grammar.specs.Values.{lines_ended}
use Rattle.std.specs.Prelude.{IsUtf8}
use Rattle.pnml_token.proofs.values.end_lines.Given as goal

-- the value so far and the lines of the rest are the whole value
abbrev pub invariant-more : goal.invariant-more
invariant-more l = (l.value ++ lines_ended l.rest ≡ lines_ended l.text) × IsUtf8 l.rest

abbrev pub decreases-more : goal.decreases-more
decreases-more l = length l.rest
