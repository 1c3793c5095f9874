-- What is written, and the rest of the value, are the whole value.
use Rattle.std.proofs.Common.{◌≡◌, ◌++◌, length}
use denote.Text.{Utf8}
use denote.Shadow.{shadow}
use Rattle.pnml_grammar.specs.Canon.{escaped}
use Rattle.pnml_write.proofs.escapes.push_value.Given as goal

abbrev pub invariant-loop-run : goal.invariant-loop-run
invariant-loop-run l = shadow (Utf8 l.rest) × (l.text ++ escaped l.rest ≡ l.initial.text ++ escaped l.value)

abbrev pub decreases-loop-run : goal.decreases-loop-run
decreases-loop-run l = length l.rest
