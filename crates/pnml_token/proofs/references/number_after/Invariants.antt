use Rattle.std.proofs.Common.{◌≡◌, ◌≤◌, drop}
use Rattle.pnml_grammar.specs.Resolving.{number_after}
use Rattle.pnml_token.proofs.references.number_after.Given as goal

-- the digits that are left give what all give
abbrev pub invariant-loop-digit : goal.invariant-loop-digit
invariant-loop-digit l = (number_after l.base l.number (drop l.digit-index l.digits) ≡ number_after l.base 0 l.digits) × (l.number ≤ 0x10_FFFF)
