-- `position` gives the first byte that is written as a reference. Such bytes are ASCII, so a value may be
-- cut before and after them.
use Rattle.std.proofs.Common.{◌≡◌, ℕ, get_or, sym, ap, List, ◌∙◌}
use Rattle.std.proofs.lemmas.List.Quantifiers.{position-Some}
use Rattle.std.proofs.lemmas.Str.{IsCharBoundary-before_ascii, IsCharBoundary-after_ascii}
use Rattle.pnml_grammar.specs.Canon.{escape}
use Rattle.pnml_write.specs.Escapes.{is_escaped}
use Rattle.pnml_write.proofs.Runs.{escaped_is_ascii, escaped_whole, escaped_parts, position_none}
use Rattle.pnml_write.proofs.escapes.split_at_escape.Goals as goal

pub returns-in_err-i-clause-none : goal.returns-in_err-i-clause-none
returns-in_err-i-clause-none c =
    rw c.from_residual.ensures
    (escaped_whole c.args.value.now (position_none is_escaped c.args.value.now (sym c.first_escaped.ensures ∙ c.in_err-i.was)))

pub range-requires-clause-end_boundary : goal.range-requires-clause-end_boundary
range-requires-clause-end_boundary c =
    let at = position-Some is_escaped c.args.value.now c.in_ok-i.i 0 (sym c.first_escaped.ensures ∙ c.in_ok-i.was) in
    IsCharBoundary-before_ascii c.args.value.now c.in_ok-i.i at.0 (escaped_is_ascii _ at.1)

pub reference-reference-requires : goal.reference-reference-requires
reference-reference-requires c =
    let at = position-Some is_escaped c.args.value.now c.in_ok-i.i 0 (sym c.first_escaped.ensures ∙ c.in_ok-i.was) in
    rw c.as_bytes.ensures.value at.1

pub range_from-requires : goal.range_from-requires
range_from-requires c =
    let at = position-Some is_escaped c.args.value.now c.in_ok-i.i 0 (sym c.first_escaped.ensures ∙ c.in_ok-i.was) in
    λ _. IsCharBoundary-after_ascii c.args.value.now c.in_ok-i.i c.utf8.value at.0 (escaped_is_ascii _ at.1)

pub returns-clause-some : goal.returns-clause-some
returns-clause-some c =
    let at = position-Some is_escaped c.args.value.now c.in_ok-i.i 0 (sym c.first_escaped.ensures ∙ c.in_ok-i.was) in
    let read : c.reference-reference.result.now ≡ escape (get_or c.args.value.now c.in_ok-i.i 0) =
    c.reference-reference.ensures ∙ ap (λ (t : List ℕ). escape (get_or t c.in_ok-i.i 0)) c.as_bytes.ensures.value in
    escaped_parts c.args.value.now _ _ _ c.in_ok-i.i at.0 at.2 c.range.ensures.value read c.range_from.ensures.value
