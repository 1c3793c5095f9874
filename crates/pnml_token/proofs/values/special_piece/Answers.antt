-- An ampersand begins a reference, or the text has no value.
use Rattle.std.proofs.Common.{sym, ap, ◌∙◌, List, ℕ, get_or}
use Rattle.pnml_token.proofs.PieceLaws.{reference_found, reference_missed}
use Rattle.pnml_token.proofs.values.special_piece.Goals as goal

pub returns-then-first-eq38-clause-found : goal.returns-then-first-eq38-clause-found
returns-then-first-eq38-clause-found c =
    reference_found c.args.spaces c.args.text.now c.past_first-rest.result.now c.reference_piece.result c.requires.some
    (ap (λ (t : List ℕ). get_or t 0 0) (sym c.as_bytes.ensures.value) ∙ c.if-first-eq38.true) c.past_first-rest.ensures c.reference_piece.ensures.gives

pub returns-then-first-eq38-clause-missed : goal.returns-then-first-eq38-clause-missed
returns-then-first-eq38-clause-missed c =
    reference_missed c.args.spaces c.args.text.now c.past_first-rest.result.now c.reference_piece.result c.requires.some
    (ap (λ (t : List ℕ). get_or t 0 0) (sym c.as_bytes.ensures.value) ∙ c.if-first-eq38.true) c.past_first-rest.ensures c.reference_piece.ensures.gives
