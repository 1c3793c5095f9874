-- After a reference occurs its `;`, so the text may be cut there.
use Rattle.std.proofs.Common.{sym, ap, ◌∙◌, Some, List, ℕ}
use Rattle.std.specs.Prelude.{encode_utf8}
use Rattle.pnml_token.specs.Pieces.{reference_at}
use Rattle.pnml_token.proofs.Cuts.{reference_shorter, cut_after_reference, drop_after_reference}
use Rattle.pnml_token.proofs.values.reference_piece.Goals as goal

pub overflow_sub-text : goal.overflow_sub-text
overflow_sub-text c =
    reference_shorter c.args.text.now (encode_utf8 c.in-Some.character) c.in-Some.rest.now
    (ap reference_at (sym c.as_bytes.ensures.value) ∙ sym c.in-Some.ensures)

pub range_from-requires : goal.range_from-requires
range_from-requires c = λ lt.
    cut_after_reference c.args.text.now (encode_utf8 c.in-Some.character) c.in-Some.rest.now c.utf8.text
    (ap reference_at (sym c.as_bytes.ensures.value) ∙ sym c.in-Some.ensures)

pub returns-in-Some-clause-gives : goal.returns-in-Some-clause-gives
returns-in-Some-clause-gives c =
    let at = ap reference_at (sym c.as_bytes.ensures.value) ∙ sym c.in-Some.ensures in
    at ∙ ap (λ (t : List ℕ). Some (encode_utf8 c.in-Some.character, t))
    (sym (c.range_from.ensures.value ∙ drop_after_reference c.args.text.now (encode_utf8 c.in-Some.character) c.in-Some.rest.now at))
