-- The piece goes on in its part.
use Rattle.std.proofs.Common.{[], sym}
use Rattle.std.proofs.lemmas.List.{append-nil}
use Rattle.struct_core.specs.declared.intake.Part.TheVariants as parts
use Rattle.struct_core.proofs.Intaking.{document_goes_on, on_ok, piece_taken, rest_goes_on, still_stands}
use Rattle.struct_core.proofs.intake.Intake.take.Goals as goal

pub returns-in-Document : goal.returns-in-Document
returns-in-Document c =
    let old = c.args.self.now in
    let piece = c.args.piece.now in
    on_ok c.feed.result
    (λ stands task bytes has. piece_taken task old (record old { decoder = c.feed.new.self }) parts.Document parts.Document bytes piece piece []
    c.in-Document.is c.in-Document.is (document_goes_on task bytes piece) stands (sym (append-nil old.rest.items)) has)
    c.feed.ensures.stands

pub returns-in_ok-extend_from_slice-in-Rest : goal.returns-in_ok-extend_from_slice-in-Rest
returns-in_ok-extend_from_slice-in-Rest c = λ task bytes has.
    let old = c.args.self.now in
    let piece = c.args.piece.now in
    piece_taken task old (record old { rest = c.extend_from_slice.new.self }) parts.Rest parts.Rest bytes piece [] piece c.in-Rest.is c.in-Rest.is
    (rest_goes_on task bytes piece) (still_stands old.decoder) c.in_ok-extend_from_slice-in-Rest.ensures.items has
