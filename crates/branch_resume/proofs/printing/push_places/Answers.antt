-- The piece and the number of the next place are appended, or none is left.
use Rattle.std.proofs.Common.{rules, ◌≡◌, ◌++◌, decimal}
use Rattle.net_values.specs.PlaceSets.{IsFirstFrom, HasNoneFrom}
use Rattle.branch_resume.proofs.Places.{printed_more, printed_all}
use Rattle.branch_resume.proofs.printing.push_places.Goals as goal

pub places-preserved : goal.places-preserved
places-preserved c =
    let first : IsFirstFrom c.args.set.now c.places.from c.in-Some.p = search rules in
    let grown : c.push_number.new.self ≡ (c.places.text ++ c.args.piece.now) ++ decimal c.in-Some.p = search rules in
    printed_more c.places.text c.push_number.new.self _ c.args.piece.now c.args.set.now c.places.from c.in-Some.p first c.places.invariant grown

pub returns-in_default : goal.returns-in_default
returns-in_default c =
    let none : HasNoneFrom c.args.set.now c.places.from = search rules in
    printed_all c.places.text _ c.args.piece.now c.args.set.now c.places.from none c.places.invariant
