-- The three pieces, one after the other.
use Rattle.std.proofs.Common.{◌++◌, append_assoc}
use Rattle.std.specs.Prelude.{decimal}
use Rattle.pnml_write.proofs.Pieces.{joined, finished}
use Rattle.pnml_write.proofs.elements.push_number_label.Goals as goal

pub returns : goal.returns
returns c =
    let opening = c.args.opening.now in
    let number = decimal c.args.number in
    finished c.push-2.result c.args.text.now c.push_number.new.self c.push-2.new.self (opening ++ number) c.args.closing.now (opening ++ (number ++ c.args.closing.now))
    (joined c.args.text.now c.push.new.self c.push_number.new.self opening number c.in_ok-push.ensures.ok c.in_ok-push_number.ensures.ok)
    (append_assoc opening number c.args.closing.now) c.push-2.ensures.ok
