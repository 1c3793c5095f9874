use Rattle.std.proofs.Common.{sym}
use Rattle.page_flatten.specs.Elements.{reference_of}
use Rattle.page_flatten.specs.Rules.{NamesItsKind}
use Rattle.page_flatten.proofs.Passes.{first_only}
use Rattle.page_flatten.proofs.rules.check_kind.Goals as goal

pub returns-in_ok-copy-clause-fault : goal.returns-in_ok-copy-clause-fault
returns-in_ok-copy-clause-fault c =
    let reference = reference_of c.args.kind c.args.node.now in
    (reference, first_only (NamesItsKind c.args.numbers.now) reference c.if-names_node.ensures, sym c.in_ok-copy.ensures)
