use Rattle.page_flatten.specs.Elements.{Mention}
use Rattle.page_flatten.specs.Rules.{IsKnown}
use Rattle.page_flatten.proofs.Passes.{first_only}
use Rattle.page_flatten.proofs.rules.check_mention.Goals as goal

pub returns-in_ok-copy-in-None-2-clause-fault : goal.returns-in_ok-copy-in-None-2-clause-fault
returns-in_ok-copy-in-None-2-clause-fault c =
    let mention : Mention = record { id = c.args.id.now; by = c.args.by.now } in
    rw (c.in_ok-copy-in-None.ensures, c.in_ok-copy-in-None-2.ensures)
    (first_only (IsKnown c.args.numbers.now) mention (λ known. c.in-None.ensures.none known.1.0 known.0 known.1.1))
