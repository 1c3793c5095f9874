use Rattle.page_flatten.proofs.Lists.{none_then}
use Rattle.page_flatten.proofs.ChainLaws.{ends_at_number}
use Rattle.page_flatten.proofs.arcs.resolved.Goals as goal

pub returns-clause-none : goal.returns-clause-none
returns-clause-none c =
    let table = c.args.numbers.now in
    let links = c.args.links.now in
    let id = c.args.id.now in
    none_then c.end_of.result _ _
    (λ none end h. none end (ends_at_number table links c.requires c.in_ok-number.number id _ end c.in_ok-number.ensures.found h)) c.end_of.ensures.none
