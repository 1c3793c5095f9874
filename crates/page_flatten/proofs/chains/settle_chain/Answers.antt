use Rattle.page_flatten.proofs.ChainLaws.{ends_at_number}
use Rattle.page_flatten.proofs.chains.settle_chain.Goals as goal

pub returns-in_default-clause-ends : goal.returns-in_default-clause-ends
returns-in_default-clause-ends c = λ end h. c.in_default.ensures.none h.number h.kind h.occurs

pub returns-in-None-clause-ends : goal.returns-in-None-clause-ends
returns-in-None-clause-ends c = λ end h.
    c.in-None.ensures.none end (ends_at_number c.args.numbers.now c.args.links.now c.requires c.in-Some.number c.args.id.now _ end c.in-Some.ensures.found h)
