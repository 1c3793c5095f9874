use Rattle.page_flatten.proofs.rules.check_item.Goals as goal

pub returns-in-Mentions-clause-ok : goal.returns-in-Mentions-clause-ok
returns-in-Mentions-clause-ok c = rw (c.in-Mentions.is) c.check_mentions.ensures.ok

pub returns-in-Mentions-clause-fault : goal.returns-in-Mentions-clause-fault
returns-in-Mentions-clause-fault c = rw (c.in-Mentions.is) c.check_mentions.ensures.fault

pub returns-in-Kinds-clause-ok : goal.returns-in-Kinds-clause-ok
returns-in-Kinds-clause-ok c = rw (c.in-Kinds.is) c.check_reference.ensures.ok

pub returns-in-Kinds-clause-fault : goal.returns-in-Kinds-clause-fault
returns-in-Kinds-clause-fault c = rw (c.in-Kinds.is) c.check_reference.ensures.fault
