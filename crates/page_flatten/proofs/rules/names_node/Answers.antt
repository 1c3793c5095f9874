use Rattle.page_flatten.proofs.Numbering.{names_kind}
use Rattle.page_flatten.proofs.rules.names_node.Goals as goal

pub returns-in-Some : goal.returns-in-Some
returns-in-Some c = names_kind c.args.numbers.now c.requires _ c.args.id.now c.in-Some.found c.args.kind _ c.in-Some.ensures.found c.eq.ensures

pub returns-in-None : goal.returns-in-None
returns-in-None c = λ named. c.in-None.ensures.none named.0 c.args.kind named.1
