use Rattle.page_flatten.proofs.KeyLaws.{added}
use Rattle.page_flatten.proofs.numbers.Numbers.add.Goals as goal

pub returns : goal.returns
returns c = rw (← c.self.view_is) (added c.self.inside.table c.insert.new.self c.as_str.result c.args.id.now c.args.kind c.in_ok-old.old c.is_none.result c.as_str.ensures c.in_ok-old.ensures.old c.in_ok-old.ensures.entries c.is_none.ensures)
