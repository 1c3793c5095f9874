use Rattle.std.proofs.Common.{◌∙◌, ap, lit<}
use Rattle.std.specs.Str.Iter.{split_text, split_has_more, split_pattern}
use Rattle.std.proofs.lemmas.Iterator.Splits.{YieldsList-from_str_split}
use Rattle.std.proofs.lemmas.Iterator.Consumers.{YieldsList-end}
use Rattle.pnmlstruct_c.proofs.spelled_words.cut.Goals as goal

pub returns : goal.returns
returns c =
    let i = c.into_iter-piece-iterator.ensures.into_iter_gives in
    let cut = c.split-piece-items.ensures in
    let all = YieldsList-from_str_split 32 c.args.text.now (lit< tt) (ap split_text i ∙ cut.text) (ap split_has_more i ∙ cut.has_more) (ap split_pattern i ∙ cut.pattern) in
    let t = YieldsList-end all c.loop-piece.yielded _ c.loop-piece.yielded_by _ _ c.in-None.is c.next.ensures.steps in
    c.loop-piece.invariant ∙ t.0
