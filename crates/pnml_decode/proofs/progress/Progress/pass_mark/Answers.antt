use Rattle.std.proofs.Common.{subst}
use Rattle.pnml_decode.specs.declared.progress.Stage.{Stage}
use Rattle.pnml_decode.specs.Standing.{FollowsBy}
use Rattle.pnml_decode.specs.Views.{view}
use Rattle.pnml_decode.proofs.Arrivals.{mark_follows}
use Rattle.pnml_decode.proofs.progress.Progress.pass_mark.Goals as goal

pub returns-clause-follows : goal.returns-clause-follows
returns-clause-follows c = λ bytes follows.
    let self = c.args.self.now in
    let text = c.args.text.now in
    mark_follows (view self.reader) self.tokens self.skipped self.front.items bytes text c.mark_length-count.result c.requires.characters c.requires.some
    c.mark_length-count.ensures.length c.mark_length-count.ensures.inside
    (subst (λ (s : Stage). FollowsBy s (view self.reader) self.tokens self.skipped self.front.items bytes text) c.in-AtMark.is follows)
