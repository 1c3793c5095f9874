use Rattle.std.proofs.Common.{subst, []}
use Rattle.pnml_decode.specs.declared.progress.Stage.{Stage}
use Rattle.pnml_decode.specs.Standing.{FollowsBy}
use Rattle.pnml_decode.specs.Views.{view}
use Rattle.pnml_decode.proofs.Arrivals.{fault_is_first, nothing_is_fed}
use Rattle.pnml_decode.proofs.progress.Progress.finish.Goals as goal

pub returns-in-AtMark-clause-fault : goal.returns-in-AtMark-clause-fault
returns-in-AtMark-clause-fault c = λ bytes text count follows.
    let self = c.args.self in
    nothing_is_fed (view self.reader) self.tokens self.skipped self.front.items bytes c.args.length count
    (subst (λ (s : Stage). FollowsBy s (view self.reader) self.tokens self.skipped self.front.items bytes []) c.in-AtMark.is follows)

pub returns-in-Broke-clause-fault : goal.returns-in-Broke-clause-fault
returns-in-Broke-clause-fault c = λ bytes text count follows.
    let self = c.args.self in
    fault_is_first self.stage (view self.reader) self.tokens self.skipped self.front.items bytes _ _ c.in-Broke.is text follows
