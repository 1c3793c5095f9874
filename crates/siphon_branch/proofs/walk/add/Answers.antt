use Rattle.siphon_branch.proofs.Underway.{extends_not, extends_one}
use Rattle.siphon_branch.proofs.walk.add.Goals as goal
use Rattle.siphon_branch.proofs.walk.add.Goals.{then-has_no_smaller_siphon+in_ok-copy+in_ok-push, else-has_no_smaller_siphon}

pub returns-clause-extends : goal.returns-clause-extends
returns-clause-extends c =
    elim c.if-has_no_smaller_siphon.branch [
      | then-has_no_smaller_siphon+in_ok-copy+in_ok-push w ↦ rw (w.found-is) (extends_one c.args.found.now w.push.new.self w.in_ok-copy.field-0 w.in_ok-push.ensures.ok)
      | else-has_no_smaller_siphon w ↦ rw (w.found-is) (extends_not c.args.found.now)
    ]
