use Rattle.std.proofs.Common.{rules, ◌∙◌}
use Rattle.branch_resume.specs.Disjoint.{HaveCommon}
use Rattle.branch_resume.proofs.Apart.{parted_back}
use Rattle.branch_resume.proofs.disjoint.avoid_later.Goals as goal

pub classes-preserved : goal.classes-preserved
classes-preserved c =
    let shared : HaveCommon c.classes.common c.index-classes-first.result.avoids = search rules in (
      parted_back c.args.classes.now c.index-classes-first.result c.classes.first c.classes.common c.keep_within.new.set (search rules) c.index-classes-first.is c.classes.invariant.0 shared c.keep_within.ensures.within,
      c.keep_within.ensures.size ∙ c.classes.invariant.1,
    )
