use Rattle.page_flatten.proofs.ArcLaws.{is_joint}
use Rattle.page_flatten.proofs.arcs.joint_of.Goals as goal

pub returns : goal.returns
returns c =
    rw (c.joint_between.ensures) (is_joint c.args.numbers.now c.args.links.now c.requires c.args.arc.now c.resolved-source.result c.resolved-target.result
    c.resolved-source.ensures.end c.resolved-source.ensures.none c.resolved-target.ensures.end c.resolved-target.ensures.none)
