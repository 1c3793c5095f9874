use Rattle.std.proofs.Common.{rules}
use Rattle.siphon_branch.specs.Classes.{AreDisjoint}
use Rattle.branch_resume.proofs.Apart.{all_next, all_taken}
use Rattle.branch_resume.proofs.disjoint.overlaps.Goals as goal

pub loop-one-preserved : goal.loop-one-preserved
loop-one-preserved c =
    let apart : AreDisjoint c.one-item.result c.args.class.now = search rules in
    all_next (λ one. AreDisjoint one c.args.class.now) c.args.earlier.now c.loop-one.one-index c.one-item.result (search rules) c.one-item.is c.loop-one.invariant apart

pub returns-clause-none : goal.returns-clause-none
returns-clause-none c = λ none. all_taken (λ one. AreDisjoint one c.args.class.now) c.args.earlier.now c.loop-one.one-index (search rules) c.loop-one.invariant
