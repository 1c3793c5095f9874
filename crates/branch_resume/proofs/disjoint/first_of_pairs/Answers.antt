use Rattle.std.proofs.Common.{rules, ◌<◌, All, take, length}
use Rattle.siphon_branch.specs.Classes.{AreDisjoint}
use Rattle.branch_resume.specs.Disjoint.{OverlapsOne}
use Rattle.branch_resume.proofs.Apart.{pairs_next, pairs_taken, there_is}
use Rattle.branch_resume.proofs.disjoint.first_of_pairs.Goals as goal

pub returns-then-overlaps : goal.returns-then-overlaps
returns-then-overlaps c =
    let within : c.loop-k.k < length c.args.classes.now = search rules in
    let some : OverlapsOne (take c.loop-k.k c.args.classes.now) c.index-classes-k.result = search rules in
    record {
      within = within;
      class = c.index-classes-k.result;
      there = there_is c.args.classes.now c.loop-k.k c.index-classes-k.result within c.index-classes-k.is;
      before = c.loop-k.invariant;
      overlaps = some;
    }

pub loop-k-preserved : goal.loop-k-preserved
loop-k-preserved c =
    let within : c.loop-k.k < length c.args.classes.now = search rules in
    let all : All (λ one. AreDisjoint one c.index-classes-k.result) (take c.loop-k.k c.args.classes.now) = search rules in
    pairs_next c.args.classes.now c.loop-k.k c.index-classes-k.result within c.index-classes-k.is c.loop-k.invariant all

pub returns : goal.returns
returns c = pairs_taken c.args.classes.now c.loop-k.k (search rules) c.loop-k.invariant
