use Rattle.std.proofs.Common.{◌∙◌, subst, List}
use Rattle.net_values.specs.FlatNets.{net_of}
use Rattle.siphon_branch.specs.declared.live_class.LiveClass.{LiveClass}
use Rattle.siphon_branch.specs.Held.{KeepsUnderway}
use Rattle.siphon_branch.proofs.stack.walk_copy.Goals as goal

pub returns-clause-ok : goal.returns-clause-ok
returns-clause-ok c = record {
  kept = subst (λ (xs : List LiveClass). KeepsUnderway (net_of c.args.net.now) xs c.walk.new.classes c.args.met.now c.walk.new.met c.args.found.now c.walk.new.found)
      (c.in_ok-classes.ensures ∙ c.as_slice.ensures) c.in_ok-walk.ensures.kept;
  alone = c.in_ok-pending.ensures;
  extends = c.in_ok-walk.ensures.met;
  within = c.in_ok-walk.ensures.within;
  ended = c.in_ok-walk.ensures.ended;
}
