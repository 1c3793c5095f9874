-- The text of the parts, one after the other.
use Rattle.certificates.proofs.Texts.{tree_appended}
use Rattle.certificates.proofs.printing.push_commoner.Goals as goal

pub returns : goal.returns
returns c = tree_appended _ _ _ _ c.args.tree.now c.in_ok-push.ensures.ok c.in_ok-push_tree.ensures c.in_ok-push-2.ensures.ok
