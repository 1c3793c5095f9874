-- The text of the parts, one after the other.
use Rattle.certificates.proofs.Texts.{siphon_appended}
use Rattle.certificates.proofs.printing.push_bad_siphon.Goals as goal

pub returns : goal.returns
returns c = siphon_appended _ _ _ _ c.args.places.now c.in_ok-push.ensures.ok c.in_ok-push_siphon.ensures c.in_ok-push-2.ensures.ok
