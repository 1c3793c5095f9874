use Rattle.std.proofs.Common.{length}
use Rattle.pnml_token.proofs.AscendingTags.{Rises}
use Rattle.pnml_token.proofs.empty_tags.past_ascending_attributes.Given as goal

abbrev pub invariant-more : goal.invariant-more
invariant-more l = Rises l.rest l.bytes l.last

abbrev pub decreases-more : goal.decreases-more
decreases-more l = length l.rest
