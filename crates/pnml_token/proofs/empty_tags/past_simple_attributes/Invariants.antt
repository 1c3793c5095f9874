use Rattle.std.proofs.Common.{◌≡◌, length}
use Rattle.pnml_token.proofs.EmptyTags.{Gathers}
use Rattle.pnml_token.proofs.empty_tags.past_simple_attributes.Given as goal

abbrev pub invariant-more : goal.invariant-more
invariant-more l = (length l.raw_attributes ≡ 8) × Gathers l.raw_attributes l.count l.rest l.bytes

abbrev pub decreases-more : goal.decreases-more
decreases-more l = length l.rest
