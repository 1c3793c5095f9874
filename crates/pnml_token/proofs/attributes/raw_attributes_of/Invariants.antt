use Rattle.std.proofs.Common.{length}
use Rattle.pnml_token.specs.Views.{views}
use Rattle.pnml_token.proofs.RawAttributes.{Loops}
use Rattle.pnml_token.proofs.attributes.raw_attributes_of.Given as goal

abbrev pub invariant-more : goal.invariant-more
invariant-more l = Loops (views l.raw_attributes.items) l.rest l.bytes

abbrev pub decreases-more : goal.decreases-more
decreases-more l = length l.rest
