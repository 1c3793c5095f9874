use Rattle.sub_semiflow.proofs.Listing.{cuts_are_extremal}
use Rattle.sub_semiflow.proofs.laws.cuts_are_extremal.Goals as goal

pub returns : goal.returns
returns c = cuts_are_extremal
