use Rattle.std.proofs.Common.{refl}
use Rattle.std.proofs.lemmas.Bool.{false≢true}
use Rattle.net_values.specs.FlatNets.{net_of}
use Rattle.siphon_branch.proofs.NextPlaces.{lowest_next, closed_whole, input_next}
use Rattle.siphon_branch.proofs.live_class.LiveClass.next_place.Goals as goal

pub returns-then-is_empty : goal.returns-then-is_empty
returns-then-is_empty c = lowest_next (net_of c.args.net.now) c.args.self.now c.requires c.first_from.result (c.if-is_empty.ensures.0 refl) c.first_from.ensures

pub returns-in_default : goal.returns-in_default
returns-in_default c = closed_whole (net_of c.args.net.now) c.args.self.now c.requires (λ empty. false≢true (c.if-is_empty.ensures.1 empty)) c.in_default.ensures

pub returns : goal.returns
returns c = input_next (net_of c.args.net.now) c.args.self.now c.requires c.in-Some.t c.in-Some.ensures c.first_input.result c.first_input.ensures
