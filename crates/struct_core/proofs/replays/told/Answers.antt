-- Each fault is told by its member and the id of its place.
use Rattle.std.proofs.Common.{◌∙◌}
use Rattle.net_values.specs.FlatNets.{net_of}
use Rattle.net_values.specs.Nodes.{place_id}
use Rattle.struct_core.proofs.FiringOutcomes.{lacking_within, overflowing_within, lacking_told, overflowing_told}
use Rattle.struct_core.proofs.replays.told.Goals as goal

pub place_id-requires : goal.place_id-requires
place_id-requires c = lacking_within (net_of c.args.net.now) (place_id c.args.net.now) c.args._list.now c.in-NotEnabled.index c.in-NotEnabled.p c.args.fault c.in-NotEnabled.is c.requires

pub place_id-requires-in-WideMarking : goal.place_id-requires-in-WideMarking
place_id-requires-in-WideMarking c = overflowing_within (net_of c.args.net.now) (place_id c.args.net.now) c.args._list.now c.in-WideMarking.index c.in-WideMarking.p c.args.fault c.in-WideMarking.is c.requires

pub returns-in_ok-id-in-NotEnabled : goal.returns-in_ok-id-in-NotEnabled
returns-in_ok-id-in-NotEnabled c =
    lacking_told (net_of c.args.net.now) (place_id c.args.net.now) c.args._list.now c.in-NotEnabled.index c.in-NotEnabled.p _ c.args.fault c.in-NotEnabled.is c.requires (c.in_ok-id-in-NotEnabled.ensures ∙ c.place_id.ensures)

pub returns-in_ok-id-in-WideMarking : goal.returns-in_ok-id-in-WideMarking
returns-in_ok-id-in-WideMarking c =
    overflowing_told (net_of c.args.net.now) (place_id c.args.net.now) c.args._list.now c.in-WideMarking.index c.in-WideMarking.p _ c.args.fault c.in-WideMarking.is c.requires (c.in_ok-id-in-WideMarking.ensures ∙ c.place_id-in-WideMarking.ensures)
