use Rattle.std.proofs.Common.{◌<◌, length, sym, ◌∙◌, true, false, arith}
use Rattle.std.proofs.lemmas.List.{get_or-set_same}
use Rattle.net_values.specs.FlatNets.{net_of}
use Rattle.closed_sets.proofs.NeededPlaces.{marks_one, room_more}
use Rattle.closed_sets.proofs.needed.mark.Goals as goal

pub push-requires-clause-room : goal.push-requires-clause-room
push-requires-clause-room c =
    let below : c.args.p < length c.args.needed.now = let low = c.if-p-places.false in let count = c.places.ensures.value in let size = c.requires.needed in omega arith in
    let room = room_more c.args.needed.now c.args.fallen.now c.args.p below (sym c.contains.ensures ∙ c.if-contains.false) c.requires.few in
    let few = c.places.ensures.limits.places in
    let size = c.requires.needed in
    omega arith

pub returns-clause-more : goal.returns-clause-more
returns-clause-more c =
    let below : c.args.p < length c.args.needed.now = let low = c.if-p-places.false in let count = c.places.ensures.value in let size = c.requires.needed in omega arith in
    rw (c.insert.ensures, c.push.ensures)
    (marks_one (net_of c.args.net.now) c.args.set.now c.args.needed.now c.args.fallen.now c.args.p below (sym c.contains.ensures ∙ c.if-contains.false) c.requires.place c.requires.marked c.requires.listed)

pub returns-clause-place : goal.returns-clause-place
returns-clause-place c =
    let below : c.args.p < length c.args.needed.now = let low = c.if-p-places.false in let count = c.places.ensures.value in let size = c.requires.needed in omega arith in
    rw (c.insert.ensures) (get_or-set_same c.args.needed.now c.args.p true false below)
