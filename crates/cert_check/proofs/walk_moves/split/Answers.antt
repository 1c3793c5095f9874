use Rattle.std.proofs.Common.{◌∙◌, sym, arith}
use Rattle.net_values.specs.FlatNets.{net_of}
use Rattle.cert_check.proofs.Moves.{room_for, entered}
use Rattle.cert_check.proofs.WalkAnswers.{split_holds, split_fails}
use Rattle.cert_check.proofs.walk_moves.split.Goals as goal
use Rattle.cert_check.proofs.walk_moves.split.Goals.{then-place-places-via-then-place-places, then-place-places-via-else-place-places+then-contains}

pub returns-then-place-places-clause-exact : goal.returns-then-place-places-clause-exact
returns-then-place-places-clause-exact c =
    λ holds. elim c.then-place-places.branch [
      | then-place-places-via-then-place-places w ↦ let below = holds.0 in let count = c.places.ensures.value in let past = w.if-place-places.true in omega arith
      | then-place-places-via-else-place-places+then-contains w ↦
          split_fails (net_of c.args.net.now) c.args.walk.now c.requires c.args.p holds.0 (sym w.contains.ensures ∙ w.if-contains.true) holds
    ]

pub enter-requires-clause-room : goal.enter-requires-clause-room
enter-requires-clause-room c =
    room_for (net_of c.args.net.now) c.args.walk.now c.args.p c.requires.way
    (let count = c.places.ensures.value in let low = c.if-place-places.false in omega arith) (sym c.contains.ensures ∙ c.if-contains.false)

pub returns-clause-exact : goal.returns-clause-exact
returns-clause-exact c =
    entered (net_of c.args.net.now) c.args.walk.now c.enter.new.walk c.requires.way c.args.p c.requires.known
    (let count = c.places.ensures.value in let low = c.if-place-places.false in omega arith) (sym c.contains.ensures ∙ c.if-contains.false) c.enter.ensures

pub returns-clause-holds : goal.returns-clause-holds
returns-clause-holds c =
    λ _. split_holds (net_of c.args.net.now) c.args.walk.now c.requires c.args.p
    (let count = c.places.ensures.value in let low = c.if-place-places.false in omega arith) (sym c.contains.ensures ∙ c.if-contains.false)
