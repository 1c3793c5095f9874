use Rattle.std.proofs.Common.{◌≡◌, ◌∙◌, sym, ap, suc, ◌-◌, ◌<◌, length, arith}
use Rattle.std.proofs.lemmas.List.{get_or_default}
use Rattle.net_values.specs.FlatNets.{net_of}
use Rattle.cert_check.specs.declared.walk.Level.{Level}
use Rattle.cert_check.specs.Walks.{level_at, pending_now}
use Rattle.cert_check.proofs.Moves.{turned, risen, left_at}
use Rattle.cert_check.proofs.walk_moves.advance.Goals as goal

pub returns-then-not-index : goal.returns-then-not-index
returns-then-not-index c =
    let net = net_of c.args.net.now in
    let some : 0 < c.levels.walk.depth = c.levels-test.true in
    let deep : c.levels.walk.depth ≡ suc (c.levels.walk.depth - 1) = omega arith in
    let within : c.levels.walk.depth - 1 < length c.levels.walk.levels.items = let size = c.levels.invariant.way.sizes.levels in let most = c.levels.invariant.way.deep in omega arith in
    let read : level_at c.levels.walk.levels.items (c.levels.walk.depth - 1) ≡ c.index.result.now = get_or_default c.levels.walk.levels.items (c.levels.walk.depth - 1) _ c.index.result.now within ∙ sym c.index.ensures in
    let moved = turned net c.levels.walk c.turn.new.walk c.levels.invariant.way (c.levels.walk.depth - 1) deep (ap (λ (level : Level). level.contained) read ∙ c.if-not-index.true) c.turn.ensures in
    left_at net c.turn.new.walk (pending_now c.args.walk.now) moved.0 (sym c.levels.invariant.same ∙ moved.1)

pub levels-preserved : goal.levels-preserved
levels-preserved c =
    let net = net_of c.args.net.now in
    let some : 0 < c.levels.walk.depth = c.levels-test.true in
    let deep : c.levels.walk.depth ≡ suc (c.levels.walk.depth - 1) = omega arith in
    let within : c.levels.walk.depth - 1 < length c.levels.walk.levels.items = let size = c.levels.invariant.way.sizes.levels in let most = c.levels.invariant.way.deep in omega arith in
    let read : level_at c.levels.walk.levels.items (c.levels.walk.depth - 1) ≡ c.index.result.now = get_or_default c.levels.walk.levels.items (c.levels.walk.depth - 1) _ c.index.result.now within ∙ sym c.index.ensures in
    let moved = risen net c.levels.walk c.rise.new.walk c.levels.invariant.way (c.levels.walk.depth - 1) deep (ap (λ (level : Level). level.contained) read ∙ c.if-not-index.false) c.rise.ensures in
    record { way = moved.0; same = moved.1 ∙ c.levels.invariant.same }
