use Rattle.std.proofs.Common.{◌≡◌, ◌+◌, sym, subst, rules, length}
use Rattle.net_values.specs.FlatNets.{net_of}
use Rattle.bounds.proofs.AllPlaces.{AreBounded, bounded_more, written_back, least_bounds, bounds_hold}
use Rattle.bounds.proofs.least_bounds.bounds.Goals as goal

pub loop-number-preserved : goal.loop-number-preserved
loop-number-preserved c =
    let old = c.loop-number.bounds.items in
    let new = c.tighten_all.new.kept in
    let size : length new ≡ length old = search rules in
    let back = written_back c.loop-number.bounds.len new old (search rules) size in
    subst (AreBounded (net_of c.args.net.now) c.args.rows.now (c.loop-number.number + 1)) (sym back)
    (bounded_more (net_of c.args.net.now) c.args.rows.now c.loop-number.number old new c.loop-number.invariant
    c.row-item.result (search rules) (search rules)
    c.in-Ok-initial_tokens.tokens c.in-Ok-initial_tokens.ensures size (search rules))

pub returns-clause-least : goal.returns-clause-least
returns-clause-least c = least_bounds (net_of c.args.net.now) c.args.rows.now c.requires.list c.requires.generates c.loop-number.bounds.items (search rules)

pub returns-clause-holds : goal.returns-clause-holds
returns-clause-holds c = bounds_hold (net_of c.args.net.now) c.args.rows.now c.requires.list c.requires.generates c.loop-number.bounds.items (search rules)
