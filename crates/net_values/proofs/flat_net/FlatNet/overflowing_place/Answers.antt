-- The entries before this one fit, and a place where the new count doesn't fit is given tokens, since the
-- old count fits.
use Rattle.std.proofs.Common.{ℕ, List, ap, slice_index, get_or, arith}
use Rattle.net_values.specs.FlatNets.{net_of}
use Rattle.net_values.specs.TokenGame.{Overflows}
use Rattle.net_values.proofs.TokenCounts.{nowhere, narrow_everywhere}
use Rattle.net_values.proofs.Lowest.{lowest_first}
use Rattle.net_values.proofs.flat_net.FlatNet.overflowing_place.Goals as goal

pub returns-then-left-entry-gt-MAX_TOKENS : goal.returns-then-left-entry-gt-MAX_TOKENS
returns-then-left-entry-gt-MAX_TOKENS c =
    let net = net_of c.args.self.now in
    let M = slice_index c.args.marking.now in
    let same = λ (q : ℕ). ap (λ (counts : List ℕ). slice_index counts q) c.as_slice-counts.ensures.value in
    let listed = c.outputs-outputs.ensures.lists in
    lowest_first net (λ (p : ℕ). net.post p c.args.t) _ listed (Overflows net M c.args.t)
    (λ p over. omega (arith, narrow_everywhere c.args.marking.now c.as_slice-counts.ensures.bound p)) c.loop-entry.entry-index nowhere (omega arith)
    (λ i e before over. omega (arith, c.loop-entry.invariant i e before, listed.sound i e (omega arith), same (get_or c.outputs-outputs.result.now i e).place))
    (omega (arith, listed.sound c.loop-entry.entry-index nowhere (omega arith), same (get_or c.outputs-outputs.result.now c.loop-entry.entry-index nowhere).place, c.pre.ensures.value))
