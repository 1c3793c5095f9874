-- Each member is counted once more.
use Rattle.std.proofs.Common.{◌≡◌, ◌+◌, ◌<◌, ◌∙◌, ℕ, ◌≤◌, ◌^◌, List, refl, ap, subst, sym, get_or, length, take, slice_index, slice_index_or, slice_set, arith}
use Rattle.net_values.specs.FlatNets.{net_of}
use Rattle.net_replay.specs.Replays.{IsCountVector}
use Rattle.net_replay.proofs.Counting.{count_more, counted_once, small_count}
use Rattle.net_replay.proofs.replaying.count_firings.Goals as goal

pub loop-t-preserved : goal.loop-t-preserved
loop-t-preserved c =
    let net = net_of c.args.net.now in
    let list = c.args.list.now in
    let k = c.loop-t.t-index in
    let counts = c.loop-t.counts in
    let t = slice_index_or c.as_slice-t-items.result.now k 0 in
    let more : k < length list = subst (λ (items : List ℕ). k < length items) c.as_slice-t-items.ensures c.loop-t-test.true in
    let is : t ≡ get_or list k 0 = ap (λ (items : List ℕ). slice_index_or items k 0) c.as_slice-t-items.ensures in
    let below : t < net.transitions = subst (λ n. n < net.transitions) (sym is) (c.requires k 0 more) in
    let short : length list < 2 ^ 64 = subst (λ (items : List ℕ). length items < 2 ^ 64) c.as_slice-t-items.ensures c.as_slice-t-items.type_inv.0 in
    let inside : t < length counts = omega (arith, c.loop-t.invariant.size, below) in
    let few : slice_index counts t ≤ length list = small_count net list k counts c.loop-t.invariant t (slice_index counts t) 0 (omega (arith, more)) below refl in
    let read = c.get-count.ensures.value in
    let put : c.set.new.self ≡ slice_set counts t (slice_index counts t + 1) = c.set.ensures ∙ ap (slice_set counts t) (counted_once (slice_index counts t) c.get-count.result read (omega (arith, few, short))) in
    subst (λ (l : List ℕ). IsCountVector net (take (k + 1) list) l) (sym put) (count_more net list k counts c.loop-t.invariant t (slice_index counts t) 0 more is below refl)
