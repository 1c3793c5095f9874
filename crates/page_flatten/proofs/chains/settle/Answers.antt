use Rattle.std.proofs.Common.{◌≡◌, Some, slice_get, arith}
use Rattle.page_flatten.specs.declared.links.Link.TheVariants.{Apart, Leads}
use Rattle.page_flatten.proofs.Lists.{read_or}
use Rattle.page_flatten.proofs.ChainLaws.{open_fewer, same_ends_set, same_ends_then, goes_on}
use Rattle.page_flatten.proofs.chains.settle.Goals as goal

pub loop-next-smaller : goal.loop-next-smaller
loop-next-smaller c =
    let leads : slice_get c.loop-next.links c.loop-next.at ≡ Some (Leads c.in-Leads.next) = read_or c.loop-next.links c.loop-next.at (Leads c.in-Leads.next) Apart c.in-Leads.ensures (λ e. cc) in
    let fewer = open_fewer c.loop-next.links c.loop-next.at c.in-Leads.next c.args.end leads in
    omega arith

pub loop-next-preserved : goal.loop-next-preserved
loop-next-preserved c =
    let leads : slice_get c.loop-next.links c.loop-next.at ≡ Some (Leads c.in-Leads.next) = read_or c.loop-next.links c.loop-next.at (Leads c.in-Leads.next) Apart c.in-Leads.ensures (λ e. cc) in
    let ends = c.loop-next.invariant.ends in
    let set = same_ends_set c.loop-next.links c.loop-next.at c.in-Leads.next c.args.end leads ends in
    let beyond = goes_on ends.steps c.loop-next.links c.loop-next.at c.in-Leads.next c.args.end leads ends.chain in
    record {
      same = same_ends_then _ _ _ c.loop-next.invariant.same set;
      ends = set.kept _ _ (record { steps = beyond.0; chain = beyond.2 });
    }
