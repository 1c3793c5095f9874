-- Each net is settled by its own table.
use Rattle.std.proofs.Common.{arith}
use Rattle.page_flatten.specs.Rules.{EndsChains, MentionsNodes, KeepsKinds}
use Rattle.page_flatten.specs.Passes.{HasEntries, NamesEndless}
use Rattle.page_flatten.specs.Tables.{AreSettled}
use Rattle.page_flatten.proofs.FaultLaws.{err_goes}
use Rattle.page_flatten.proofs.NetLists.{each_more, each_at, zip_at, zip_more, zip_length, distinct_at}
use Rattle.page_flatten.proofs.NetFaults.{endless_in}
use Rattle.page_flatten.proofs.chains.settle_all.Goals as goal

pub get-requires-in-loop-k : goal.get-requires-in-loop-k
get-requires-in-loop-k c = omega (arith, c.loop-k-test.true, c.len-k-end.ensures, zip_length HasEntries c.args.nets.now c.args.tables.now c.requires.numbered.each)

pub settled_links-requires-clause-numbered : goal.settled_links-requires-clause-numbered
settled_links-requires-clause-numbered c =
    zip_at HasEntries c.args.nets.now c.args.tables.now c.loop-k.k c.get.result.now c.get-in-loop-k.result.now c.get.ensures c.get-in-loop-k.ensures c.requires.numbered.each

pub settled_links-requires-clause-ids : goal.settled_links-requires-clause-ids
settled_links-requires-clause-ids c = distinct_at c.args.nets.now c.loop-k.k c.get.result.now c.get.ensures c.requires.numbered.distinct

pub settled_links-requires-clause-mentions : goal.settled_links-requires-clause-mentions
settled_links-requires-clause-mentions c = each_at MentionsNodes c.args.nets.now c.loop-k.k c.get.result.now c.get.ensures c.requires.mentions

pub settled_links-requires-clause-kinds : goal.settled_links-requires-clause-kinds
settled_links-requires-clause-kinds c = each_at KeepsKinds c.args.nets.now c.loop-k.k c.get.result.now c.get.ensures c.requires.kinds

pub returns-in_err-settled_links-clause-fault : goal.returns-in_err-settled_links-clause-fault
returns-in_err-settled_links-clause-fault c =
    err_goes (NamesEndless c.args.nets.now) c.from_residual.result _ c.from_residual.ensures.1
    (endless_in c.args.nets.now c.loop-k.k c.get.result.now c.get.ensures c.loop-k.invariant.chains _ c.in_err-settled_links.ensures.fault)

pub loop-k-preserved : goal.loop-k-preserved
loop-k-preserved c =
    let nets = c.args.nets.now in
    let k = c.loop-k.k in
    let net = c.get.result.now in
    record {
      settled = zip_more AreSettled nets _ _ k net _ c.get.ensures c.loop-k.invariant.settled c.in_ok-settled_links.ensures.settled c.in_ok-push.ensures.ok;
      chains = each_more EndsChains nets k net c.get.ensures c.loop-k.invariant.chains c.in_ok-settled_links.ensures.chains;
    }
