-- The links lead where the references do, and where they were settled their chains end as before.
use Rattle.std.proofs.Common.{◌∙◌, sym, subst, List, rules}
use Rattle.std.proofs.lemmas.List.{take_at}
use Rattle.page_flatten.specs.declared.links.Link.{Link}
use Rattle.page_flatten.specs.Elements.{elements, entries}
use Rattle.page_flatten.specs.Passes.{NamesUnending}
use Rattle.page_flatten.specs.Tables.{HaveSameEnds, AreLinksOf, AreSettled}
use Rattle.page_flatten.proofs.FaultLaws.{err_goes}
use Rattle.page_flatten.proofs.WholeLaws.{distinct_entries, unending, chains_end, settled}
use Rattle.page_flatten.proofs.chains.settled_links.Goals as goal

pub net_links-requires-clause-distinct : goal.net_links-requires-clause-distinct
net_links-requires-clause-distinct c = rw (c.requires.numbered) (distinct_entries c.args.net.now c.requires.ids)

pub net_links-requires-clause-known : goal.net_links-requires-clause-known
net_links-requires-clause-known c = rw (c.requires.numbered) c.requires.mentions

pub settle_references-requires : goal.settle_references-requires
settle_references-requires c = rw (c.requires.numbered) (distinct_entries c.args.net.now c.requires.ids)

pub returns-in_err-settle_references-clause-fault : goal.returns-in_err-settle_references-clause-fault
returns-in_err-settle_references-clause-fault c =
    let net = c.args.net.now in
    let old = c.in_ok-links.links.items in
    let linked : AreLinksOf (entries net) (elements net) old = subst (λ table. AreLinksOf table (elements net) old) c.requires.numbered c.in_ok-links.ensures in
    let same : HaveSameEnds old c.settle_references.new.links = subst (λ (l : List Link). HaveSameEnds l c.settle_references.new.links) c.as_mut_slice.ensures.value c.settle_references.ensures.same in
    err_goes (NamesUnending net) c.from_residual-in_err-settle_references.result _ c.from_residual-in_err-settle_references.ensures.1
    (unending net (distinct_entries net c.requires.ids) old c.settle_references.new.links linked same _
    (rw (c.requires.numbered, c.as_slice.ensures, c.as_mut_slice.ensures.value) at c.in_err-settle_references.ensures.fault))

pub returns-clause-settled : goal.returns-clause-settled
returns-clause-settled c =
    let net = c.args.net.now in
    let old = c.in_ok-links.links.items in
    let new = c.settle_references.new.links in
    let linked : AreLinksOf (entries net) (elements net) old = subst (λ table. AreLinksOf table (elements net) old) c.requires.numbered c.in_ok-links.ensures in
    let same : HaveSameEnds old new = subst (λ (l : List Link). HaveSameEnds l new) c.as_mut_slice.ensures.value c.settle_references.ensures.same in
    subst (AreSettled net) (sym (c.new.ensures ∙ take_at new _ c.in_ok-links.links.len (search rules))) (settled net (distinct_entries net c.requires.ids) old new linked same)

pub returns-clause-chains : goal.returns-clause-chains
returns-clause-chains c =
    let net = c.args.net.now in
    let old = c.in_ok-links.links.items in
    let linked : AreLinksOf (entries net) (elements net) old = subst (λ table. AreLinksOf table (elements net) old) c.requires.numbered c.in_ok-links.ensures in
    let same : HaveSameEnds old c.settle_references.new.links = subst (λ (l : List Link). HaveSameEnds l c.settle_references.new.links) c.as_mut_slice.ensures.value c.settle_references.ensures.same in
    chains_end net (distinct_entries net c.requires.ids) old c.settle_references.new.links linked same
    (rw (c.requires.numbered, c.as_slice.ensures, c.as_mut_slice.ensures.value) at c.in_ok-settle_references.ensures.ok)
