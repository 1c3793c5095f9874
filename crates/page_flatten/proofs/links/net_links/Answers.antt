use Rattle.std.proofs.Common.{◌≡◌, sym, ap, ◌∙◌, subst, List, [], ◌∷◌, ◌++◌, length, ◌≤◌}
use Rattle.std.specs.Option.{option_to_list}
use Rattle.std.proofs.lemmas.List.{append-nil}
use Rattle.net_values.specs.declared.document.Item.{Item}
use Rattle.page_flatten.specs.declared.links.Link.{Link}
use Rattle.page_flatten.proofs.Lists.{read_in}
use Rattle.page_flatten.proofs.LinkLaws.{AreLinksUpTo, links_none, links_more, links_all, known_here}
use Rattle.page_flatten.proofs.links.net_links.Goals as goal
use Rattle.page_flatten.proofs.links.net_links.Goals.{in-Some+in_ok-push-2, in_default}

pub loop-item-init : goal.loop-item-init
loop-item-init c =
    let pushed : c.push.new.self.items ≡ _ = c.in_ok-push.ensures.items ∙ ap (λ (l : List Link). l ++ _ ∷ []) c.new-links.ensures.items in
    subst (AreLinksUpTo c.args.numbers.now c.args.net.now 0 0 0) (sym pushed) (links_none c.args.numbers.now c.args.net.now c.requires.known)

pub link_of-requires-clause-known : goal.link_of-requires-clause-known
link_of-requires-clause-known c =
    let k = c.loop-item.item-index in
    let read = read_in c.as_slice-item-items.result.now c.args.net.now.items k c.item-item.result c.as_slice-item-items.ensures c.loop-item-test.true c.item-item.is in
    known_here c.args.numbers.now c.args.net.now k c.item-item.result _ _ _ read.0 read.1 c.loop-item.invariant

pub loop-item-preserved : goal.loop-item-preserved
loop-item-preserved c =
    let k = c.loop-item.item-index in
    let read = read_in c.as_slice-item-items.result.now c.args.net.now.items k c.item-item.result c.as_slice-item-items.ensures c.loop-item-test.true c.item-item.is in
    let old = c.loop-item.links.items in
    let grown : c.match-link_of.links.items ≡ old ++ option_to_list c.link_of.result =
    elim c.match-link_of.branch [
      | in-Some+in_ok-push-2 w ↦ ap (λ v. v.items) w.links-is ∙ w.in_ok-push-2.ensures.items ∙ ap (λ o. old ++ option_to_list o) (sym w.in-Some.is)
      | in_default w ↦ ap (λ v. v.items) w.links-is ∙ sym (append-nil old) ∙ ap (λ o. old ++ option_to_list o) (sym w.in_default.is)
    ] in
    links_more c.args.numbers.now c.args.net.now k c.item-item.result _ _ _ _ _ _ c.link_of.result read.0 read.1 c.loop-item.invariant c.link_of.ensures grown c.next_after-next.ensures.place c.next_after-next.ensures.transition

pub returns : goal.returns
returns c =
    let all = subst (λ (l : List Item). length l ≤ c.loop-item.item-index) c.as_slice-item-items.ensures c.loop-item-test.false in
    links_all c.args.numbers.now c.args.net.now c.loop-item.item-index _ _ _ all c.loop-item.invariant
