-- The test of a document tells whether it is valued: the walk over the items of all nets, one net after the other, tests
-- the same at each item as the definitions that run over them, and its counts go on from net to net.
use Rattle.std.proofs.Common.{◌≡◌, ◌+◌, Bool, true, false, cond, List, [], ◌∷◌, ◌++◌, Option, Some, None, refl, sym, subst, ◌∙◌, arith, length, inl, inr}
use Rattle.std.specs.Prelude.{◌↔◌, ◌&&◌, nat_le, count_by, IsTrue}
use Rattle.std.specs.List.{AllByRecursion}
use Rattle.std.proofs.lemmas.Bool.{cases_Bool, true≢false, and_parts, and_from, leb-true, le-leb}
use Rattle.net_values.specs.declared.limits.TheConstants.{MAX_NETS}
use Rattle.net_values.specs.declared.document.Document.{Document}
use Rattle.net_values.specs.declared.document.NetTree.{NetTree}
use Rattle.net_values.specs.declared.document.Item.{Item}
use Rattle.net_values.specs.Items.{all_items, is_page, is_place, is_transition, is_arc, is_reference}
use Rattle.pnml_grammar.specs.declared.walk.Walk.{Walk}
use Rattle.pnml_grammar.specs.Valued.{HasValuesInRange, PagesMatch, IsShallow, IsWithinLimits, IsValuedNet, Valued, IsValuedOrNot}
use Rattle.pnml_grammar.specs.ValuedTests.{is_valued_id, is_valued_name_if_any, has_values_in_range, start, after, walks, is_valued}
use Rattle.pnml_grammar.proofs.EachLaws.{each_weaker, count_by_append}
use Rattle.pnml_grammar.proofs.ValuedTestLaws.{node_found, node_is, item_found, item_is}
use Rattle.pnml_grammar.proofs.ValuedWalks.{IsFit, AreWithin, Walks, EndsAt, after_found, after_is}

-- ---- counts over two lists of items

pub record CountsBoth (items more : List Item) : Type 0 where
  pub places : count_by is_place (items ++ more) ≡ count_by is_place items + count_by is_place more
  pub transitions : count_by is_transition (items ++ more) ≡ count_by is_transition items + count_by is_transition more
  pub arcs : count_by is_arc (items ++ more) ≡ count_by is_arc items + count_by is_arc more
  pub references : count_by is_reference (items ++ more) ≡ count_by is_reference items + count_by is_reference more
  pub pages : count_by is_page (items ++ more) ≡ count_by is_page items + count_by is_page more

pub counts_both : (items more : List Item) → CountsBoth items more
counts_both items more = record {
  places = count_by_append is_place items more;
  transitions = count_by_append is_transition items more;
  arcs = count_by_append is_arc items more;
  references = count_by_append is_reference items more;
  pages = count_by_append is_page items more;
}

within_first : (walk : Walk) (items more : List Item) → AreWithin walk (items ++ more) → AreWithin walk items
within_first walk items more within = omega (arith, within, counts_both items more)

within_rest : (walk end : Walk) (items more : List Item) → EndsAt walk items end → AreWithin walk (items ++ more) → AreWithin end more
within_rest walk end items more ends within = omega (arith, ends, within, counts_both items more)

within_both : (walk end : Walk) (items more : List Item) → EndsAt walk items end → AreWithin end more → AreWithin walk (items ++ more)
within_both walk end items more ends within = omega (arith, ends, within, counts_both items more)

-- ---- one net after the other

-- the net is passed, and the walk goes on
record Passes (valued : Bool) (next : Option Walk) (nets : List NetTree) : Type 0 where
  is_valued : valued ≡ true
  end : Walk
  leads : next ≡ Some end
  rest : walks (Some end) nets ≡ true

net_passed : (valued : Bool) (next : Option Walk) (nets : List NetTree) → walks (cond valued next None) nets ≡ true → Passes valued next nets
net_passed true (Some end) nets e = record { is_valued = refl; end = end; leads = refl; rest = e }
net_passed true None nets e = absurd cc
net_passed false next nets e = absurd cc

net_passes : (valued : Bool) (next : Option Walk) (nets : List NetTree) → Passes valued next nets → walks (cond valued next None) nets ≡ true
net_passes valued next nets passes = rw (passes.is_valued, passes.leads) passes.rest

nets_found : (walk : Walk) (nets : List NetTree) → IsFit walk → walk.opened ≡ 0 → walks (Some walk) nets ≡ true → AllByRecursion IsValuedNet nets × AreWithin walk (all_items nets)
nets_found walk [] fit closed e = (tt, omega (arith, fit))
nets_found walk (net ∷ nets) fit closed e =
    let found = net_passed (is_valued_id net.id && is_valued_name_if_any net.name) (after (Some walk) net.items) nets e in
    let node = node_found net.id net.name found.is_valued in
    let end = found.end in
    let walked = after_found walk net.items end fit found.leads in
    let rest = nets_found end nets walked.fit walked.ends.opened found.rest in
    let two : walk.opened + 2 ≡ 2 = omega (arith, closed) in (
      (
        record {
          id = node.0;
          name = node.1;
          items = each_weaker (λ item. has_values_in_range item ≡ true) HasValuesInRange item_found net.items walked.each;
          pages = subst (λ n. PagesMatch n net.items) closed walked.walks.pages;
          shallow = subst (λ n. IsShallow n net.items) two walked.walks.shallow;
        },
        rest.0,
      ),
      within_both walk end net.items (all_items nets) walked.ends rest.1,
    )

nets_are : (walk : Walk) (nets : List NetTree) → IsFit walk → walk.opened ≡ 0 → AllByRecursion IsValuedNet nets → AreWithin walk (all_items nets) → walks (Some walk) nets ≡ true
nets_are walk [] fit closed each within = refl
nets_are walk (net ∷ nets) fit closed each within =
    let valued = each.0 in
    let two : 2 ≡ walk.opened + 2 = omega (arith, closed) in
    let items : Walks walk net.items = record {
      pages = subst (λ n. PagesMatch n net.items) (sym closed) valued.pages;
      shallow = subst (λ n. IsShallow n net.items) two valued.shallow;
      within = within_first walk net.items (all_items nets) within;
    } in
    let arrives = after_is walk net.items fit (each_weaker HasValuesInRange (λ item. has_values_in_range item ≡ true) item_is net.items valued.items) items in
    net_passes (is_valued_id net.id && is_valued_name_if_any net.name) (after (Some walk) net.items) nets
    (record {
      is_valued = node_is net.id net.name valued.id valued.name;
      end = arrives.end;
      leads = arrives.is;
      rest = nets_are arrives.end nets arrives.fit arrives.ends.opened each.1 (within_rest walk arrives.end net.items (all_items nets) arrives.ends within);
    })

-- ---- documents

start_fits : IsFit start
start_fits = omega arith

start_within : (items : List Item) → AreWithin start items → IsWithinLimits items
start_within items within = omega (arith, within)

limits_within : (items : List Item) → IsWithinLimits items → AreWithin start items
limits_within items limits = omega (arith, limits)

valued_found : (document : Document) → is_valued document ≡ true → Valued document
unfolding is_valued
valued_found document e =
    let nets = document.nets in
    let p = and_parts (nat_le 1 (length nets) && nat_le (length nets) MAX_NETS) (walks (Some start) nets) e in
    let q = and_parts (nat_le 1 (length nets)) (nat_le (length nets) MAX_NETS) p.0 in
    let all = nets_found start nets start_fits refl p.1 in
    record {
      some = leb-true 1 (length nets) q.0;
      few = leb-true (length nets) MAX_NETS q.1;
      nets = all.0;
      limits = start_within (all_items nets) all.1;
    }

valued_is : (document : Document) → Valued document → is_valued document ≡ true
unfolding is_valued
valued_is document h =
    let nets = document.nets in
    and_from (nat_le 1 (length nets) && nat_le (length nets) MAX_NETS) (walks (Some start) nets)
    (and_from (nat_le 1 (length nets)) (nat_le (length nets) MAX_NETS) (le-leb 1 (length nets) h.some) (le-leb (length nets) MAX_NETS h.few))
    (nets_are start nets start_fits refl h.nets (limits_within (all_items nets) h.limits))

-- the test tells whether the document is valued
pub valued_decided : (document : Document) (b : Bool) → b ≡ is_valued document → IsTrue b ↔ Valued document
valued_decided document b e = (λ holds. valued_found document (sym e ∙ holds), λ h. e ∙ valued_is document h)

pub valued_or_not : IsValuedOrNot
valued_or_not document =
    elim (cases_Bool (is_valued document)) [
      | inl holds ↦ inl (valued_found document holds)
      | inr fails ↦ inr (λ valued. true≢false (sym (valued_is document valued) ∙ fails))
    ]
