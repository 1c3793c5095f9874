use Rattle.net_values.specs.TheList.{HaveOneLength}
use Rattle.std.proofs.Common.{◌≡◌, sym, ap, ◌∙◌, subst, ℕ, ◌-◌, ◌<◌, List, [], not, length, get_or, take, remove, arith}
use Rattle.std.proofs.lemmas.List.{length-take-le, get_or_default}
use Rattle.support_prune.specs.Supports.{is_within}
use Rattle.support_prune.specs.Masks.{masks_of}
use Rattle.support_prune.specs.Pools.{row_at}
use Rattle.support_prune.proofs.MaskLemmas.{mask_read, alike_read, masks_removed}
use Rattle.support_prune.proofs.Sieves.{sieved_next, sieved_last, sieved_passed, sieved_taken, sieved_at, sieved_sizes, sieved_within}
use Rattle.support_prune.proofs.pool.drop_wider.Goals as goal
use Rattle.support_prune.proofs.pool.drop_wider.Goals.{then-is_within_masked, else-is_within_masked}

pub is_within_masked-requires-clause-alike : goal.is_within_masked-requires-clause-alike
is_within_masked-requires-clause-alike c =
    let kept = c.as_slice-kept.result.now in
    let within = sieved_within _ _ _ _ _ kept _ c.loop-seen.invariant.sieved c.as_slice-kept.ensures.value in
    alike_read kept (length kept - 1) c.loop-seen.next c.index-kept-last.result c.index-kept-next.result (subst HaveOneLength (sym c.as_slice-kept.ensures.value) c.as_slice-kept.ensures.alike) within.1 within.0 c.index-kept-last.is c.index-kept-next.is

pub is_within_masked-requires-clause-mask : goal.is_within_masked-requires-clause-mask
is_within_masked-requires-clause-mask c =
    let kept = c.as_slice-kept.result.now in
    let within = sieved_within _ _ _ _ _ kept _ c.loop-seen.invariant.sieved c.as_slice-kept.ensures.value in
    mask_read kept c.loop-seen.masks.items (length kept - 1) c.index-kept-last.result c.index.result.now (c.loop-seen.invariant.masks ∙ ap masks_of (sym c.as_slice-kept.ensures.value)) within.1 c.index-kept-last.is c.index.ensures

pub is_within_masked-requires-clause-other_mask : goal.is_within_masked-requires-clause-other_mask
is_within_masked-requires-clause-other_mask c =
    let kept = c.as_slice-kept.result.now in
    let within = sieved_within _ _ _ _ _ kept _ c.loop-seen.invariant.sieved c.as_slice-kept.ensures.value in
    mask_read kept c.loop-seen.masks.items c.loop-seen.next c.index-kept-next.result c.index-in-loop-seen.result.now (c.loop-seen.invariant.masks ∙ ap masks_of (sym c.as_slice-kept.ensures.value)) within.0 c.index-kept-next.is c.index-in-loop-seen.ensures

pub loop-seen-preserved : goal.loop-seen-preserved
loop-seen-preserved c =
    let rows = c.args.rows.now in
    let xs = take c.args.before rows in
    let last = row_at rows c.args.before in
    let passes = λ (other : List ℕ). not (is_within last other) in
    let seen = c.loop-seen._seen in
    let now = c.loop-seen.rows in
    let next = c.loop-seen.next in
    let kept = c.as_slice-kept.result.now in
    let kept_is : kept ≡ now = c.as_slice-kept.ensures.value in
    let size : length xs ≡ c.args.before = length-take-le c.args.before rows (omega arith) in
    let within : seen < length xs = omega arith in
    let sizes = sieved_sizes passes xs last seen now next c.loop-seen.invariant.sieved in
    let kept_size = ap length kept_is in
    let here : c.index-kept-next.result ≡ get_or xs seen [] =
    c.index-kept-next.is ∙ get_or_default kept next c.index-kept-next.result [] (omega (arith, sizes, kept_size, within)) ∙ ap (λ (l : List (List ℕ)). get_or l next []) kept_is
    ∙ sieved_next passes xs last seen now next [] c.loop-seen.invariant.sieved within
    in
    let there : c.index-kept-last.result ≡ last =
    c.index-kept-last.is ∙ get_or_default kept (length kept - 1) c.index-kept-last.result [] (omega (arith, sizes, kept_size, within)) ∙ ap (λ (l : List (List ℕ)). get_or l (length l - 1) []) kept_is
    ∙ sieved_last passes xs last seen now next [] c.loop-seen.invariant.sieved
    in
    let tested : c.is_within_masked.result ≡ is_within last (get_or xs seen []) =
    c.is_within_masked.ensures ∙ ap (λ (row : List ℕ). is_within row c.index-kept-next.result) there ∙ ap (is_within last) here
    in
    record {
      sieved = elim c.if-is_within_masked.branch [
        | then-is_within_masked w ↦
            sieved_at passes xs last _ _ _ _ _ (w.rows-is ∙ w.remove.ensures.rest) w.next-is
            (sieved_taken passes xs last seen now next [] c.loop-seen.invariant.sieved within (ap not (sym tested ∙ w.if-is_within_masked.true)))
        | else-is_within_masked w ↦
            sieved_at passes xs last _ _ _ _ _ w.rows-is w.next-is
            (sieved_passed passes xs last seen now next [] c.loop-seen.invariant.sieved within (ap not (sym tested ∙ w.if-is_within_masked.false)))
      ];
      masks = elim c.if-is_within_masked.branch [
        | then-is_within_masked w ↦
            ap (λ v. v.items) w.masks-is ∙ w.remove-then-is_within_masked.ensures.items ∙ ap (λ (l : List ℕ). remove l next) c.loop-seen.invariant.masks
            ∙ sym (masks_removed now next) ∙ ap masks_of (sym (w.rows-is ∙ w.remove.ensures.rest))
        | else-is_within_masked w ↦ ap (λ v. v.items) w.masks-is ∙ c.loop-seen.invariant.masks ∙ ap masks_of (sym w.rows-is)
      ];
    }
