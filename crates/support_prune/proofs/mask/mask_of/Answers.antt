use Rattle.std.proofs.Common.{◌∙◌, ap, length, refl, arith}
use Rattle.support_prune.proofs.MaskLemmas.{mask_walked, mask_whole}
use Rattle.support_prune.proofs.mask.mask_of.Goals as goal

pub entries-preserved : goal.entries-preserved
entries-preserved c =
    let from = c.in-Some.ensures.from in
    let under = c.in-Some.ensures.next.within in
    let same = c.entries.invariant.same in
    record {
      same = c.in-Some.ensures.same ∙ same;
      within = omega (arith, ap length same);
      mask = mask_walked c.args.row.now c.entries.walk c.entries.mask same c.entries.invariant.mask c.in-Some.i c.in-Some.field-0-1 c.next.new.self.from _ c.in-Some.ensures.next from refl;
    }

pub returns : goal.returns
returns c = mask_whole c.args.row.now c.entries.walk c.entries.mask c.entries.invariant.same c.entries.invariant.mask c.entries.invariant.within c.in_default.ensures.next
