use Rattle.support_prune.proofs.MaskLemmas.{refused_by_masks}
use Rattle.support_prune.proofs.mask.is_within_masked.Goals as goal

pub returns-else-mask-other_mask : goal.returns-else-mask-other_mask
returns-else-mask-other_mask c =
    refused_by_masks c.args.row.now c.args.other.now c.args.mask c.args.other_mask c.requires.mask c.requires.other_mask c.requires.alike c.if-mask-other_mask.false
