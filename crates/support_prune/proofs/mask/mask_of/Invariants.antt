-- the mask has the bits of the positions that were passed
use Rattle.std.proofs.Common.{◌≡◌, ◌-◌, ◌≤◌, length}
use Rattle.support_prune.specs.Masks.{mask_below}
use Rattle.support_prune.proofs.mask.mask_of.Given as goal

abbrev pub invariant-entries : goal.invariant-entries
invariant-entries l = record {
  same : l.walk.entries ≡ l.row;
  within : l.walk.from ≤ length l.row;
  mask : l.mask ≡ mask_below l.row l.walk.from;
}

abbrev pub decreases-entries : goal.decreases-entries
decreases-entries l = length l.row - l.walk.from
