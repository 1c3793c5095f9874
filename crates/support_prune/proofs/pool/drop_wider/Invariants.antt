use Rattle.std.proofs.Common.{◌≡◌, ℕ, List, not, take}
use Rattle.support_prune.specs.Supports.{is_within}
use Rattle.support_prune.specs.Masks.{masks_of}
use Rattle.support_prune.specs.Pools.{row_at}
use Rattle.support_prune.proofs.Sieves.{Sieved}
use Rattle.support_prune.proofs.pool.drop_wider.Given as goal

abbrev pub invariant-loop-seen : goal.invariant-loop-seen
invariant-loop-seen l = record {
  sieved : Sieved (λ (other : List ℕ). not (is_within (row_at l.initial.rows l.before) other)) (take l.before l.initial.rows) (row_at l.initial.rows l.before) l._seen l.rows l.next;
  masks : l.masks.items ≡ masks_of l.rows;
}
