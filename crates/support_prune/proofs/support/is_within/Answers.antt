use Rattle.std.proofs.Common.{subst, ◌↔◌, IsTrue, List, Bool}
use Rattle.net_values.specs.PlaceSets.{IsSubset}
use Rattle.net_values.specs.Vectors.{support_of}
use Rattle.support_prune.proofs.SupportLemmas.{subset_test}
use Rattle.support_prune.proofs.support.is_within.Goals as goal

pub returns : goal.returns
returns c =
    let row = c.args.row.now in
    let other = c.args.other.now in
    subset_test row other c.is_subset.result c.requires
    (subst (λ (set : List Bool). (IsTrue c.is_subset.result) ↔ IsSubset (support_of row) set) c.support-2.ensures
    (subst (λ (set : List Bool). (IsTrue c.is_subset.result) ↔ IsSubset set c.support-2.result.now) c.support.ensures c.is_subset.ensures))
