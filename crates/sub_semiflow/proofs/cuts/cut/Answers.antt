-- The fronts are as long as one another.
use Rattle.std.proofs.Common.{◌≡◌, ◌≤◌, ◌∙◌, ap, subst, sym, List, ℕ, map, take, length}
use Rattle.std.proofs.lemmas.List.{take_all}
use Rattle.net_values.specs.TheList.{AreAlike}
use Rattle.sub_semiflow.proofs.Fronts.{fronts_alike}
use Rattle.sub_semiflow.proofs.cuts.cut.Goals as goal

pub from_members-requires : goal.from_members-requires
from_members-requires c =
    let past : length c.args.rows.now ≤ c.loop-row.row-index = subst (λ (rows : List (List ℕ)). length rows ≤ c.loop-row.row-index) c.as_slice-row-items.ensures.value c.loop-row-test.false in
    let all : c.loop-row.cuts.items ≡ map (take c.args.count) c.args.rows.now = c.loop-row.invariant ∙ ap (λ (rows : List (List ℕ)). map (take c.args.count) rows) (take_all c.loop-row.row-index c.args.rows.now past) in
    subst (AreAlike length) (sym all) (fronts_alike c.args.rows.now c.args.count c.requires)
