use Rattle.std.proofs.Common.{◌≡◌, sym, ◌∙◌, subst, ℕ, length, []}
use Rattle.std.proofs.lemmas.List.{get_or_default}
use Rattle.semiflow_elim.specs.Carried.{AreListed, list_of}
use Rattle.semiflow_elim.proofs.Counting.{counts_few}
use Rattle.semiflow_elim.proofs.counts.count_rows.Goals as goal

pub count_row-requires-clause-listed : goal.count_row-requires-clause-listed
count_row-requires-clause-listed c =
    let size : length c.loop-i.counts ≡ length c.args.counts.now = c.loop-i.invariant.size in
    let item : c.as_slice.result.now ≡ list_of c.args.carried.now c.loop-i.i = c.as_slice.ensures ∙ c.index-carried-i.is ∙ get_or_default c.args.carried.now c.loop-i.i c.index-carried-i.result [] c.loop-i-test.true in
    subst (λ (n : ℕ). AreListed n c.as_slice.result.now) (sym size) (subst (AreListed (length c.args.counts.now)) (sym item) (c.requires.listed c.loop-i.i [] c.loop-i-test.true))

pub count_row-requires-clause-few : goal.count_row-requires-clause-few
count_row-requires-clause-few c =
    counts_few c.args.carried.now c.loop-i.i (length c.args.counts.now) c.loop-i.counts c.loop-i.invariant c.requires.few
