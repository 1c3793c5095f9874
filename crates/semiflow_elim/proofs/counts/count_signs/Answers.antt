use Rattle.std.proofs.Common.{◌≡◌, sym, ◌∙◌, subst, ℕ, All, length}
use Rattle.semiflow_elim.specs.Carried.{AreListed}
use Rattle.semiflow_elim.proofs.counts.count_signs.Goals as goal

pub count_rows-requires-clause-listed : goal.count_rows-requires-clause-listed
count_rows-requires-clause-listed c =
    let size : length c.as_mut_slice.result.now ≡ c.args.width = c.as_mut_slice.ensures.len ∙ c.in_ok-counts.ensures.len in
    subst (λ (n : ℕ). All (AreListed n) c.args.carried.now) (sym size) c.requires.listed
