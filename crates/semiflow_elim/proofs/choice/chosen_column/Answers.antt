use Rattle.std.proofs.Common.{◌≡◌, ap, ◌∙◌, ℕ, length, arith}
use Rattle.net_values.specs.PlaceSets.{has}
use Rattle.incidence.specs.Tables.{matrix_of}
use Rattle.semiflow_elim.specs.Bases.{in_set}
use Rattle.semiflow_elim.specs.Counts.{candidates_at}
use Rattle.semiflow_elim.proofs.Choosing.{best_chosen, best_counted}
use Rattle.semiflow_elim.proofs.CountedSigns.{signs_few, none_wide_narrow, some_wide, candidates_are}
use Rattle.semiflow_elim.proofs.TakenSets.{outside, outside_is}
use Rattle.semiflow_elim.proofs.choice.chosen_column.Goals as goal

pub best_of-requires-clause-within : goal.best_of-requires-clause-within
best_of-requires-clause-within c = λ j under.
    let m = matrix_of c.args.matrix.now in
    let carried = c.args.rows.now.sums.items in
    let counted = c.requires.counted in
    let size = counted.size in
    let few = signs_few m (in_set c.args.taken.now) c.args.rows.now.vectors.items carried c.args.counts.now c.requires.carried counted j (omega arith) in
    let total = c.len.ensures in
    omega arith

pub returns-in-Ok-clause-narrow : goal.returns-in-Ok-clause-narrow
returns-in-Ok-clause-narrow c = λ j under out.
    let m = matrix_of c.args.matrix.now in
    let carried = c.args.rows.now.sums.items in
    let counted = c.requires.counted in
    let size = counted.size in
    none_wide_narrow m (in_set c.args.taken.now) c.args.rows.now.vectors.items carried c.args.counts.now c.requires.carried counted j under out
    (c.in-Ok.ensures.narrow j (omega arith) (outside_is (has c.args.taken.now j) out))

pub returns-in-Ok-clause-chosen : goal.returns-in-Ok-clause-chosen
returns-in-Ok-clause-chosen c =
    let m = matrix_of c.args.matrix.now in
    let taken = c.args.taken.now in
    let rows = c.args.rows.now.vectors.items in
    let carried = c.args.rows.now.sums.items in
    let counts = c.args.counts.now in
    let counted = c.requires.counted in
    let size = counted.size in
    let len = c.len.ensures in
    let total : c.len.result ≡ length carried = omega arith in
    best_chosen m taken rows (candidates_at counts c.len.result) (length counts) c.in-Ok.choice size
    (λ j under free.
    let out = outside taken j free in
    ap (λ (n : ℕ). candidates_at counts n j) total ∙ candidates_are m (in_set taken) rows carried counts c.requires.carried counted j under out
    (none_wide_narrow m (in_set taken) rows carried counts c.requires.carried counted j under out (c.in-Ok.ensures.narrow j (omega arith) free)))
    c.in-Ok.ensures.best

pub returns-in-Ok-clause-count : goal.returns-in-Ok-clause-count
returns-in-Ok-clause-count c =
    let m = matrix_of c.args.matrix.now in
    let taken = c.args.taken.now in
    let rows = c.args.rows.now.vectors.items in
    let carried = c.args.rows.now.sums.items in
    let counts = c.args.counts.now in
    let counted = c.requires.counted in
    let size = counted.size in
    let len = c.len.ensures in
    let total : c.len.result ≡ length carried = omega arith in
    best_counted m taken rows (candidates_at counts c.len.result) (length counts) c.in-Ok.choice size
    (λ j under free.
    let out = outside taken j free in
    ap (λ (n : ℕ). candidates_at counts n j) total ∙ candidates_are m (in_set taken) rows carried counts c.requires.carried counted j under out
    (none_wide_narrow m (in_set taken) rows carried counts c.requires.carried counted j under out (c.in-Ok.ensures.narrow j (omega arith) free)))
    c.in-Ok.ensures.best

pub returns-in-Err-clause-fails : goal.returns-in-Err-clause-fails
returns-in-Err-clause-fails c = λ budget.
    let m = matrix_of c.args.matrix.now in
    let taken = c.args.taken.now in
    let rows = c.args.rows.now.vectors.items in
    let carried = c.args.rows.now.sums.items in
    let counts = c.args.counts.now in
    let counted = c.requires.counted in
    let size = counted.size in
    let wide = c.in-Err.ensures.wide in
    let within = wide.within in
    record {
      within = omega arith;
      outside = outside taken c.in-Err.column wide.outside;
      wide = some_wide m (in_set taken) rows carried counts c.requires.carried counted c.in-Err.column (omega arith) (outside taken c.in-Err.column wide.outside) wide.wide;
      before = λ i less out. none_wide_narrow m (in_set taken) rows carried counts c.requires.carried counted i (omega arith) out (wide.before i less (outside_is (has taken i) out));
    }
