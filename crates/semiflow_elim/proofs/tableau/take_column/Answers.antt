use Rattle.std.proofs.Common.{◌≡◌, ◌++◌, ◌<◌, ◌≤◌, ◌∙◌, sym, ap, ℕ, Bool, List, true, All, length, length-append, set, subst, rules, arith}
use Rattle.incidence.specs.Matrix.{Matrix}
use Rattle.incidence.specs.Tables.{matrix_of}
use Rattle.semiflow_elim.specs.Bases.{in_set}
use Rattle.semiflow_elim.specs.Carried.{AreListed, CarryTheirs}
use Rattle.semiflow_elim.specs.Counts.{AreCounted}
use Rattle.semiflow_elim.specs.Kept.{AreKept}
use Rattle.semiflow_elim.specs.declared.carried.ColumnSums.{ColumnSums}
use Rattle.semiflow_elim.specs.declared.signs.RowSums.{RowSums}
use Rattle.semiflow_elim.proofs.Carrying.{all_listed, kept_carried}
use Rattle.semiflow_elim.proofs.Keeps.{kept_basis, kept_few}
use Rattle.semiflow_elim.proofs.TakenSets.{set_extends}
use Rattle.semiflow_elim.proofs.Uncounting.{counted_front}
use Rattle.semiflow_elim.proofs.tableau.take_column.Goals as goal

-- what stays, of the rows with what was added
kept_of : (sums read : List RowSums) (rows : List (List ℕ)) (carried : List (List ColumnSums)) (appended : List (List ℕ)) (appended_carried : List (List ColumnSums)) (new : List (List ℕ)) (new_carried : List (List ColumnSums)) → read ≡ sums → appended ≡ rows → appended_carried ≡ carried → AreKept read appended appended_carried new new_carried → AreKept sums rows carried new new_carried
kept_of sums read rows carried appended appended_carried new new_carried read_is rows_are carried_are h =
    subst (λ (l : List (List ColumnSums)). AreKept sums rows l new new_carried) carried_are
    (subst (λ (l : List (List ℕ)). AreKept sums l appended_carried new new_carried) rows_are
    (subst (λ (s : List RowSums). AreKept s appended appended_carried new new_carried) read_is h))

a_size : (appended rows joined : List (List ℕ)) → appended ≡ rows ++ joined → length rows ≤ length appended
a_size appended rows joined is = let size = ap length is ∙ length-append rows joined in omega arith

pub returns-clause-basis : goal.returns-clause-basis
returns-clause-basis c =
    let m = matrix_of c.args.matrix.now in
    let a = c.in_ok-added.added in
    let rows = c.args.rows.now in
    let new = c.keep_zeros.new.rows in
    let K = in_set c.args.taken.now in
    let within = c.in_ok-added.ensures.passes.chosen.within in
    let under : a.column < length c.args.taken.now = let size = c.requires.columns in omega arith in
    let vectors : c.append.new.self.vectors.items ≡ rows.vectors.items ++ a.joined.vectors.items = search rules in
    let sums : c.append.new.self.sums.items ≡ rows.sums.items ++ a.joined.sums.items = search rules in
    let kept = kept_of a.sums.items c.as_slice-2.result.now (rows.vectors.items ++ a.joined.vectors.items) (rows.sums.items ++ a.joined.sums.items) c.append.new.self.vectors.items c.append.new.self.sums.items new.vectors.items new.sums.items c.as_slice-2.ensures.value vectors sums c.keep_zeros.ensures.kept in
    kept_basis m a.column rows.vectors.items a.joined.vectors.items new.vectors.items a.sums.items K (in_set (set c.args.taken.now a.column true)) (set_extends c.args.taken.now a.column under) c.requires.basis within c.in_ok-added.ensures.added (rows.sums.items ++ a.joined.sums.items) new.sums.items kept

pub returns-clause-few : goal.returns-clause-few
returns-clause-few c =
    let m = matrix_of c.args.matrix.now in
    let a = c.in_ok-added.added in
    let rows = c.args.rows.now in
    let new = c.keep_zeros.new.rows in
    let K = in_set c.args.taken.now in
    let within = c.in_ok-added.ensures.passes.chosen.within in
    let under : a.column < length c.args.taken.now = let size = c.requires.columns in omega arith in
    let vectors : c.append.new.self.vectors.items ≡ rows.vectors.items ++ a.joined.vectors.items = search rules in
    let sums : c.append.new.self.sums.items ≡ rows.sums.items ++ a.joined.sums.items = search rules in
    let kept = kept_of a.sums.items c.as_slice-2.result.now (rows.vectors.items ++ a.joined.vectors.items) (rows.sums.items ++ a.joined.sums.items) c.append.new.self.vectors.items c.append.new.self.sums.items new.vectors.items new.sums.items c.as_slice-2.ensures.value vectors sums c.keep_zeros.ensures.kept in
    let few = kept_few m a.column rows.vectors.items a.joined.vectors.items new.vectors.items a.sums.items K (in_set (set c.args.taken.now a.column true)) (set_extends c.args.taken.now a.column under) c.requires.basis within c.in_ok-added.ensures.added (rows.sums.items ++ a.joined.sums.items) new.sums.items kept c.args.budget c.in_ok-added.ensures.budget in
    let range = c.ranges.budget in
    omega arith

pub returns-clause-carried : goal.returns-clause-carried
returns-clause-carried c =
    let m = matrix_of c.args.matrix.now in
    let a = c.in_ok-added.added in
    let rows = c.args.rows.now in
    let new = c.keep_zeros.new.rows in
    let K = in_set c.args.taken.now in
    let within = c.in_ok-added.ensures.passes.chosen.within in
    let under : a.column < length c.args.taken.now = let size = c.requires.columns in omega arith in
    let vectors : c.append.new.self.vectors.items ≡ rows.vectors.items ++ a.joined.vectors.items = search rules in
    let sums : c.append.new.self.sums.items ≡ rows.sums.items ++ a.joined.sums.items = search rules in
    let kept = kept_of a.sums.items c.as_slice-2.result.now (rows.vectors.items ++ a.joined.vectors.items) (rows.sums.items ++ a.joined.sums.items) c.append.new.self.vectors.items c.append.new.self.sums.items new.vectors.items new.sums.items c.as_slice-2.ensures.value vectors sums c.keep_zeros.ensures.kept in
    kept_carried m K (in_set (set c.args.taken.now a.column true)) (set_extends c.args.taken.now a.column under).old rows.vectors.items a.joined.vectors.items rows.sums.items a.joined.sums.items c.requires.carried c.in_ok-added.ensures.carried a.sums.items new.vectors.items new.sums.items kept

pub keep_zeros-requires-clause-few : goal.keep_zeros-requires-clause-few
keep_zeros-requires-clause-few c =
    let a = c.in_ok-added.added in
    let rows = c.args.rows.now in
    let vectors : c.append.new.self.vectors.items ≡ rows.vectors.items ++ a.joined.vectors.items = search rules in
    let size = a_size c.append.new.self.vectors.items rows.vectors.items a.joined.vectors.items vectors in
    let read = ap length c.as_slice-2.ensures.value in
    let all = c.in_ok-added.ensures.added.sums_are.size in
    omega arith

-- each list of sums, of the rows with what was added
listed_all : (m : Matrix) (taken : List Bool) (c : ℕ) (rows joined : List (List ℕ)) (carried joined_carried appended : List (List ColumnSums)) → c < length taken → appended ≡ carried ++ joined_carried → CarryTheirs m (in_set taken) rows carried → CarryTheirs m (in_set (set taken c true)) joined joined_carried → All (AreListed m.columns) appended
listed_all m taken c rows joined carried joined_carried appended under is h j =
    subst (All (AreListed m.columns)) (sym is) (all_listed m (in_set taken) (in_set (set taken c true)) (set_extends taken c under).old rows joined carried joined_carried h j)

pub count_rows-requires-clause-listed : goal.count_rows-requires-clause-listed
count_rows-requires-clause-listed c =
    let m = matrix_of c.args.matrix.now in
    let a = c.in_ok-added.added in
    let rows = c.args.rows.now in
    let within = c.in_ok-added.ensures.passes.chosen.within in
    let under : a.column < length c.args.taken.now = let size = c.requires.columns in omega arith in
    let sums : c.append.new.self.sums.items ≡ rows.sums.items ++ a.joined.sums.items = search rules in
    let all = listed_all m c.args.taken.now a.column rows.vectors.items a.joined.vectors.items rows.sums.items a.joined.sums.items c.as_slice.result.now under (c.as_slice.ensures.value ∙ sums) c.requires.carried c.in_ok-added.ensures.carried in
    subst (λ (n : ℕ). All (AreListed n) c.as_slice.result.now) (sym c.requires.counted.size) all

pub count_rows-requires-clause-counted : goal.count_rows-requires-clause-counted
count_rows-requires-clause-counted c =
    let m = matrix_of c.args.matrix.now in
    let a = c.in_ok-added.added in
    let carried = c.args.rows.now.sums.items in
    let sums : c.append.new.self.sums.items ≡ carried ++ a.joined.sums.items = search rules in
    let first : c.len-before.result ≡ length carried = search rules in
    let front = counted_front carried a.joined.sums.items m.columns c.args.counts.now c.requires.counted in
    subst (λ (n : ℕ). AreCounted c.as_slice.result.now c.len-before.result n c.args.counts.now) (sym c.requires.counted.size)
    (subst (λ (n : ℕ). AreCounted c.as_slice.result.now n m.columns c.args.counts.now) (sym first)
    (subst (λ (l : List (List ColumnSums)). AreCounted l (length carried) m.columns c.args.counts.now) (sym (c.as_slice.ensures.value ∙ sums)) front))

pub keep_zeros-requires-clause-carried : goal.keep_zeros-requires-clause-carried
keep_zeros-requires-clause-carried c =
    let a = c.in_ok-added.added in
    let rows = c.args.rows.now in
    let vectors : c.append.new.self.vectors.items ≡ rows.vectors.items ++ a.joined.vectors.items = search rules in
    let sums : c.append.new.self.sums.items ≡ rows.sums.items ++ a.joined.sums.items = search rules in
    let old = c.requires.carried.size in
    let new = c.in_ok-added.ensures.carried.size in
    let all = ap length vectors ∙ length-append rows.vectors.items a.joined.vectors.items in
    let all_sums = ap length sums ∙ length-append rows.sums.items a.joined.sums.items in
    omega arith

pub keep_zeros-requires-clause-listed : goal.keep_zeros-requires-clause-listed
keep_zeros-requires-clause-listed c =
    let m = matrix_of c.args.matrix.now in
    let a = c.in_ok-added.added in
    let rows = c.args.rows.now in
    let within = c.in_ok-added.ensures.passes.chosen.within in
    let under : a.column < length c.args.taken.now = let size = c.requires.columns in omega arith in
    let sums : c.append.new.self.sums.items ≡ rows.sums.items ++ a.joined.sums.items = search rules in
    let size : length c.count_rows.new.counts ≡ m.columns = c.count_rows.ensures.size ∙ c.requires.counted.size in
    subst (λ (n : ℕ). All (AreListed n) c.append.new.self.sums.items) (sym size)
    (listed_all m c.args.taken.now a.column rows.vectors.items a.joined.vectors.items rows.sums.items a.joined.sums.items c.append.new.self.sums.items under sums c.requires.carried c.in_ok-added.ensures.carried)
