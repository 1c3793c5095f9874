use Rattle.std.proofs.Common.{nat_lt, Bool, refl, false, ◌≡◌, sym, ap, ◌∙◌, subst, ℕ, List, [], length, set, rules, Vec, Global, ◌<◌, ◌≤◌, ◌+◌, arith}
use Rattle.std.proofs.lemmas.List.{get_or_default}
use Rattle.semiflow_elim.specs.Candidates.{AreReadUpTo, IsRead, sums_of}
use Rattle.semiflow_elim.specs.Carried.{AreListed, list_of, sums_in}
use Rattle.semiflow_elim.specs.Elimination.{row_of}
use Rattle.semiflow_elim.specs.declared.carried.ColumnSums.{ColumnSums}
use Rattle.semiflow_elim.specs.declared.signs.RowSums.{RowSums}
use Rattle.semiflow_elim.specs.Numbers.{AreNumbers}
use Rattle.semiflow_elim.proofs.Numbering.{numbers_same, numbers_skip}
use Rattle.semiflow_elim.proofs.Pairs.{read_row}
use Rattle.semiflow_elim.proofs.Steps.{read_set, read_skip}
use Rattle.semiflow_elim.proofs.signs.row_signs.Goals.{in-Some+in_ok-push_where+in_ok-push_where-2, in_default}
use Rattle.semiflow_elim.proofs.signs.row_signs.Goals as goal

pub loop-i-preserved : goal.loop-i-preserved
loop-i-preserved c =
    let rows = c.args.rows.now.vectors.items in
    let carried = c.args.rows.now.sums.items in
    let i = c.loop-i.i in
    let size = c.requires.size in
    let item : c.as_slice.result.now ≡ list_of carried i = c.as_slice.ensures ∙ c.index.ensures ∙ get_or_default carried i c.index.result.now [] (omega (arith, c.loop-i-test.true)) in
    let under : i < length rows = let end = c.loop-i-test.true in omega arith in
    let gains : ℕ → Bool = λ a. nat_lt (sums_in (list_of carried a) c.args.column).loss (sums_in (list_of carried a) c.args.column).gain in
    let losses : ℕ → Bool = λ a. nat_lt (sums_in (list_of carried a) c.args.column).gain (sums_in (list_of carried a) c.args.column).loss in
    elim c.match-find_sums.branch [
      | in-Some+in_ok-push_where+in_ok-push_where-2 w ↦
          let row_is : w.index-in-Some.result.now ≡ row_of rows i = read_row rows i w.index-in-Some.result.now under w.index-in-Some.ensures in
          let set_is : c.match-find_sums.sums.items ≡ set c.loop-i.sums.items i w.signed.result = ap (λ (v : Vec RowSums Global). v.items) w.sums-is in
          let own_is : w.in-Some.own ≡ sums_in (list_of carried i) c.args.column = w.in-Some.ensures ∙ ap (λ (l : List ColumnSums). sums_in l c.args.column) item in
          record {
            read = subst (λ (l : List RowSums). AreReadUpTo c.args.column rows carried l (i + 1)) (sym set_is)
                (read_set c.args.column rows carried c.loop-i.sums.items i under c.loop-i.invariant.read w.signed.result
                (subst (λ (own : ColumnSums). IsRead (row_of rows i) own w.signed.result) own_is (subst (λ (r : List ℕ). IsRead r w.in-Some.own w.signed.result) row_is w.signed.ensures)));
            positives = subst (AreNumbers gains (i + 1)) (sym (ap (λ (v : Vec ℕ Global). v.items) w.positive-is))
                (w.in_ok-push_where.ensures gains (ap (λ (own : ColumnSums). nat_lt own.loss own.gain) (sym own_is)) c.loop-i.invariant.positives);
            negatives = subst (AreNumbers losses (i + 1)) (sym (ap (λ (v : Vec ℕ Global). v.items) w.negative-is))
                (w.in_ok-push_where-2.ensures losses (ap (λ (own : ColumnSums). nat_lt own.gain own.loss) (sym own_is)) c.loop-i.invariant.negatives);
          }
      | in_default w ↦
          let none = sym (ap (λ (l : List ColumnSums). sums_in l c.args.column) item) ∙ w.in_default.ensures in
          record {
            read = subst (λ (l : List RowSums). AreReadUpTo c.args.column rows carried l (i + 1)) (sym (ap (λ (v : Vec RowSums Global). v.items) w.sums-is))
                (read_skip c.args.column rows carried c.loop-i.sums.items i under c.loop-i.invariant.read none);
            positives = subst (AreNumbers gains (i + 1)) (sym (ap (λ (v : Vec ℕ Global). v.items) w.positive-is))
                (numbers_skip gains i c.loop-i.positive.items c.loop-i.invariant.positives (ap (λ (own : ColumnSums). nat_lt own.loss own.gain) none));
            negatives = subst (AreNumbers losses (i + 1)) (sym (ap (λ (v : Vec ℕ Global). v.items) w.negative-is))
                (numbers_skip losses i c.loop-i.negative.items c.loop-i.invariant.negatives (ap (λ (own : ColumnSums). nat_lt own.gain own.loss) none));
          }
    ]

-- the signs of what the rows carry are those of the sums that were read
signs_read : (c : ℕ) (rows : List (List ℕ)) (carried : List (List ColumnSums)) (sums : List RowSums) (n : ℕ) (p : ℕ → ℕ → Bool) (numbers : List ℕ) → length rows ≤ n → n ≤ length rows → AreReadUpTo c rows carried sums n → AreNumbers (λ a. p (sums_in (list_of carried a) c).gain (sums_in (list_of carried a) c).loss) n numbers → AreNumbers (λ a. p (sums_of sums a).gain (sums_of sums a).loss) (length rows) numbers
signs_read c rows carried sums n p numbers all few read h =
    let end : n ≡ length rows = omega arith in
    subst (λ (k : ℕ). AreNumbers (λ a. p (sums_of sums a).gain (sums_of sums a).loss) k numbers) end
    (numbers_same (λ a. p (sums_in (list_of carried a) c).gain (sums_in (list_of carried a) c).loss) (λ a. p (sums_of sums a).gain (sums_of sums a).loss) n numbers
    (λ a under.
    let own = read.each a under in
    ap (λ (g : ℕ). p g (sums_in (list_of carried a) c).loss) (sym own.gain) ∙ ap (p (sums_of sums a).gain) (sym own.loss)) h)

pub returns-clause-positive : goal.returns-clause-positive
returns-clause-positive c =
    signs_read c.args.column c.args.rows.now.vectors.items c.args.rows.now.sums.items c.loop-i.sums.items c.loop-i.i (λ g l. nat_lt l g) c.loop-i.positive.items
    (let end = c.loop-i-test.false in omega arith) (let most = c.loop-i.auto.i-end in omega arith) c.loop-i.invariant.read c.loop-i.invariant.positives

pub returns-clause-negative : goal.returns-clause-negative
returns-clause-negative c =
    signs_read c.args.column c.args.rows.now.vectors.items c.args.rows.now.sums.items c.loop-i.sums.items c.loop-i.i (λ g l. nat_lt g l) c.loop-i.negative.items
    (let end = c.loop-i-test.false in omega arith) (let most = c.loop-i.auto.i-end in omega arith) c.loop-i.invariant.read c.loop-i.invariant.negatives

pub find_sums-requires : goal.find_sums-requires
find_sums-requires c =
    let carried = c.args.rows.now.sums.items in
    let i = c.loop-i.i in
    let size = c.requires.size in
    let under : i < length carried = omega (arith, c.loop-i-test.true) in
    let item : c.as_slice.result.now ≡ list_of carried i = c.as_slice.ensures ∙ c.index.ensures ∙ get_or_default carried i c.index.result.now [] under in
    (c.requires.listed.0, subst (AreListed c.requires.listed.0) (sym item) (c.requires.listed.1 i [] under))
