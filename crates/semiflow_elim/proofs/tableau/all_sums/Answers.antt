use Rattle.std.proofs.Common.{◌≡◌, ◌++◌, ◌∷◌, ◌+◌, [], sym, ap, ◌∙◌, subst, ℕ, suc, List, take, rules, arith}
use Rattle.std.proofs.Math.Seq.{take-suc}
use Rattle.incidence.specs.Tables.{matrix_of}
use Rattle.semiflow_elim.specs.Bases.{in_set}
use Rattle.semiflow_elim.specs.Carried.{AreCarried, CarryTheirs}
use Rattle.semiflow_elim.specs.Elimination.{row_of}
use Rattle.semiflow_elim.proofs.Carrying.{carry_more}
use Rattle.semiflow_elim.proofs.Pairs.{read_row}
use Rattle.semiflow_elim.proofs.tableau.all_sums.Goals as goal

pub loop-i-preserved : goal.loop-i-preserved
loop-i-preserved c =
    let m = matrix_of c.args.matrix.now in
    let K = in_set c.args.taken.now in
    let rows = c.args.rows.now in
    let k = c.loop-i.i in
    let own = c.in_ok-unit_sums.field-0 in
    let pushed : c.push.new.self.items ≡ c.loop-i.sums.items ++ own ∷ [] = search rules in
    let row_is : c.index-rows-i.result ≡ row_of rows k = read_row rows k c.index-rows-i.result c.loop-i-test.true c.index-rows-i.is in
    let next : k + 1 ≡ suc k = omega arith in
    let front : take (k + 1) rows ≡ take k rows ++ row_of rows k ∷ [] = ap (λ (n : ℕ). take n rows) next ∙ take-suc rows k [] c.loop-i-test.true in
    subst (λ (l : List (List ℕ)). CarryTheirs m K l c.push.new.self.items) (sym front)
    (subst (CarryTheirs m K (take k rows ++ row_of rows k ∷ [])) (sym pushed)
    (carry_more m K (take k rows) c.loop-i.sums.items (row_of rows k) own c.loop-i.invariant
    (subst (λ (r : List ℕ). AreCarried m K r m.columns own) row_is c.in_ok-unit_sums.ensures)))
