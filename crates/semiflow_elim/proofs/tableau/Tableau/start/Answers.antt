use Rattle.std.proofs.Common.{◌≡◌, sym, ap, ◌∙◌, subst, ℕ, Bool, false, List, [], All, length, replicate, arith}
use Rattle.std.proofs.lemmas.List.{get_or_default, length-replicate}
use Rattle.incidence.specs.Tables.{matrix_of}
use Rattle.semiflow_elim.specs.Bases.{AreUnits, in_set}
use Rattle.semiflow_elim.specs.Carried.{AreListed, CarryTheirs}
use Rattle.semiflow_elim.specs.Counts.{AreCounted}
use Rattle.semiflow_elim.specs.Tableaus.{size_of}
use Rattle.semiflow_elim.specs.declared.carried.ColumnSums.{ColumnSums}
use Rattle.semiflow_elim.proofs.TakenSets.{size_none, none_taken}
use Rattle.semiflow_elim.proofs.Units.{units_basis}
use Rattle.semiflow_elim.proofs.tableau.Tableau.start.Goals as goal

pub invariant_of-result : goal.invariant_of-result
invariant_of-result c =
    let m = matrix_of c.args.matrix.now in
    let units : AreUnits m.rows c.in_ok-vectors.vectors.items m.rows = subst (λ (n : ℕ). AreUnits n c.in_ok-vectors.vectors.items n) c.rows.ensures.value c.in_ok-vectors.ensures in
    let count = units.count in
    let high = c.rows.ensures.limits.rows in
    let none : c.in_ok-taken.taken ≡ replicate m.columns false = c.in_ok-taken.ensures ∙ ap (λ (n : ℕ). replicate n false) c.columns.ensures.value in
    record {
      columns = ap length none ∙ length-replicate {A = Bool} m.columns false;
      count = sym (ap size_of none ∙ size_none m.columns);
      basis = units_basis m (in_set c.in_ok-taken.taken) c.in_ok-vectors.vectors.items (λ j under inside. none_taken m.columns j (subst (λ (t : List Bool). in_set t j) none inside)) units;
      sums = subst (λ (l : List (List ℕ)). CarryTheirs m (in_set c.in_ok-taken.taken) l c.in_ok-sums.sums.items) c.as_slice.ensures.value c.in_ok-sums.ensures;
      counted = subst (λ (n : ℕ). AreCounted c.in_ok-sums.sums.items (length c.in_ok-sums.sums.items) n c.in_ok-counts.counts.items) c.columns-2.ensures.value
          (subst (λ (l : List (List ColumnSums)). AreCounted l (length l) c.columns-2.result c.in_ok-counts.counts.items) c.as_slice-2.ensures.value c.in_ok-counts.ensures);
      short = c.rows.ensures.limits.columns;
      few = omega arith;
    }

pub all_sums-requires-clause-units : goal.all_sums-requires-clause-units
all_sums-requires-clause-units c =
    let m = matrix_of c.args.matrix.now in
    let units : AreUnits m.rows c.in_ok-vectors.vectors.items m.rows = subst (λ (n : ℕ). AreUnits n c.in_ok-vectors.vectors.items n) c.rows.ensures.value c.in_ok-vectors.ensures in
    subst (λ (l : List (List ℕ)). AreUnits m.rows l m.rows) (sym c.as_slice.ensures.value) units

pub count_signs-requires-clause-listed : goal.count_signs-requires-clause-listed
count_signs-requires-clause-listed c =
    let m = matrix_of c.args.matrix.now in
    let sums = c.in_ok-sums.sums.items in
    subst (λ (l : List (List ColumnSums)). All (AreListed c.columns-2.result) l) (sym c.as_slice-2.ensures.value)
    (subst (λ (n : ℕ). All (AreListed n) sums) (sym c.columns-2.ensures.value) (λ k d under.
    let size = c.in_ok-sums.ensures.size in
    subst (AreListed m.columns) (get_or_default sums k [] d under) (c.in_ok-sums.ensures.each k (omega (arith, size, under))).listed))
