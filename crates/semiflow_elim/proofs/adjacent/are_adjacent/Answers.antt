use Rattle.std.proofs.Common.{[], refl, subst, arith}
use Rattle.incidence.specs.Tables.{matrix_of}
use Rattle.semiflow_elim.proofs.Adjacency.{alone_more}
use Rattle.semiflow_elim.specs.Adjacent.{HasOne}
use Rattle.semiflow_elim.specs.Bases.{in_set}
use Rattle.semiflow_elim.proofs.LoneEntries.{first_alone, second_alone}
use Rattle.std.proofs.lemmas.List.{get_or_default}
use Rattle.semiflow_elim.proofs.adjacent.are_adjacent.Goals as goal

pub loop-j-preserved : goal.loop-j-preserved
loop-j-preserved c = λ j under.
    alone_more (matrix_of c.args.step.now.matrix.now) c.args.step.now.rows.now c.args.i c.args.k c.loop-j.j c.loop-j.invariant c.if-is_third.ensures j (omega arith)

pub returns-then-has_one : goal.returns-then-has_one
returns-then-has_one c =
    let m = matrix_of c.args.step.now.matrix.now in
    let rows = c.args.step.now.rows.now in
    let one = subst HasOne (get_or_default rows c.args.i c.index-step-i.result [] c.requires.first) (c.has_one.ensures c.if-has_one.true) in
    (λ yes. first_alone m (in_set c.requires.step.taken) rows c.requires.step.basis c.args.i c.args.k c.requires.first c.requires.second one, λ adjacent. refl)

pub returns-then-has_one-2 : goal.returns-then-has_one-2
returns-then-has_one-2 c =
    let m = matrix_of c.args.step.now.matrix.now in
    let rows = c.args.step.now.rows.now in
    let one = subst HasOne (get_or_default rows c.args.k c.index-step-k.result [] c.requires.second) (c.has_one-2.ensures c.if-has_one-2.true) in
    (λ yes. second_alone m (in_set c.requires.step.taken) rows c.args.i c.args.k c.requires.step.basis c.requires.first c.requires.second one, λ adjacent. refl)
