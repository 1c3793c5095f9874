use Rattle.std.proofs.Common.{ap, ◌∙◌, []}
use Rattle.incidence.specs.Tables.{matrix_of}
use Rattle.net_values.specs.Vectors.{support_of}
use Rattle.semiflow_elim.proofs.Pairs.{read_row}
use Rattle.semiflow_elim.proofs.Unions.{third_cases}
use Rattle.semiflow_elim.proofs.adjacent.is_third.Goals as goal

pub returns : goal.returns
returns c =
    let rows = c.args.step.now.rows.now in
    third_cases (matrix_of c.args.step.now.matrix.now) rows c.args.i c.args.k c.args.j c.support.result.now c.support-2.result.now c.support-3.result.now (c.requires.step.basis.size c.args.j [] c.requires.third)
    (c.support.ensures ∙ ap support_of (read_row rows c.args.j c.index-rows-j.result c.requires.third c.index-rows-j.is))
    (c.support-2.ensures ∙ ap support_of (read_row rows c.args.i c.index-rows-i.result c.requires.first c.index-rows-i.is))
    (c.support-3.ensures ∙ ap support_of (read_row rows c.args.k c.index-rows-k.result c.requires.second c.index-rows-k.is))
    c.is_within_either.result c.if-j-i.false c.if-j-k.false c.is_within_either.ensures
