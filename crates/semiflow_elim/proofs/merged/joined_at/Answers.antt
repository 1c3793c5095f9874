use Rattle.std.proofs.Common.{◌≡◌, ◌+◌, ◌*◌, ◌^◌, ◌<◌, rules, arith}
use Rattle.incidence.specs.Tables.{matrix_of}
use Rattle.std.specs.Prelude.{slice_index}
use Rattle.semiflow_elim.proofs.Merging.{joint_sums}
use Rattle.semiflow_elim.proofs.merged.joined_at.Goals as goal

pub returns-in-Ok-Ok-clause-sums : goal.returns-in-Ok-Ok-clause-sums
returns-in-Ok-Ok-clause-sums c =
    let by = c.args.by in
    let gain_is : c.in-Ok-Ok.gain ≡ by.first * c.args.own.gain + by.second * c.args.other.gain = search rules in
    let loss_is : c.in-Ok-Ok.loss ≡ by.first * c.args.own.loss + by.second * c.args.other.loss = search rules in
    let gain_narrow : by.first * c.args.own.gain + by.second * c.args.other.gain < 2 ^ 127 = search rules in
    let loss_narrow : by.first * c.args.own.loss + by.second * c.args.other.loss < 2 ^ 127 = search rules in
    joint_sums (matrix_of c.args.matrix.now) c.args.column (slice_index c.args.row.now) by c.args.own c.args.other c.in-Ok-Ok.gain c.in-Ok-Ok.loss c.requires.divisor c.requires.joint gain_is loss_is (omega arith) (omega arith)
