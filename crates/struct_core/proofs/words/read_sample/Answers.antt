-- The second word is the only one after the first.
use Rattle.std.proofs.Common.{rules, ◌≡◌, length, arith}
use Rattle.std.specs.Prelude.{codes}
use Rattle.struct_core.proofs.Orders.{sample_means}
use Rattle.struct_core.proofs.words.read_sample.Goals as goal

pub returns-in_ok-read_number-in-len1-clause-meant : goal.returns-in_ok-read_number-in-len1-clause-meant
returns-in_ok-read_number-in-len1-clause-meant c =
    let first : c.args.word.now ≡ codes "sample" = search rules in
    let one : length c.args.rest.now ≡ 1 = omega arith in
    sample_means _ _ _ _ _ first one c.number-item.is c.as_bytes.ensures.value c.in_ok-read_number-in-len1.ensures.found
