use Rattle.std.proofs.Common.{◌∙◌, ◌+◌, ◌≤◌, sym, length, arith, rules}
use Rattle.std.proofs.lemmas.List.Sums.{prefix_len-le-length}
use Rattle.pnml_token.specs.ByteClasses.{in_class}
use Rattle.pnml_token.proofs.Prefixes.{part_passed}
use Rattle.pnml_token.proofs.runs.long_run_length.Goals as goal

pub parts-preserved : goal.parts-preserved
parts-preserved c =
    part_passed (in_class c.args.class) c.args.bytes.now c.parts.rest.now c.split_at.result.0.now c.split_at.result.1.now c.parts.length 64 c.parts.invariant c.parts-test.true c.split_at.ensures.front c.split_at.ensures.back
    (sym c.are_all.ensures ∙ c.if-not-are_all.false)

pub overflow_add-result : goal.overflow_add-result
overflow_add-result c =
    let run = prefix_len-le-length (in_class c.args.class) c.parts.rest.now in
    let total = c.parts.invariant.total in
    let is = c.run_length.ensures in
    let small : c.parts.length + c.run_length.result ≤ length c.args.bytes.now = omega arith in
    search (small, rules)
