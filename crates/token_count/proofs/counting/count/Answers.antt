-- A token ends within the bytes.
use Rattle.std.proofs.Common.{arith, subst}
use Rattle.pnml_grammar.specs.Tokens.{TokenAt}
use Rattle.pnml_grammar.proofs.OffsetLaws.{token_end_inside}
use Rattle.pnml_token.specs.Steps.{IfToken}
use Rattle.token_count.proofs.counting.count.Goals as goal

pub loop-preserved : goal.loop-preserved
loop-preserved c =
    let at = subst (λ step. IfToken step (λ token e. TokenAt c.args.bytes.now c.loop.offset token e)) c.in-Token.is c.in_ok-end.ensures.token in
    (token_end_inside c.args.bytes.now c.loop.offset c.in-Token.field-0 c.in-Token.end at, omega arith)
