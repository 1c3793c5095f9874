use Rattle.std.proofs.Common.{take}
use Rattle.pnml_grammar.specs.declared.token.Token.TheVariants.{Empty}
use Rattle.pnml_token.proofs.Windows.{token_shorter, window_found}
use Rattle.pnml_token.proofs.empty_tags.empty_tag_length.Goals as goal

pub overflow_sub-result : goal.overflow_sub-result
overflow_sub-result c = let h = c.in_ok-rest.ensures in token_shorter (take c.window_length.result c.args.bytes.now) (Empty h.0 h.1) c.in_ok-rest.rest.now h.2

pub returns : goal.returns
returns c =
    let h = c.in_ok-rest.ensures in
    let f = window_found c.args.bytes.now c.window_length.result (Empty h.0 h.1) c.in_ok-rest.rest.now c.window_length.ensures h.2 in
    (h.0, h.1, f.0, f.1, f.2, f.3)
