use Rattle.std.proofs.Common.{sym, ap, ◌∙◌}
use Rattle.pnml_grammar.specs.Runs.{past}
use Rattle.pnml_token.proofs.EmptyTags.{empty_if_read}
use Rattle.pnml_token.proofs.empty_tags.empty_tag_of.Goals as goal

pub returns : goal.returns
returns c = empty_if_read c.args.bytes.now c.in_ok-rest.rest.now c.in_ok-name.name.now c.in_ok-name.rest.now c.in_ok-rest-2.rest.now c.in_ok-rest-3.rest.now c.past-3.result
    (sym c.in_ok-rest.ensures) (sym c.in_ok-name.ensures) (sym c.are_plain.ensures ∙ c.if-not-are_plain.false) c.in_ok-rest-2.ensures (ap (past 47) (sym c.past_space.ensures) ∙ sym c.in_ok-rest-3.ensures) c.past-3.ensures
