use Rattle.std.proofs.Common.{sym, ◌∙◌}
use Rattle.pnml_grammar.specs.declared.token.Token.TheVariants.{Empty}
use Rattle.pnml_token.proofs.Windows.{shape_shorter}
use Rattle.pnml_token.proofs.EmptyTags.{legal_is_read}
use Rattle.pnml_token.proofs.empty_tags.legal_empty_tag_of.Goals as goal

pub slice_bounds-is_spelling-count : goal.slice_bounds-is_spelling-count
slice_bounds-is_spelling-count c = let h = c.in_ok-rest.ensures in shape_shorter c.args.bytes.now (Empty h.0 h.1) c.in_ok-rest.rest.now h.2

pub returns-then-is_spelling : goal.returns-then-is_spelling
returns-then-is_spelling c = legal_is_read c.args.bytes.now c.in_ok-rest.rest.now c.in_ok-rest.ensures (sym c.is_spelling.ensures ∙ c.if-is_spelling.true)
