use Rattle.std.proofs.Common.{sym, ◌∙◌}
use Rattle.pnml_token.specs.Views.{view}
use Rattle.pnml_token.proofs.EmptyTags.{simple_is_read}
use Rattle.pnml_token.proofs.empty_tags.is_simple.Goals as goal

pub returns-then-are_plain : goal.returns-then-are_plain
returns-then-are_plain c = λ holds. simple_is_read (view c.args.raw_attribute.now) (sym c.are_plain.ensures ∙ c.if-are_plain.true) (sym c.has_all.ensures ∙ holds)
