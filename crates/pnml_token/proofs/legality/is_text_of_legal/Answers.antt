use Rattle.std.proofs.Common.{◌∙◌, ap}
use Rattle.std.specs.List.{list_all}
use Rattle.pnml_token.specs.declared.runs.ByteClass.TheVariants.{Common}
use Rattle.pnml_token.specs.ByteClasses.{in_class}
use Rattle.pnml_token.proofs.LegalTexts.{common_decides}
use Rattle.pnml_token.proofs.legality.is_text_of_legal.Goals as goal

pub returns-then-has_all : goal.returns-then-has_all
returns-then-has_all c =
    common_decides c.args.text.now c.has_all.result c.utf8.text (c.has_all.ensures ∙ ap (list_all (in_class Common)) c.as_bytes.ensures.value) c.if-has_all.true
