-- The attribute, the end of the start tag and the name are the text of the start.
use Rattle.std.proofs.Common.{◌++◌}
use Rattle.std.specs.Prelude.{codes}
use Rattle.net_values.specs.declared.document.Item.TheVariants.{Page}
use Rattle.pnml_grammar.specs.Canon.{name_text, item_text}
use Rattle.pnml_write.specs.Elements.{quoted}
use Rattle.pnml_write.proofs.Pieces.{joined, finished}
use Rattle.pnml_write.proofs.Shapes.{page_start_is}
use Rattle.pnml_write.proofs.nodes.push_page_start.Goals as goal

pub returns : goal.returns
returns c =
    let page = c.args.page.now in
    let id = quoted (codes "<page id=\"") page.id in
    finished c.push_name_if_any.result c.args.text.now c.push.new.self c.push_name_if_any.new.text (id ++ codes ">") (name_text page.name) (item_text (Page page))
    (joined c.args.text.now c.push_attribute.new.text c.push.new.self id (codes ">") c.in_ok-push_attribute.ensures c.in_ok-push.ensures.ok)
    (page_start_is page) c.push_name_if_any.ensures
