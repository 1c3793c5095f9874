-- The attribute and the rest after it are the whole element.
use Rattle.std.specs.Prelude.{codes}
use Rattle.pnml_grammar.specs.Canon.{name_text, element, id_attribute}
use Rattle.pnml_write.specs.Elements.{after_attributes, quoted}
use Rattle.pnml_write.proofs.Pieces.{finished}
use Rattle.pnml_write.proofs.Shapes.{empty_page_is}
use Rattle.pnml_write.proofs.nodes.push_empty_page.Goals as goal

pub returns : goal.returns
returns c =
    let page = c.args.page.now in
    finished c.push_named_rest.result c.args.text.now c.push_attribute.new.text c.push_named_rest.new.text (quoted (codes "<page id=\"") page.id) (after_attributes (name_text page.name) (codes "</page>")) (element (codes "page") (id_attribute page.id) (name_text page.name))
    c.in_ok-push_attribute.ensures (empty_page_is page) c.push_named_rest.ensures
