-- The attributes and the rest after them are the text of the net.
use Rattle.std.proofs.Common.{◌++◌}
use Rattle.std.specs.Prelude.{codes}
use Rattle.pnml_grammar.specs.Canon.{name_text, items_text, net_text}
use Rattle.pnml_write.specs.declared.document.TheConstants.{NET_TYPE}
use Rattle.pnml_write.specs.Elements.{after_attributes, quoted}
use Rattle.pnml_write.proofs.Pieces.{joined, finished}
use Rattle.pnml_write.proofs.Frames.{net_is}
use Rattle.pnml_write.proofs.document.push_net.Goals as goal

pub returns : goal.returns
returns c =
    let net = c.args.net.now in
    let id = quoted (codes "<net id=\"") net.id in
    finished c.push_net_rest.result c.args.text.now c.push.new.self c.push_net_rest.new.text (id ++ NET_TYPE.now) (after_attributes (name_text net.name ++ items_text net.items) (codes "</net>")) (net_text net)
    (joined c.args.text.now c.push_attribute.new.text c.push.new.self id NET_TYPE.now c.in_ok-push_attribute.ensures c.in_ok-push.ensures.ok)
    (net_is net) c.push_net_rest.ensures
