-- A net around its items, and the document around the nets. The constants have nothing to be escaped.
use Rattle.std.proofs.Common.{◌≡◌, ℕ, List, [], ◌∷◌, ◌++◌, refl, sym, ap, ◌∙◌, append_assoc}
use Rattle.std.specs.Prelude.{codes}
use Rattle.net_values.specs.declared.document.Document.{Document}
use Rattle.net_values.specs.declared.document.NetTree.{NetTree}
use Rattle.pnml_grammar.specs.Canon.{escaped, attribute, start_tag, end_tag, id_attribute, name_text, items_text, net_type, namespace, net_text, nets_text, declaration, canon}
use Rattle.pnml_write.specs.declared.document.TheConstants.{HEAD, NET_TYPE}
use Rattle.pnml_write.specs.Elements.{after_attributes, quoted}
use Rattle.pnml_write.proofs.Labels.{element_parts}

net_type_is : NET_TYPE.now ≡ attribute (codes "type") net_type
unfolding attribute escaped
net_type_is = refl

pub net_is : (net : NetTree) → quoted (codes "<net id=\"") net.id ++ NET_TYPE.now ++ after_attributes (name_text net.name ++ items_text net.items) (codes "</net>") ≡ net_text net
unfolding net_text attribute end_tag
net_is net =
    ap (λ (t : List ℕ). quoted (codes "<net id=\"") net.id ++ t ++ after_attributes (name_text net.name ++ items_text net.items) (codes "</net>")) net_type_is
    ∙ sym (element_parts (codes "net") (id_attribute net.id ++ attribute (codes "type") net_type) (name_text net.name ++ items_text net.items))

head_is : HEAD.now ≡ declaration ++ start_tag (codes "pnml") (attribute (codes "xmlns") namespace)
unfolding declaration start_tag attribute escaped
head_is = refl

pub canon_is : (document : Document) → HEAD.now ++ nets_text document.nets ++ codes "</pnml>\n" ≡ canon document
unfolding canon end_tag
canon_is document =
    let front = declaration ++ start_tag (codes "pnml") (attribute (codes "xmlns") namespace) in
    ap (λ (t : List ℕ). t ++ nets_text document.nets ++ codes "</pnml>\n") head_is
    ∙ sym (append_assoc (front ++ nets_text document.nets) (end_tag (codes "pnml")) (10 ∷ []))

-- three pieces after nothing
pub three_pieces : (empty first second third head net end : List ℕ) → empty ≡ [] → first ≡ empty ++ head → second ≡ first ++ net → third ≡ second ++ end → third ≡ head ++ net ++ end
three_pieces empty first second third head net end none one two three = rw (three, two, one, none) refl
