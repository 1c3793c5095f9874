-- The items' texts, as they are written: each attribute with the text in front of it, and then the rest.
use Rattle.std.proofs.Common.{◌≡◌, ◌++◌, refl, sym}
use Rattle.std.specs.Prelude.{codes}
use Rattle.net_values.specs.declared.document.PageNode.{PageNode}
use Rattle.net_values.specs.declared.document.PlaceNode.{PlaceNode}
use Rattle.net_values.specs.declared.document.TransitionNode.{TransitionNode}
use Rattle.net_values.specs.declared.document.RefNode.{RefNode}
use Rattle.net_values.specs.declared.document.ArcNode.{ArcNode}
use Rattle.net_values.specs.declared.document.Item.TheVariants.{Page, PageEnd, Place, Transition, RefPlace, RefTransition, Arc}
use Rattle.pnml_grammar.specs.Canon.{attribute, start_tag, end_tag, element, id_attribute, name_text, marking_text, weight_text, item_text}
use Rattle.pnml_write.specs.Elements.{after_attributes, quoted, reference_text}
use Rattle.pnml_write.proofs.Labels.{element_parts}

pub place_is : (place : PlaceNode) → quoted (codes "<place id=\"") place.id ++ after_attributes (name_text place.name ++ marking_text place.initial) (codes "</place>") ≡ item_text (Place place)
unfolding item_text attribute end_tag
place_is place = sym (element_parts (codes "place") (id_attribute place.id) (name_text place.name ++ marking_text place.initial))

pub transition_is : (transition : TransitionNode) → quoted (codes "<transition id=\"") transition.id ++ after_attributes (name_text transition.name) (codes "</transition>") ≡ item_text (Transition transition)
unfolding item_text attribute end_tag
transition_is transition = sym (element_parts (codes "transition") (id_attribute transition.id) (name_text transition.name))

pub reference_place_is : (node : RefNode) → reference_text (codes "<referencePlace id=\"") node (codes "</referencePlace>") ≡ item_text (RefPlace node)
unfolding item_text attribute end_tag
reference_place_is node =
    sym (element_parts (codes "referencePlace") (id_attribute node.id ++ attribute (codes "ref") node.target) (name_text node.name))

pub reference_transition_is : (node : RefNode) → reference_text (codes "<referenceTransition id=\"") node (codes "</referenceTransition>") ≡ item_text (RefTransition node)
unfolding item_text attribute end_tag
reference_transition_is node =
    sym (element_parts (codes "referenceTransition") (id_attribute node.id ++ attribute (codes "ref") node.target) (name_text node.name))

pub arc_is : (arc : ArcNode) → quoted (codes "<arc id=\"") arc.id ++ quoted (codes " source=\"") arc.source ++ quoted (codes " target=\"") arc.target ++ after_attributes (name_text arc.name ++ weight_text arc.weight) (codes "</arc>") ≡ item_text (Arc arc)
unfolding item_text attribute end_tag
arc_is arc =
    sym (element_parts (codes "arc") (id_attribute arc.id ++ attribute (codes "source") arc.source ++ attribute (codes "target") arc.target) (name_text arc.name ++ weight_text arc.weight))

pub page_start_is : (page : PageNode) → quoted (codes "<page id=\"") page.id ++ codes ">" ++ name_text page.name ≡ item_text (Page page)
unfolding item_text attribute start_tag
page_start_is page = refl

pub empty_page_is : (page : PageNode) → quoted (codes "<page id=\"") page.id ++ after_attributes (name_text page.name) (codes "</page>") ≡ element (codes "page") (id_attribute page.id) (name_text page.name)
unfolding attribute end_tag
empty_page_is page = sym (element_parts (codes "page") (id_attribute page.id) (name_text page.name))

pub page_end_is : codes "</page>" ≡ item_text PageEnd
unfolding item_text end_tag
page_end_is = refl
