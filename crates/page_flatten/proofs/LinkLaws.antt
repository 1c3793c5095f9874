-- The elements so far are linked: those that the items so far begin, after the net itself.
use Rattle.std.proofs.Common.{◌≡◌, refl, sym, ap, ◌∙◌, subst, ℕ, ◌+◌, ◌<◌, ◌≤◌, List, [], ◌∷◌, ◌++◌, Option, length, drop, get_or, map, append_assoc, arith}
use Rattle.std.specs.List.{flat_map, AllByRecursion}
use Rattle.std.specs.Option.{option_to_list}
use Rattle.std.proofs.lemmas.List.{append-nil, drop_all}
use Rattle.net_values.specs.declared.document.NetTree.{NetTree}
use Rattle.net_values.specs.declared.document.Item.{Item}
use Rattle.net_values.specs.declared.document.Item.TheVariants.{Page, PageEnd, Place, Transition, RefPlace, RefTransition, Arc}
use Rattle.net_values.specs.declared.node_kind.NodeKind.{NodeKind}
use Rattle.page_flatten.specs.declared.links.Link.{Link}
use Rattle.page_flatten.specs.declared.links.Link.TheVariants.{Apart}
use Rattle.page_flatten.specs.Elements.{Element, NoNode, elements_from, elements, entry_of, mentions}
use Rattle.page_flatten.specs.Rules.{IsKnown}
use Rattle.page_flatten.specs.Tables.{item_entry, places_after, transitions_after, AreLinksOf}
use Rattle.page_flatten.proofs.Passes.{item_and_rest, each_after}

-- the element of the first item, and those after it
elements_cons : (item : Item) (items : List Item) (p t : ℕ) → elements_from (item ∷ items) p t ≡ elements_from (item ∷ []) p t ++ elements_from items (places_after item p) (transitions_after item t)
elements_cons (Page page) items p t = refl
elements_cons PageEnd items p t = refl
elements_cons (Place node) items p t = refl
elements_cons (Transition node) items p t = refl
elements_cons (RefPlace node) items p t = refl
elements_cons (RefTransition node) items p t = refl
elements_cons (Arc arc) items p t = refl

pub elements_entry : (item : Item) (p t : ℕ) → map entry_of (elements_from (item ∷ []) p t) ≡ option_to_list (item_entry item)
elements_entry (Page page) p t = refl
elements_entry PageEnd p t = refl
elements_entry (Place node) p t = refl
elements_entry (Transition node) p t = refl
elements_entry (RefPlace node) p t = refl
elements_entry (RefTransition node) p t = refl
elements_entry (Arc arc) p t = refl

-- the element of the item at k is the next one
pub next_element : (net : NetTree) (k : ℕ) (item : Item) (front : List Element) (p t : ℕ) → k < length net.items → item ≡ get_or net.items k item → elements net ≡ front ++ elements_from (drop k net.items) p t
    → elements net ≡ (front ++ elements_from (item ∷ []) p t) ++ elements_from (drop (k + 1) net.items) (places_after item p) (transitions_after item t)
next_element net k item front p t within is split =
    split ∙ ap (λ items. front ++ elements_from items p t) (item_and_rest net.items k item within is)
    ∙ ap (λ l. front ++ l) (elements_cons item (drop (k + 1) net.items) p t)
    ∙ sym (append_assoc front (elements_from (item ∷ []) p t) (elements_from (drop (k + 1) net.items) (places_after item p) (transitions_after item t)))

-- after the last item there is no element
pub last_element : (net : NetTree) (k : ℕ) (front : List Element) (p t : ℕ) → length net.items ≤ k → elements net ≡ front ++ elements_from (drop k net.items) p t → elements net ≡ front
last_element net k front p t all split =
    split ∙ ap (λ items. front ++ elements_from items p t) (drop_all k net.items all) ∙ append-nil front

-- the links of the elements so far
pub record AreLinksUpTo (numbers : List (List ℕ × Option NodeKind)) (net : NetTree) (k place transition : ℕ) (links : List Link) : Type 0 where
  pub front : List Element
  pub split : elements net ≡ front ++ elements_from (drop k net.items) place transition
  pub linked : AreLinksOf numbers front links
  pub known : AllByRecursion (IsKnown numbers) (flat_map mentions (drop k net.items))
  pub places : place ≤ k
  pub transitions : transition ≤ k

links_append : (numbers : List (List ℕ × Option NodeKind)) (es fs : List Element) (ls ms : List Link) → AreLinksOf numbers es ls → AreLinksOf numbers fs ms → AreLinksOf numbers (es ++ fs) (ls ++ ms)
links_append numbers [] fs [] ms a b = b
links_append numbers [] fs (l ∷ ls) ms a b = absurd a
links_append numbers (e ∷ es) fs [] ms a b = absurd a
links_append numbers (e ∷ es) fs (l ∷ ls) ms a b = (a.0, links_append numbers es fs ls ms a.1 b)

pub links_none : (numbers : List (List ℕ × Option NodeKind)) (net : NetTree) → AllByRecursion (IsKnown numbers) (flat_map mentions net.items) → AreLinksUpTo numbers net 0 0 0 (Apart ∷ [])
links_none numbers net known = record {
  front = record { id = net.id; role = NoNode } ∷ [];
  split = refl;
  linked = (refl, tt);
  known = known;
  places = omega arith;
  transitions = omega arith;
}

places_rise : (item : Item) (p : ℕ) → places_after item p ≤ p + 1
places_rise (Place node) p = omega arith
places_rise _ p = omega arith

transitions_rise : (item : Item) (t : ℕ) → transitions_after item t ≤ t + 1
transitions_rise (Transition node) t = omega arith
transitions_rise _ t = omega arith

-- what the item at k mentions, and what those after it do
known_rest : (numbers : List (List ℕ × Option NodeKind)) (net : NetTree) (k : ℕ) (item : Item) → k < length net.items → item ≡ get_or net.items k item → AllByRecursion (IsKnown numbers) (flat_map mentions (drop k net.items)) → AllByRecursion (IsKnown numbers) (mentions item) × AllByRecursion (IsKnown numbers) (flat_map mentions (drop (k + 1) net.items))
known_rest numbers net k item within is known =
    each_after (IsKnown numbers) (mentions item) (flat_map mentions (drop (k + 1) net.items)) (subst (λ items. AllByRecursion (IsKnown numbers) (flat_map mentions items)) (item_and_rest net.items k item within is) known)

pub known_here : (numbers : List (List ℕ × Option NodeKind)) (net : NetTree) (k : ℕ) (item : Item) (p t : ℕ) (links : List Link) → k < length net.items → item ≡ get_or net.items k item → AreLinksUpTo numbers net k p t links → AllByRecursion (IsKnown numbers) (mentions item)
known_here numbers net k item p t links within is before = (known_rest numbers net k item within is before.known).0

pub links_more : (numbers : List (List ℕ × Option NodeKind)) (net : NetTree) (k : ℕ) (item : Item) (p t q u : ℕ) (old new : List Link) (link : Option Link) → k < length net.items → item ≡ get_or net.items k item → AreLinksUpTo numbers net k p t old → AreLinksOf numbers (elements_from (item ∷ []) p t) (option_to_list link) → new ≡ old ++ option_to_list link → q ≡ places_after item p → u ≡ transitions_after item t → AreLinksUpTo numbers net (k + 1) q u new
links_more numbers net k item p t q u old new link within is before linked grown places transitions =
    let place = sym places in
    let transition = sym transitions in
    record {
      front = before.front ++ elements_from (item ∷ []) p t;
      split =
          next_element net k item before.front p t within is before.split
          ∙ (λ i. (before.front ++ elements_from (item ∷ []) p t) ++ elements_from (drop (k + 1) net.items) (place i) (transition i));
      linked = subst (AreLinksOf numbers (before.front ++ elements_from (item ∷ []) p t)) (sym grown) (links_append numbers before.front (elements_from (item ∷ []) p t) old (option_to_list link) before.linked linked);
      known = (known_rest numbers net k item within is before.known).1;
      places = omega (arith, places, places_rise item p, before.places);
      transitions = omega (arith, transitions, transitions_rise item t, before.transitions);
    }

pub links_all : (numbers : List (List ℕ × Option NodeKind)) (net : NetTree) (k p t : ℕ) (links : List Link) → length net.items ≤ k → AreLinksUpTo numbers net k p t links → AreLinksOf numbers (elements net) links
links_all numbers net k p t links all before = subst (λ l. AreLinksOf numbers l links) (sym (last_element net k before.front p t all before.split)) before.linked
