-- What the passes found, over numbers, is what the definitions say of the net, over ids.
use Rattle.std.proofs.Common.{◌≡◌, sym, ap, ◌∙◌, subst, ℕ, zero, suc, ◌+◌, ◌≤◌, List, [], ◌∷◌, Some, length, slice_get, arith}
use Rattle.std.specs.List.{flat_map, AllByRecursion, AllZip}
use Rattle.std.proofs.lemmas.List.{length-map}
use Rattle.net_values.specs.declared.document.NetTree.{NetTree}
use Rattle.net_values.specs.declared.document.ArcNode.{ArcNode}
use Rattle.net_values.specs.declared.document.Item.{Item}
use Rattle.net_values.specs.declared.document.Item.TheVariants.{Page, PageEnd, Place, Transition, RefPlace, RefTransition, Arc}
use Rattle.net_values.specs.FlatNets.{NetLists, transition_ids}
use Rattle.pnml_grammar.proofs.EachLaws.{each_weaker}
use Rattle.page_flatten.specs.declared.fault.FlatFault.{FlatFault}
use Rattle.page_flatten.specs.declared.fault.FlatFault.TheVariants.{NoMemory, DuplicateId, UnknownId, RefKind, RefCycle, ArcEnds, NoNet}
use Rattle.page_flatten.specs.declared.links.End.{End}
use Rattle.page_flatten.specs.declared.links.End.TheVariants.{AtPlace, AtTransition}
use Rattle.page_flatten.specs.declared.links.Link.{Link}
use Rattle.page_flatten.specs.declared.links.Link.TheVariants.{Ends}
use Rattle.net_values.specs.declared.node_kind.NodeKind.{NodeKind}
use Rattle.page_flatten.specs.Elements.{Element, Role, NoNode, Real, Reference, elements, elements_from, entries, references, ReferenceTo, arcs}
use Rattle.page_flatten.specs.Chains.{Resolves}
use Rattle.page_flatten.specs.Rules.{AreDistinct, HasDistinctIds, EndsChains, JoinsArcs, ItsChainEnds, JoinsPlaceAndTransition}
use Rattle.page_flatten.specs.Passes.{NamesUnending, NamesWrongArc}
use Rattle.page_flatten.specs.Flat.{FlatArc, IsResolved, FlatOf, flat_places, flat_transitions}
use Rattle.page_flatten.specs.Tables.{table_ids, EndsAt, EndsById, HaveSameEnds, AreLinksOf, AreSettled, ItsLinksEnd, LinksJoin, IsFirstEndless, IsFirstMisjoined, IsEndWithin, LinksStayWithin, IsResolvedBy, AddsArcs, HasNoArcs}
use Rattle.page_flatten.proofs.Lists.{some_is}
use Rattle.page_flatten.proofs.Passes.{first_same}
use Rattle.page_flatten.proofs.ChainLaws.{has_end, kept_by_id, sound_by_id}
use Rattle.page_flatten.proofs.Meaning.{ends_by_id, resolves_by_id, linked_back, real_from_link}
use Rattle.page_flatten.proofs.NumberLaws.{ids_are}
use Rattle.page_flatten.proofs.NodeLaws.{arcs_counted}

pub distinct_ids : (net : NetTree) → AreDistinct (table_ids (entries net)) → HasDistinctIds net
distinct_ids net distinct = subst AreDistinct (ids_are (elements net)) distinct

pub distinct_entries : (net : NetTree) → HasDistinctIds net → AreDistinct (table_ids (entries net))
distinct_entries net ids = subst AreDistinct (sym (ids_are (elements net))) ids

-- a place or a transition among the elements of the items has a number below their counts
pub within_more : (a b m n : ℕ) (end : End) → a ≤ b → m ≤ n → IsEndWithin a m end → IsEndWithin b n end
within_more a b m n (AtPlace p) places transitions h = omega arith
within_more a b m n (AtTransition t) places transitions h = omega arith

abbrev element : List ℕ → Role → Element
element id role = record { id = id; role = role }

no_real : (id other : List ℕ) (end : End) → Some (element id NoNode) ≡ Some (element other (Real end)) → ⊥
no_real id other end e = let roles : NoNode ≡ Real end = ap (λ (x : Element). x.role) (some_is e) in cc

real_is : (id other : List ℕ) (a b : End) → Some (element id (Real a)) ≡ Some (element other (Real b)) → a ≡ b
real_is id other a b e = let roles : Real a ≡ Real b = ap (λ (x : Element). x.role) (some_is e) in cc

no_reference : (id other : List ℕ) (kind : NodeKind) (target : List ℕ) (end : End) → Some (element id (Reference kind target)) ≡ Some (element other (Real end)) → ⊥
no_reference id other kind target end e = let roles : Reference kind target ≡ Real end = ap (λ (x : Element). x.role) (some_is e) in cc

abbrev IsCounted : List Item → ℕ → ℕ → End → Type 0
IsCounted items p t end = IsEndWithin (p + length (flat_map flat_places items)) (t + length (flat_map flat_transitions items)) end

counted : (items : List Item) (p t m : ℕ) (id : List ℕ) (end : End) → slice_get (elements_from items p t) m ≡ Some record { id = id; role = Real end } → IsCounted items p t end
counted [] p t m id end at = absurd cc
counted (Page page ∷ items) p t zero id end at = absurd (no_real page.id id end at)
counted (Page page ∷ items) p t (suc m) id end at = counted items p t m id end at
counted (PageEnd ∷ items) p t m id end at = counted items p t m id end at
counted (Place node ∷ items) p t zero id end at = subst (IsCounted (Place node ∷ items) p t) (real_is node.id id (AtPlace p) end at) (omega arith)
counted (Place node ∷ items) p t (suc m) id end at = within_more _ _ _ _ end (omega arith) (omega arith) (counted items (p + 1) t m id end at)
counted (Transition node ∷ items) p t zero id end at = subst (IsCounted (Transition node ∷ items) p t) (real_is node.id id (AtTransition t) end at) (omega arith)
counted (Transition node ∷ items) p t (suc m) id end at = within_more _ _ _ _ end (omega arith) (omega arith) (counted items p (t + 1) m id end at)
counted (RefPlace node ∷ items) p t zero id end at = absurd (no_reference node.id id _ node.target end at)
counted (RefPlace node ∷ items) p t (suc m) id end at = counted items p t m id end at
counted (RefTransition node ∷ items) p t zero id end at = absurd (no_reference node.id id _ node.target end at)
counted (RefTransition node ∷ items) p t (suc m) id end at = counted items p t m id end at
counted (Arc arc ∷ items) p t zero id end at = absurd (no_real arc.id id end at)
counted (Arc arc ∷ items) p t (suc m) id end at = counted items p t m id end at

pub counted_in : (net : NetTree) (m : ℕ) (id : List ℕ) (end : End) → slice_get (elements net) m ≡ Some record { id = id; role = Real end } → IsCounted net.items 0 0 end
counted_in net zero id end at = absurd (no_real net.id id end at)
counted_in net (suc m) id end at = counted net.items 0 0 m id end at

zip_weaker : {A B : Type 0} (R S : A → B → Type 0) → ((a : A) (b : B) → R a b → S a b) → (xs : List A) (ys : List B) → AllZip R xs ys → AllZip S xs ys
zip_weaker R S weaker [] [] all = tt
zip_weaker R S weaker [] (y ∷ ys) all = absurd all
zip_weaker R S weaker (x ∷ xs) [] all = absurd all
zip_weaker R S weaker (x ∷ xs) (y ∷ ys) all = (weaker x y all.0, zip_weaker R S weaker xs ys all.1)

module _ (net : NetTree) (distinct : AreDistinct (table_ids (entries net))) (old new : List Link) (linked : AreLinksOf (entries net) (elements net) old) (same : HaveSameEnds old new) where
  resolves_old : (id : List ℕ) (end : End) → EndsById (entries net) old id end → Resolves (elements net) id end
  resolves_old = resolves_by_id (elements net) old distinct linked

  ends_old : (id : List ℕ) (end : End) → Resolves (elements net) id end → EndsById (entries net) old id end
  ends_old = ends_by_id (elements net) old distinct linked

  resolves_new : (id : List ℕ) (end : End) → EndsById (entries net) new id end → Resolves (elements net) id end
  resolves_new id end h = resolves_old id end (sound_by_id (entries net) old new same id end h)

  ends_new : (id : List ℕ) (end : End) → Resolves (elements net) id end → EndsById (entries net) new id end
  ends_new id end h = kept_by_id (entries net) old new same id end (ends_old id end h)

  chain_ends : (reference : ReferenceTo) → ItsLinksEnd (entries net) old reference → ItsChainEnds net reference
  chain_ends reference h = (h.0, resolves_old reference.target h.0 h.1)

  links_end : (reference : ReferenceTo) → ItsChainEnds net reference → ItsLinksEnd (entries net) old reference
  links_end reference h = (h.0, ends_old reference.target h.0 h.1)

  pub chains_end : AllByRecursion (ItsLinksEnd (entries net) old) (flat_map references net.items) → EndsChains net
  chains_end h = each_weaker _ _ chain_ends (flat_map references net.items) h

  pub unending : (fault : FlatFault) → IsFirstEndless (entries net) old (flat_map references net.items) fault → NamesUnending net fault
  unending NoMemory h = tt
  unending (DuplicateId id) h = absurd h
  unending (UnknownId id by) h = absurd h
  unending (RefKind id) h = absurd h
  unending (RefCycle id) h = (h.0, first_same _ _ chain_ends links_end (flat_map references net.items) h.0 h.1, h.2)
  unending (ArcEnds id) h = absurd h
  unending (NoNet count) h = absurd h

  real_at : (n : ℕ) (end : End) → EndsAt old n end → IsCounted net.items 0 0 end
  real_at n end h =
      let last = has_end h.steps old n end h.chain in
      let back = linked_back (entries net) (elements net) old linked last.0 (Ends end) last.1 in
      let role : back.0.role ≡ Real end = real_from_link (entries net) back.0.role end back.2 in
      counted_in net last.0 back.0.id end (back.1 ∙ (λ i. Some record { id = back.0.id; role = role i }))

  pub settled : AreSettled net new
  settled = record {
    resolves = resolves_new;
    ends = ends_new;
    within = λ n end h. within_more _ _ _ _ end (omega arith) (omega arith) (real_at n end (same.sound n end h));
  }

-- from here on only that the links are settled
module _ (net : NetTree) (links : List Link) (settled : AreSettled net links) where
  arc_joins : (arc : ArcNode) → LinksJoin (entries net) links arc → JoinsPlaceAndTransition net arc
  arc_joins arc h = record {
    source = h.source;
    target = h.target;
    source_resolves = settled.resolves arc.source h.source h.source_ends;
    target_resolves = settled.resolves arc.target h.target h.target_ends;
    apart = h.apart;
  }

  links_join : (arc : ArcNode) → JoinsPlaceAndTransition net arc → LinksJoin (entries net) links arc
  links_join arc h = record {
    source = h.source;
    target = h.target;
    source_ends = settled.ends arc.source h.source h.source_resolves;
    target_ends = settled.ends arc.target h.target h.target_resolves;
    apart = h.apart;
  }

  pub wrong_arc : (fault : FlatFault) → IsFirstMisjoined (entries net) links (flat_map arcs net.items) fault → NamesWrongArc net fault
  wrong_arc NoMemory h = tt
  wrong_arc (DuplicateId id) h = absurd h
  wrong_arc (UnknownId id by) h = absurd h
  wrong_arc (RefKind id) h = absurd h
  wrong_arc (RefCycle id) h = absurd h
  wrong_arc (ArcEnds id) h = (h.0, first_same _ _ arc_joins links_join (flat_map arcs net.items) h.0 h.1, h.2)
  wrong_arc (NoNet count) h = absurd h

  -- each end is a place or a transition of a net with these nodes
  pub ends_within : (lists : NetLists) → lists.places ≡ flat_map flat_places net.items → transition_ids lists ≡ flat_map flat_transitions net.items → LinksStayWithin (length lists.places) (length lists.transitions) links
  ends_within lists places transitions n end h =
      let ids : length (transition_ids lists) ≡ length lists.transitions = length-map lists.transitions (λ transition. transition.id) in
      within_more _ _ _ _ end (omega (arith, ap length places)) (omega (arith, ids, ap length transitions)) (settled.within n end h)

  resolved_arc : (arc : ArcNode) (flat : FlatArc) → IsResolvedBy (entries net) links arc flat → IsResolved (elements net) arc flat
  resolved_arc arc flat h = record {
    source = settled.resolves arc.source flat.source h.source;
    target = settled.resolves arc.target flat.target h.target;
    weight = h.weight;
  }

  pub arcs_join : (bare flat : NetLists) → AddsArcs (entries net) links (flat_map arcs net.items) bare flat → JoinsArcs net
  arcs_join bare flat adds = each_weaker _ _ arc_joins (flat_map arcs net.items) adds.joined

  pub flat_net : (bare flat : NetLists) → bare.places ≡ flat_map flat_places net.items → transition_ids bare ≡ flat_map flat_transitions net.items → HasNoArcs bare → AddsArcs (entries net) links (flat_map arcs net.items) bare flat → FlatOf net flat
  flat_net bare flat places transitions none adds = record {
    places = adds.nodes.places ∙ places;
    transitions = adds.nodes.transitions ∙ transitions;
    flat_arcs = adds.flat_arcs;
    resolved = zip_weaker _ _ resolved_arc (flat_map arcs net.items) adds.flat_arcs adds.resolved;
    pre = λ p t. omega (arith, adds.pre p t, none.pre p t);
    post = λ p t. omega (arith, adds.post p t, none.post p t);
    count = omega (arith, adds.count, none.count, arcs_counted net.items);
  }
