-- The tables say of numbers what the definitions say of ids: chains of links end where chains of references do.
use Rattle.std.proofs.Common.{◌≡◌, refl, sym, ap, ◌∙◌, subst, ℕ, zero, suc, List, [], ◌∷◌, Option, Some, map, slice_get}
use Rattle.std.proofs.lemmas.Option.{some_pair_parts}
use Rattle.page_flatten.specs.declared.links.End.{End}
use Rattle.page_flatten.specs.declared.links.End.TheVariants.{AtPlace, AtTransition}
use Rattle.page_flatten.specs.declared.links.Link.{Link}
use Rattle.page_flatten.specs.declared.links.Link.TheVariants.{Ends, Leads}
use Rattle.net_values.specs.declared.node_kind.NodeKind.{NodeKind}
use Rattle.page_flatten.specs.Elements.{Element, Role, NoNode, Real, Reference, entry_of, kind_of}
use Rattle.page_flatten.specs.Chains.{Resolves, to_itself, to_what_it_names}
use Rattle.page_flatten.specs.Rules.{AreDistinct}
use Rattle.page_flatten.specs.Tables.{table_ids, EndsIn, EndsById, IsLinkOf, AreLinksOf}
use Rattle.page_flatten.proofs.Lists.{some_is, get_map}
use Rattle.page_flatten.proofs.Numbering.{one_number}
use Rattle.page_flatten.proofs.ChainLaws.{end_is, lead_is}

linked_at : (table : List (List ℕ × Option NodeKind)) (elements : List Element) (links : List Link) → AreLinksOf table elements links → (n : ℕ) (element : Element) → slice_get elements n ≡ Some element → (link : Link) × (slice_get links n ≡ Some link) × IsLinkOf table element.role link
linked_at table [] links are n element at = absurd cc
linked_at table (e ∷ elements) [] are n element at = absurd are
linked_at table (e ∷ elements) (link ∷ links) are zero element at = (link, refl, subst (λ (x : Element). IsLinkOf table x.role link) (some_is at) are.0)
linked_at table (e ∷ elements) (link ∷ links) are (suc n) element at = linked_at table elements links are.1 n element at

pub linked_back : (table : List (List ℕ × Option NodeKind)) (elements : List Element) (links : List Link) → AreLinksOf table elements links → (n : ℕ) (link : Link) → slice_get links n ≡ Some link → (element : Element) × (slice_get elements n ≡ Some element) × IsLinkOf table element.role link
linked_back table [] [] are n link at = absurd cc
linked_back table [] (l ∷ links) are n link at = absurd are
linked_back table (e ∷ elements) [] are n link at = absurd are
linked_back table (e ∷ elements) (l ∷ links) are zero link at = (e, refl, subst (λ x. IsLinkOf table e.role x) (some_is at) are.0)
linked_back table (e ∷ elements) (l ∷ links) are (suc n) link at = linked_back table elements links are.1 n link at

-- an element whose link is an end is the node itself
pub real_from_link : (table : List (List ℕ × Option NodeKind)) (role : Role) (end : End) → IsLinkOf table role (Ends end) → role ≡ Real end
real_from_link table NoNode end is = absurd cc
real_from_link table (Real other) end is = ap Real (sym (end_is is))
real_from_link table (Reference kind target) end is = let e = is.1 in absurd cc

-- an element whose link leads on is a reference to a node with that number
reference_from_link : (table : List (List ℕ × Option NodeKind)) (role : Role) (m : ℕ) → IsLinkOf table role (Leads m) → (kind : NodeKind) × (target : List ℕ) × (role ≡ Reference kind target) × (found : NodeKind) × (slice_get table m ≡ Some (target, Some found))
reference_from_link table NoNode m is = absurd cc
reference_from_link table (Real other) m is = absurd cc
reference_from_link table (Reference kind target) m is =
    (kind, target, refl, is.2, subst (λ k. slice_get table k ≡ Some (target, Some is.2)) (sym (lead_is is.1)) is.3)

real_kind : (end : End) → (kind : NodeKind) × (kind_of (Real end) ≡ Some kind)
real_kind (AtPlace p) = (NodeKind.Place, refl)
real_kind (AtTransition t) = (NodeKind.Transition, refl)

module _ (elements : List Element) (links : List Link) (distinct : AreDistinct (table_ids (map entry_of elements))) (are : AreLinksOf (map entry_of elements) elements links) where
  pub ends_by_id : (id : List ℕ) (end : End) → Resolves elements id end → EndsById (map entry_of elements) links id end
  ends_by_id id end (to_itself n _ _ at) =
      let link = linked_at (map entry_of elements) elements links are n record { id = id; role = Real end } at in
      let kind = real_kind end in
      record {
        number = n;
        kind = kind.0;
        occurs = get_map entry_of elements n record { id = id; role = Real end } at ∙ ap (λ k. Some (id, k)) kind.1;
        ends = record { steps = 0; chain = link.1 ∙ ap Some link.2 };
      }
  ends_by_id id end (to_what_it_names n _ kind target _ at rest) =
      let beyond = ends_by_id target end rest in
      let link = linked_at (map entry_of elements) elements links are n record { id = id; role = Reference kind target } at in
      let lead = link.2 in
      let same : lead.0 ≡ beyond.number = one_number (map entry_of elements) distinct lead.0 beyond.number target (Some lead.2) (Some beyond.kind) lead.3 beyond.occurs in
      record {
        number = n;
        kind = kind;
        occurs = get_map entry_of elements n record { id = id; role = Reference kind target } at;
        ends = record { steps = suc beyond.ends.steps; chain = (beyond.number, link.1 ∙ ap Some lead.1 ∙ ap (λ k. Some (Leads k)) same, beyond.ends.chain) };
      }

  -- the element with a number is the one with its id
  element_named : (n : ℕ) (element : Element) (id : List ℕ) (kind : NodeKind) → slice_get elements n ≡ Some element → slice_get (map entry_of elements) n ≡ Some (id, Some kind) → element.id ≡ id
  element_named n element id kind at occurs = (some_pair_parts element.id id (kind_of element.role) (Some kind) (sym (get_map entry_of elements n element at) ∙ occurs)).0

  resolves_from : (s n : ℕ) (id : List ℕ) (kind : NodeKind) (end : End) → EndsIn s links n end → slice_get (map entry_of elements) n ≡ Some (id, Some kind) → Resolves elements id end
  resolves_from zero n id kind end h occurs =
      let back = linked_back (map entry_of elements) elements links are n (Ends end) h in
      let role : back.0.role ≡ Real end = real_from_link (map entry_of elements) back.0.role end back.2 in
      let named : back.0.id ≡ id = element_named n back.0 id kind back.1 occurs in
      to_itself n id end (back.1 ∙ (λ i. Some record { id = named i; role = role i }))
  resolves_from (suc s) n id kind end h occurs =
      let back = linked_back (map entry_of elements) elements links are n (Leads h.0) h.1 in
      let reference = reference_from_link (map entry_of elements) back.0.role h.0 back.2 in
      let named : back.0.id ≡ id = element_named n back.0 id kind back.1 occurs in
      to_what_it_names n id reference.0 reference.1 end (back.1 ∙ (λ i. Some record { id = named i; role = reference.2 i }))
      (resolves_from s h.0 reference.1 reference.3 end h.2 reference.4)

  pub resolves_by_id : (id : List ℕ) (end : End) → EndsById (map entry_of elements) links id end → Resolves elements id end
  resolves_by_id id end h = resolves_from h.ends.steps h.number id h.kind end h.ends.chain h.occurs
