-- Arcs that were added one after another: the weights are sums over all of them.
use Rattle.std.proofs.Common.{◌≡◌, refl, sym, ap, ◌∙◌, subst, ℕ, ◌+◌, ◌<◌, ◌≤◌, ◌==◌, ◌&&◌, if◌then◌else◌, Bool, true, false, List, [], ◌∷◌, ◌++◌, Option, Some, None, IfSome, IfNone, length, drop, get_or, append_assoc, length-append, arith}
use Rattle.std.specs.List.{flat_map, AllByRecursion, AllZip}
use Rattle.std.proofs.lemmas.List.{append-nil, drop_all, length-map}
use Rattle.std.proofs.lemmas.List.Sums.{sum_by-append}
use Rattle.net_values.specs.declared.document.Item.{Item}
use Rattle.net_values.specs.declared.document.ArcNode.{ArcNode}
use Rattle.net_values.specs.FlatNets.{NetLists, KeepsNodes, AddsInput, AddsOutput}
use Rattle.pnml_grammar.specs.Valued.{HasValuesInRange}
use Rattle.pnml_grammar.proofs.EachLaws.{each_append}
use Rattle.page_flatten.specs.declared.links.End.{End}
use Rattle.page_flatten.specs.declared.links.End.TheVariants.{AtPlace, AtTransition}
use Rattle.page_flatten.specs.Joints.{IsJoint, joint_between}
use Rattle.page_flatten.specs.Rules.{AreDistinct, IsPlaceAndTransition}
use Rattle.page_flatten.specs.declared.links.Link.{Link}
use Rattle.net_values.specs.declared.node_kind.NodeKind.{NodeKind}
use Rattle.page_flatten.specs.Elements.{arcs}
use Rattle.page_flatten.specs.Flat.{weight_between}
use Rattle.page_flatten.specs.Tables.{table_ids, EndsById, LinksJoin, LinksStayWithin, IsEndWithin, IsResolvedBy, AddsArcs}
use Rattle.page_flatten.proofs.ChainLaws.{one_end, ends_at_number}
use Rattle.page_flatten.proofs.Passes.{Passed, item_and_rest}

zip_append : {A B : Type 0} (R : A → B → Type 0) (xs us : List A) (ys vs : List B) → AllZip R xs ys → AllZip R us vs → AllZip R (xs ++ us) (ys ++ vs)
zip_append R [] us [] vs a b = b
zip_append R [] us (y ∷ ys) vs a b = absurd a
zip_append R (x ∷ xs) us [] vs a b = absurd a
zip_append R (x ∷ xs) us (y ∷ ys) vs a b = (a.0, zip_append R xs us ys vs a.1 b)

keeps_then : (old mid new : NetLists) → KeepsNodes old mid → KeepsNodes mid new → KeepsNodes old new
keeps_then old mid new a b = record { places = b.places ∙ a.places; transitions = b.transitions ∙ a.transitions }

-- as many places and transitions are there as before
pub kept_places : (old new : NetLists) → KeepsNodes old new → length new.places ≡ length old.places
kept_places old new kept = ap length kept.places

pub kept_transitions : (old new : NetLists) → KeepsNodes old new → length new.transitions ≡ length old.transitions
kept_transitions old new kept =
    sym (length-map new.transitions (λ transition. transition.id)) ∙ ap length kept.transitions ∙ length-map old.transitions (λ transition. transition.id)

pub either_order : (a b : Bool) (n : ℕ) → (if a && b then n else 0) ≡ (if b && a then n else 0)
either_order true true n = refl
either_order true false n = refl
either_order false true n = refl
either_order false false n = refl

module _ (table : List (List ℕ × Option NodeKind)) (links : List Link) where
  pub adds_none : (net : NetLists) → AddsArcs table links [] net net
  adds_none net = record {
    flat_arcs = [];
    resolved = tt;
    joined = tt;
    pre = λ p t. omega arith;
    post = λ p t. omega arith;
    nodes = record { places = refl; transitions = refl };
    count = omega arith;
  }

  pub adds_then : (xs ys : List ArcNode) (old mid new : NetLists) → AddsArcs table links xs old mid → AddsArcs table links ys mid new → AddsArcs table links (xs ++ ys) old new
  adds_then xs ys old mid new a b = record {
    flat_arcs = a.flat_arcs ++ b.flat_arcs;
    resolved = zip_append (IsResolvedBy table links) xs ys a.flat_arcs b.flat_arcs a.resolved b.resolved;
    joined = each_append (LinksJoin table links) xs ys a.joined b.joined;
    pre = λ p t. omega (arith, a.pre p t, b.pre p t, sum_by-append (weight_between (AtPlace p) (AtTransition t)) a.flat_arcs b.flat_arcs);
    post = λ p t. omega (arith, a.post p t, b.post p t, sum_by-append (weight_between (AtTransition t) (AtPlace p)) a.flat_arcs b.flat_arcs);
    nodes = keeps_then old mid new a.nodes b.nodes;
    count = omega (arith, a.count, b.count, length-append xs ys);
  }

  pub input_arc : (arc : ArcNode) (p t : ℕ) (old new : NetLists) → EndsById table links arc.source (AtPlace p) → EndsById table links arc.target (AtTransition t) → AddsInput old new p t arc.weight → AddsArcs table links (arc ∷ []) old new
  input_arc arc p t old new source target adds = record {
    flat_arcs = record { source = AtPlace p; target = AtTransition t; weight = arc.weight } ∷ [];
    resolved = (record { source = source; target = target; weight = refl }, tt);
    joined = (record { source = AtPlace p; target = AtTransition t; source_ends = source; target_ends = target; apart = tt }, tt);
    pre = λ q u. omega (arith, adds.pre q u);
    post = λ q u. omega (arith, adds.post q u);
    nodes = adds.nodes;
    count = adds.arcs;
  }

  pub output_arc : (arc : ArcNode) (t p : ℕ) (old new : NetLists) → EndsById table links arc.source (AtTransition t) → EndsById table links arc.target (AtPlace p) → AddsOutput old new t p arc.weight → AddsArcs table links (arc ∷ []) old new
  output_arc arc t p old new source target adds = record {
    flat_arcs = record { source = AtTransition t; target = AtPlace p; weight = arc.weight } ∷ [];
    resolved = (record { source = source; target = target; weight = refl }, tt);
    joined = (record { source = AtTransition t; target = AtPlace p; source_ends = source; target_ends = target; apart = tt }, tt);
    pre = λ q u. omega (arith, adds.pre q u);
    post = λ q u. omega (arith, adds.post q u, either_order (q == p) (u == t) arc.weight);
    nodes = adds.nodes;
    count = adds.arcs;
  }

  -- the arcs of the items so far were added, and those after fit
  pub record HasArcsUpTo (items : List Item) (k : ℕ) (old new : NetLists) : Type 0 where
    pub front : List ArcNode
    pub split : flat_map arcs items ≡ front ++ flat_map arcs (drop k items)
    pub adds : AddsArcs table links front old new
    pub values : AllByRecursion HasValuesInRange (drop k items)

module _ (table : List (List ℕ × Option NodeKind)) (links : List Link) (items : List Item) where
  pub arcs_none : (net : NetLists) → AllByRecursion HasValuesInRange items → HasArcsUpTo table links items 0 net net
  arcs_none net values = record { front = []; split = refl; adds = adds_none table links net; values = values }

  -- the item at k has its values in range
  pub values_here : (k : ℕ) (item : Item) → k < length items → item ≡ get_or items k item → AllByRecursion HasValuesInRange (drop k items) → HasValuesInRange item × AllByRecursion HasValuesInRange (drop (k + 1) items)
  values_here k item within is values = subst (AllByRecursion HasValuesInRange) (item_and_rest items k item within is) values

  split_here : (k : ℕ) (item : Item) (front : List ArcNode) → k < length items → item ≡ get_or items k item → flat_map arcs items ≡ front ++ flat_map arcs (drop k items) → flat_map arcs items ≡ (front ++ arcs item) ++ flat_map arcs (drop (k + 1) items)
  split_here k item front within is split =
      split ∙ ap (λ l. front ++ flat_map arcs l) (item_and_rest items k item within is) ∙ sym (append_assoc front (arcs item) (flat_map arcs (drop (k + 1) items)))

  pub arcs_more : (k : ℕ) (item : Item) (old mid new : NetLists) → k < length items → item ≡ get_or items k item → HasArcsUpTo table links items k old mid → AddsArcs table links (arcs item) mid new → HasArcsUpTo table links items (k + 1) old new
  arcs_more k item old mid new within is before adds = record {
    front = before.front ++ arcs item;
    split = split_here k item before.front within is before.split;
    adds = adds_then table links before.front (arcs item) old mid new before.adds adds;
    values = (values_here k item within is before.values).1;
  }

  pub arcs_all : (k : ℕ) (old new : NetLists) → length items ≤ k → HasArcsUpTo table links items k old new → AddsArcs table links (flat_map arcs items) old new
  arcs_all k old new all before =
      let whole : flat_map arcs items ≡ before.front = before.split ∙ ap (λ l. before.front ++ flat_map arcs l) (drop_all k items all) ∙ append-nil before.front in
      subst (λ l. AddsArcs table links l old new) (sym whole) before.adds

  -- the arcs so far join places and transitions
  pub arcs_passed : (k : ℕ) (old mid : NetLists) → HasArcsUpTo table links items k old mid → Passed arcs (LinksJoin table links) items k
  arcs_passed k old mid before = record { front = before.front; split = before.split; each = before.adds.joined }

  -- the arcs of the item at k are not more than what is left
  pub arcs_fit : (k : ℕ) (item : Item) (old mid : NetLists) → k < length items → item ≡ get_or items k item → HasArcsUpTo table links items k old mid → mid.arcs + length (arcs item) ≤ old.arcs + length (flat_map arcs items)
  arcs_fit k item old mid within is before =
      let whole : length (flat_map arcs items) ≡ length before.front + length (arcs item) + length (flat_map arcs (drop (k + 1) items)) =
      ap length (split_here k item before.front within is before.split) ∙ length-append (before.front ++ arcs item) (flat_map arcs (drop (k + 1) items)) ∙ ap (λ n. n + length (flat_map arcs (drop (k + 1) items))) (length-append before.front (arcs item)) in
      omega (arith, before.adds.count)

-- ends stay within a net that keeps its nodes
pub still_within : (links : List Link) (old new : NetLists) → KeepsNodes old new → LinksStayWithin (length old.places) (length old.transitions) links → LinksStayWithin (length new.places) (length new.transitions) links
still_within links old new kept stays n end ends =
    let places = kept_places old new kept in
    let transitions = kept_transitions old new kept in
    subst (λ p. IsEndWithin p (length new.transitions) end) (sym places) (subst (λ t. IsEndWithin (length old.places) t end) (sym transitions) (stays n end ends))

-- what the chains of two ids end in says what an arc between them joins, since each has one end
module _ (table : List (List ℕ × Option NodeKind)) (links : List Link) (distinct : AreDistinct (table_ids table)) where
  one_end_by_id : (id : List ℕ) (a b : End) → EndsById table links id a → EndsById table links id b → a ≡ b
  one_end_by_id id a b h k =
      let other = ends_at_number table links distinct h.number id (Some h.kind) b h.occurs k in
      (one_end h.ends.steps other.steps links h.number a b h.ends.chain other.chain).1

  alike : (arc : ArcNode) (source target : End) → (IsPlaceAndTransition source target → ⊥) → EndsById table links arc.source source → EndsById table links arc.target target → LinksJoin table links arc → ⊥
  alike arc source target same from to joins =
      let start = one_end_by_id arc.source joins.source source joins.source_ends from in
      let stop = one_end_by_id arc.target joins.target target joins.target_ends to in
      same (subst (λ e. IsPlaceAndTransition e target) start (subst (IsPlaceAndTransition joins.source) stop joins.apart))

  pub is_joint : (arc : ArcNode) (source target : Option End)
      → IfSome source (EndsById table links arc.source) → IfNone source ((end : End) → EndsById table links arc.source end → ⊥)
      → IfSome target (EndsById table links arc.target) → IfNone target ((end : End) → EndsById table links arc.target end → ⊥)
      → IsJoint table links arc (joint_between source target)
  is_joint arc None target from no_from to no_to = λ joins. no_from joins.source joins.source_ends
  is_joint arc (Some (AtPlace p)) None from no_from to no_to = λ joins. no_to joins.target joins.target_ends
  is_joint arc (Some (AtTransition t)) None from no_from to no_to = λ joins. no_to joins.target joins.target_ends
  is_joint arc (Some (AtPlace p)) (Some (AtTransition t)) from no_from to no_to = (from, to)
  is_joint arc (Some (AtTransition t)) (Some (AtPlace p)) from no_from to no_to = (from, to)
  is_joint arc (Some (AtPlace p)) (Some (AtPlace q)) from no_from to no_to = alike arc (AtPlace p) (AtPlace q) (λ h. h) from to
  is_joint arc (Some (AtTransition t)) (Some (AtTransition u)) from no_from to no_to = alike arc (AtTransition t) (AtTransition u) (λ h. h) from to
