-- The elements so far are numbered: those that the items so far begin, after the net itself and the elements of the
-- nets before.
use Rattle.std.proofs.Common.{◌≡◌, refl, sym, ap, ◌∙◌, subst, ℕ, zero, suc, ◌+◌, ◌<◌, ◌≤◌, List, [], ◌∷◌, ◌++◌, Option, Some, None, length, drop, get_or, slice_get, map, append_assoc, inl, inr, arith}
use Rattle.std.specs.List.{flat_map}
use Rattle.std.specs.Option.{option_to_list}
use Rattle.std.proofs.lemmas.List.{append-nil, drop_all, map-append}
use Rattle.net_values.specs.declared.document.NetTree.{NetTree}
use Rattle.net_values.specs.declared.document.Item.{Item}
use Rattle.net_values.specs.declared.node_kind.NodeKind.{NodeKind}
use Rattle.page_flatten.specs.Elements.{Element, NoNode, elements_from, elements, entry_of, entries}
use Rattle.page_flatten.specs.declared.fault.FlatFault.{FlatFault}
use Rattle.page_flatten.specs.declared.fault.FlatFault.TheVariants.{NoMemory, DuplicateId, UnknownId, RefKind, RefCycle, ArcEnds, NoNet}
use Rattle.page_flatten.specs.Rules.{AreDistinct, IsFirstRepeated, ids_of, ids_in}
use Rattle.page_flatten.specs.Passes.{NamesRepeated}
use Rattle.page_flatten.specs.Tables.{table_ids, item_entry, IsNumbered, IsRepeated, places_after, transitions_after}
use Rattle.page_flatten.proofs.Lists.{some_is, from_push}
use Rattle.page_flatten.proofs.LinkLaws.{elements_entry, next_element, last_element}

-- after those of the table that was there
pub record AreNumbersUpTo (old : List (List ℕ × Option NodeKind)) (net : NetTree) (k : ℕ) (numbers : List (List ℕ × Option NodeKind)) : Type 0 where
  pub front : List Element
  pub place : ℕ
  pub transition : ℕ
  pub split : elements net ≡ front ++ elements_from (drop k net.items) place transition
  pub numbered : numbers ≡ old ++ map entry_of front
  pub distinct : AreDistinct (table_ids numbers)

pub distinct_push : (ids : List (List ℕ)) (id : List ℕ) → AreDistinct ids → ((n : ℕ) → slice_get ids n ≡ Some id → ⊥) → AreDistinct (ids ++ id ∷ [])
distinct_push ids id distinct fresh m n one at also =
    elim (from_push ids id m one at) [
      | inl early ↦ elim (from_push ids id n one also) [
        | inl other ↦ distinct m n one early other
        | inr last ↦ absurd (fresh m (early ∙ ap Some (sym last.1)))
      ]
      | inr last ↦ elim (from_push ids id n one also) [
        | inl early ↦ absurd (fresh n (early ∙ ap Some (sym last.1)))
        | inr other ↦ last.0 ∙ sym other.0
      ]
    ]

distinct_more : (old new : List (List ℕ × Option NodeKind)) (entry : Option (List ℕ × Option NodeKind)) → AreDistinct (table_ids old) → IsNumbered old new entry → AreDistinct (table_ids new)
distinct_more old new None distinct is = subst (λ l. AreDistinct (table_ids l)) (sym (is.grown ∙ append-nil old)) distinct
distinct_more old new (Some entry) distinct is =
    subst AreDistinct (sym (ap table_ids is.grown ∙ map-append (λ e. e.0) old (entry ∷ []))) (distinct_push (table_ids old) entry.0 distinct is.fresh)

-- the net itself is the first element
pub numbers_none : (old : List (List ℕ × Option NodeKind)) (net : NetTree) (numbers : List (List ℕ × Option NodeKind)) → AreDistinct (table_ids old) → IsNumbered old numbers (Some (net.id, None)) → AreNumbersUpTo old net 0 numbers
numbers_none old net numbers distinct is = record {
  front = record { id = net.id; role = NoNode } ∷ [];
  place = 0;
  transition = 0;
  split = refl;
  numbered = is.grown;
  distinct = distinct_more old numbers (Some (net.id, None)) distinct is;
}

pub numbers_more : (table : List (List ℕ × Option NodeKind)) (net : NetTree) (k : ℕ) (item : Item) (old new : List (List ℕ × Option NodeKind)) → k < length net.items → item ≡ get_or net.items k item → AreNumbersUpTo table net k old → IsNumbered old new (item_entry item) → AreNumbersUpTo table net (k + 1) new
numbers_more table net k item old new within is before numbered = record {
  front = before.front ++ elements_from (item ∷ []) before.place before.transition;
  place = places_after item before.place;
  transition = transitions_after item before.transition;
  split = next_element net k item before.front before.place before.transition within is before.split;
  numbered =
      numbered.grown ∙ ap (λ l. l ++ option_to_list (item_entry item)) before.numbered
      ∙ append_assoc table (map entry_of before.front) (option_to_list (item_entry item))
      ∙ ap (λ l. table ++ (map entry_of before.front ++ l)) (sym (elements_entry item before.place before.transition))
      ∙ ap (λ l. table ++ l) (sym (map-append entry_of before.front (elements_from (item ∷ []) before.place before.transition)));
  distinct = distinct_more old new (item_entry item) before.distinct numbered;
}

pub numbers_all : (old : List (List ℕ × Option NodeKind)) (net : NetTree) (k : ℕ) (numbers : List (List ℕ × Option NodeKind)) → length net.items ≤ k → AreNumbersUpTo old net k numbers → numbers ≡ old ++ entries net
numbers_all old net k numbers all before = before.numbered ∙ ap (λ l. old ++ map entry_of l) (sym (last_element net k before.front before.place before.transition all before.split))

pub ids_are : (list : List Element) → table_ids (map entry_of list) ≡ map (λ element. element.id) list
ids_are [] = refl
ids_are (element ∷ list) = ap (λ l. element.id ∷ l) (ids_are list)

-- an item whose element has the id of an earlier one is the first repeated
repeated_here : (old : List (List ℕ × Option NodeKind)) (net : NetTree) (k : ℕ) (item : Item) (numbers : List (List ℕ × Option NodeKind)) (id : List ℕ) (kind : Option NodeKind) (n : ℕ) → k < length net.items → item ≡ get_or net.items k item → AreNumbersUpTo old net k numbers → item_entry item ≡ Some (id, kind) → slice_get (table_ids numbers) n ≡ Some id → IsFirstRepeated (table_ids old ++ ids_of net) id
repeated_here old net k item numbers id kind n within is before entry at =
    let rest : List Element = elements_from (drop (k + 1) net.items) (places_after item before.place) (transitions_after item before.transition) in
    let here : List Element = elements_from (item ∷ []) before.place before.transition in
    let named : map entry_of here ≡ (id, kind) ∷ [] = elements_entry item before.place before.transition ∙ ap option_to_list entry in
    let split = next_element net k item before.front before.place before.transition within is before.split in
    let cut : map entry_of (elements net) ≡ map entry_of before.front ++ (id, kind) ∷ map entry_of rest =
    ap (map entry_of) split ∙ map-append entry_of (before.front ++ here) rest
    ∙ ap (λ l. l ++ map entry_of rest) (map-append entry_of before.front here ∙ ap (λ l. map entry_of before.front ++ l) named)
    ∙ append_assoc (map entry_of before.front) ((id, kind) ∷ []) (map entry_of rest) in
    let all : old ++ map entry_of (elements net) ≡ numbers ++ (id, kind) ∷ map entry_of rest =
    ap (λ l. old ++ l) cut ∙ sym (append_assoc old (map entry_of before.front) ((id, kind) ∷ map entry_of rest))
    ∙ ap (λ l. l ++ (id, kind) ∷ map entry_of rest) (sym before.numbered) in
    record {
      front = table_ids numbers;
      back = table_ids (map entry_of rest);
      occurs =
          ap (λ l. table_ids old ++ l) (sym (ids_are (elements net))) ∙ sym (map-append (λ e. e.0) old (map entry_of (elements net)))
          ∙ ap table_ids all ∙ map-append (λ e. e.0) numbers ((id, kind) ∷ map entry_of rest);
      before = before.distinct;
      earlier = n;
      repeated = at;
    }

-- and so is the net itself
repeated_net : (old : List (List ℕ × Option NodeKind)) (net : NetTree) (id : List ℕ) (kind : Option NodeKind) (n : ℕ) → AreDistinct (table_ids old) → ◌≡◌ {A = Option (List ℕ × Option NodeKind)} (Some (net.id, None)) (Some (id, kind)) → slice_get (table_ids old) n ≡ Some id → IsFirstRepeated (table_ids old ++ ids_of net) id
repeated_net old net id kind n distinct entry at =
    let both : ◌≡◌ {A = List ℕ × Option NodeKind} (net.id, None) (id, kind) = some_is entry in
    let same : net.id ≡ id = ap (λ (e : List ℕ × Option NodeKind). e.0) both in
    record {
      front = table_ids old;
      back = map (λ element. element.id) (elements_from net.items 0 0);
      occurs = ap (λ first. table_ids old ++ first ∷ map (λ element. element.id) (elements_from net.items 0 0)) same;
      before = distinct;
      earlier = n;
      repeated = at;
    }

-- so the fault at an item is that of the numbering
pub repeated_item : (old : List (List ℕ × Option NodeKind)) (net : NetTree) (k : ℕ) (item : Item) (numbers : List (List ℕ × Option NodeKind)) → k < length net.items → item ≡ get_or net.items k item → AreNumbersUpTo old net k numbers → (fault : FlatFault) → IsRepeated numbers (item_entry item) fault → NamesRepeated (table_ids old ++ ids_of net) fault
repeated_item old net k item numbers within is before NoMemory h = tt
repeated_item old net k item numbers within is before (DuplicateId id) h = repeated_here old net k item numbers id h.0 h.2 within is before h.1 h.3
repeated_item old net k item numbers within is before (UnknownId id by) h = absurd h
repeated_item old net k item numbers within is before (RefKind id) h = absurd h
repeated_item old net k item numbers within is before (RefCycle id) h = absurd h
repeated_item old net k item numbers within is before (ArcEnds id) h = absurd h
repeated_item old net k item numbers within is before (NoNet count) h = absurd h

pub repeated_first : (old : List (List ℕ × Option NodeKind)) (net : NetTree) → AreDistinct (table_ids old) → (fault : FlatFault) → IsRepeated old (Some (net.id, None)) fault → NamesRepeated (table_ids old ++ ids_of net) fault
repeated_first old net distinct NoMemory h = tt
repeated_first old net distinct (DuplicateId id) h = repeated_net old net id h.0 h.2 distinct h.1 h.3
repeated_first old net distinct (UnknownId id by) h = absurd h
repeated_first old net distinct (RefKind id) h = absurd h
repeated_first old net distinct (RefCycle id) h = absurd h
repeated_first old net distinct (ArcEnds id) h = absurd h
repeated_first old net distinct (NoNet count) h = absurd h

-- ---- the ids of all nets

-- the nets so far are numbered in one table
pub record AreAllNumbersUpTo (nets : List NetTree) (k : ℕ) (numbers : List (List ℕ × Option NodeKind)) : Type 0 where
  pub split : flat_map entries nets ≡ numbers ++ flat_map entries (drop k nets)
  pub distinct : AreDistinct (table_ids numbers)

all_ids_are : (nets : List NetTree) → table_ids (flat_map entries nets) ≡ ids_in nets
all_ids_are [] = refl
all_ids_are (net ∷ nets) =
    map-append (λ e. e.0) (entries net) (flat_map entries nets) ∙ ap (λ l. l ++ table_ids (flat_map entries nets)) (ids_are (elements net)) ∙ ap (λ l. ids_of net ++ l) (all_ids_are nets)

after_net : (nets : List NetTree) (k : ℕ) (net : NetTree) → slice_get nets k ≡ Some net → flat_map entries (drop k nets) ≡ entries net ++ flat_map entries (drop (suc k) nets)
after_net [] k net at = absurd cc
after_net (tree ∷ nets) zero net at = ap (λ t. entries t ++ flat_map entries nets) (some_is at)
after_net (tree ∷ nets) (suc k) net at = after_net nets k net at

next_net : (nets : List NetTree) (k : ℕ) (net : NetTree) → slice_get nets k ≡ Some net → flat_map entries (drop k nets) ≡ entries net ++ flat_map entries (drop (k + 1) nets)
next_net nets k net at =
    let more : suc k ≡ k + 1 = omega arith in
    after_net nets k net at ∙ ap (λ n. entries net ++ flat_map entries (drop n nets)) more

pub all_none : (nets : List NetTree) → AreAllNumbersUpTo nets 0 []
all_none nets = record { split = refl; distinct = λ m n id at. absurd cc }

pub all_more : (nets : List NetTree) (k : ℕ) (net : NetTree) (old new : List (List ℕ × Option NodeKind)) → slice_get nets k ≡ Some net → AreAllNumbersUpTo nets k old → new ≡ old ++ entries net → AreDistinct (table_ids new) → AreAllNumbersUpTo nets (k + 1) new
all_more nets k net old new at before grown distinct = record {
  split =
      before.split ∙ ap (λ l. old ++ l) (next_net nets k net at) ∙ sym (append_assoc old (entries net) (flat_map entries (drop (k + 1) nets)))
      ∙ ap (λ l. l ++ flat_map entries (drop (k + 1) nets)) (sym grown);
  distinct = distinct;
}

pub all_ids : (nets : List NetTree) (k : ℕ) (numbers : List (List ℕ × Option NodeKind)) → length nets ≤ k → AreAllNumbersUpTo nets k numbers → AreDistinct (ids_in nets)
all_ids nets k numbers all before =
    let whole : flat_map entries nets ≡ numbers = before.split ∙ ap (λ l. numbers ++ flat_map entries l) (drop_all k nets all) ∙ append-nil numbers in
    subst AreDistinct (sym (ap table_ids whole) ∙ all_ids_are nets) before.distinct

repeated_so_far : (nets : List NetTree) (k : ℕ) (net : NetTree) (old : List (List ℕ × Option NodeKind)) (id : List ℕ) → slice_get nets k ≡ Some net → AreAllNumbersUpTo nets k old → IsFirstRepeated (table_ids old ++ ids_of net) id → IsFirstRepeated (ids_in nets) id
repeated_so_far nets k net old id at before first =
    let rest : List (List ℕ) = ids_in (drop (k + 1) nets) in
    let ids : ids_in nets ≡ (table_ids old ++ ids_of net) ++ rest =
    sym (all_ids_are nets) ∙ ap table_ids (before.split ∙ ap (λ l. old ++ l) (next_net nets k net at))
    ∙ map-append (λ e. e.0) old (entries net ++ flat_map entries (drop (k + 1) nets))
    ∙ ap (λ l. table_ids old ++ l) (map-append (λ e. e.0) (entries net) (flat_map entries (drop (k + 1) nets)) ∙ ap (λ l. l ++ table_ids (flat_map entries (drop (k + 1) nets))) (ids_are (elements net)) ∙ ap (λ l. ids_of net ++ l) (all_ids_are (drop (k + 1) nets)))
    ∙ sym (append_assoc (table_ids old) (ids_of net) rest) in
    record {
      front = first.front;
      back = first.back ++ rest;
      occurs = ids ∙ ap (λ l. l ++ rest) first.occurs ∙ append_assoc first.front (id ∷ first.back) rest;
      before = first.before;
      earlier = first.earlier;
      repeated = first.repeated;
    }

-- the fault at a net is that of the numbering of all
pub repeated_in : (nets : List NetTree) (k : ℕ) (net : NetTree) (old : List (List ℕ × Option NodeKind)) → slice_get nets k ≡ Some net → AreAllNumbersUpTo nets k old → (fault : FlatFault) → NamesRepeated (table_ids old ++ ids_of net) fault → NamesRepeated (ids_in nets) fault
repeated_in nets k net old at before NoMemory h = tt
repeated_in nets k net old at before (DuplicateId id) h = repeated_so_far nets k net old id at before h
repeated_in nets k net old at before (UnknownId id by) h = absurd h
repeated_in nets k net old at before (RefKind id) h = absurd h
repeated_in nets k net old at before (RefCycle id) h = absurd h
repeated_in nets k net old at before (ArcEnds id) h = absurd h
repeated_in nets k net old at before (NoNet count) h = absurd h
