-- A document breaks no rule and has its flat nets, or has a first broken rule: the rules are decided one after the
-- other, each in all nets where those before it are kept.
use Rattle.std.proofs.Common.{◌≡◌, refl, ap, List, [], ◌∷◌, ℕ, zero, suc, ◌⊎◌, inl, inr, Option, Some, None, slice_get}
use Rattle.std.specs.List.{flat_map, AllByRecursion}
use Rattle.net_values.specs.declared.document.Document.{Document}
use Rattle.net_values.specs.declared.document.NetTree.{NetTree}
use Rattle.net_values.specs.FlatNets.{NetLists}
use Rattle.page_flatten.specs.declared.fault.FlatFault.{FlatFault}
use Rattle.page_flatten.specs.declared.fault.FlatFault.TheVariants.{DuplicateId, UnknownId, RefKind, RefCycle, ArcEnds}
use Rattle.page_flatten.specs.Elements.{entries, mentions, references, arcs}
use Rattle.page_flatten.specs.Rules.{AreDistinct, HasDistinctIds, MentionsNodes, KeepsKinds, EndsChains, JoinsArcs, IsKnown, NamesItsKind, ItsChainEnds, JoinsPlaceAndTransition, IsFirstWithout, IsFirstIn, FirstBroken, ids_in}
use Rattle.page_flatten.specs.Flat.{Flat, LacksNet}
use Rattle.page_flatten.specs.Laws.{HasFlatNet, HasNetOrFault}
use Rattle.page_flatten.proofs.Decisions.{all_or_first, distinct_or_repeated, known_or_not, kind_or_not, chain_or_not, joins_or_not}
use Rattle.page_flatten.proofs.Passes.{none_first}
use Rattle.page_flatten.proofs.NetLists.{each_at, distinct_each}
use Rattle.page_flatten.proofs.SomeNet.{some_net}

-- each member of each net has its property, or there is a first one without it, where this is decided of each net
-- that has what was decided before
module _ {X : Type 0} (list : NetTree → List X) (Property : NetTree → X → Type 0) where
  abbrev Keeps : NetTree → Type 0
  Keeps net = AllByRecursion (Property net) (list net)

  -- the first net that lacks it, one net further
  later : (tree : NetTree) (nets : List NetTree) (x : X) → Keeps tree → IsFirstIn list Property nets x → IsFirstIn list Property (tree ∷ nets) x
  later tree nets x keeps first = record {
    net = first.net;
    net_is = record {
      front = tree ∷ first.net_is.front;
      back = first.net_is.back;
      occurs = ap (λ l. tree ∷ l) first.net_is.occurs;
      before = (keeps, first.net_is.before);
      lacks = first.net_is.lacks;
    };
    first = first.first;
  }

  here : (tree : NetTree) (nets : List NetTree) (x : X) → IsFirstWithout (Property tree) (list tree) x → IsFirstIn list Property (tree ∷ nets) x
  here tree nets x first = record {
    net = tree;
    net_is = record { front = []; back = nets; occurs = refl; before = tt; lacks = λ keeps. none_first (Property tree) (list tree) x keeps first };
    first = first;
  }

  module _ (Before : NetTree → Type 0) (decided : (net : NetTree) → Before net → (x : X) → Property net x ⊎ (Property net x → ⊥)) where
    all_or_first_in : (nets : List NetTree) → AllByRecursion Before nets → AllByRecursion Keeps nets ⊎ ((x : X) × IsFirstIn list Property nets x)
    all_or_first_in [] before = inl tt
    all_or_first_in (tree ∷ nets) before = elim (all_or_first (Property tree) (decided tree before.0) (list tree)) [
      | inl keeps ↦ elim (all_or_first_in nets before.1) [
        | inl all ↦ inl (keeps, all)
        | inr first ↦ inr (first.0, later tree nets first.0 keeps first.1)
      ]
      | inr first ↦ inr (first.0, here tree nets first.0 first.1)
    ]

abbrev Answer : Document → ℕ → Type 0
Answer document k = HasFlatNet document k ⊎ ((fault : FlatFault) × FirstBroken document fault)

-- nothing, and that the ids are distinct and what is mentioned is known
abbrev Nothing : NetTree → Type 0
Nothing net = Unit

abbrev IsLinked : NetTree → Type 0
IsLinked net = HasDistinctIds net × MentionsNodes net

nothing : (nets : List NetTree) → AllByRecursion Nothing nets
nothing [] = tt
nothing (net ∷ nets) = (tt, nothing nets)

linked : (nets : List NetTree) → AllByRecursion HasDistinctIds nets → AllByRecursion MentionsNodes nets → AllByRecursion IsLinked nets
linked [] ids known = tt
linked (net ∷ nets) ids known = ((ids.0, known.0), linked nets ids.1 known.1)

some_or_none : (x : Option NetTree) → ((tree : NetTree) × (x ≡ Some tree)) ⊎ (x ≡ None)
some_or_none None = inr refl
some_or_none (Some tree) = inl (tree, refl)

net_or_none : (document : Document) (k : ℕ) → AllByRecursion JoinsArcs document.nets → ((net : NetLists) × Flat document k net) ⊎ LacksNet document k
net_or_none document zero joins = inr (λ tree chosen. chosen)
net_or_none document (suc n) joins = elim (some_or_none (slice_get document.nets n)) [
  | inl found ↦
      let flat = some_net found.0 (each_at JoinsArcs document.nets n found.0 found.1 joins) in
      inl (flat.0, record { tree = found.0; chosen = found.1; flat = flat.1 })
  | inr none ↦ inr (λ tree chosen. let both : None ≡ Some tree = cc in cc)
]

module _ (document : Document) (k : ℕ) where
  abbrev nets : List NetTree
  nets = document.nets

  from_chains : AreDistinct (ids_in nets) → AllByRecursion MentionsNodes nets → AllByRecursion KeepsKinds nets → AllByRecursion EndsChains nets → Answer document k
  from_chains ids known kinds chains =
      elim
      (all_or_first_in (λ net. flat_map arcs net.items) JoinsPlaceAndTransition IsLinked (λ net is. joins_or_not net is.0 is.1) nets
      (linked nets (distinct_each nets ids) known)) [
        | inl joins ↦ inl (record { ids = ids; mentions = known; kinds = kinds; chains = chains; arcs = joins }, net_or_none document k joins)
        | inr first ↦ inr (ArcEnds first.0.id, (ids, known, kinds, chains, first.0, first.1, refl))
      ]

  from_kinds : AreDistinct (ids_in nets) → AllByRecursion MentionsNodes nets → AllByRecursion KeepsKinds nets → Answer document k
  from_kinds ids known kinds =
      elim
      (all_or_first_in (λ net. flat_map references net.items) ItsChainEnds IsLinked (λ net is. chain_or_not net is.0 is.1) nets
      (linked nets (distinct_each nets ids) known)) [
        | inl chains ↦ from_chains ids known kinds chains
        | inr first ↦ inr (RefCycle first.0.id, (ids, known, kinds, first.0, first.1, refl))
      ]

  from_mentions : AreDistinct (ids_in nets) → AllByRecursion MentionsNodes nets → Answer document k
  from_mentions ids known =
      elim (all_or_first_in (λ net. flat_map references net.items) (λ net. NamesItsKind (entries net)) Nothing (λ net is. kind_or_not (entries net)) nets (nothing nets)) [
        | inl kinds ↦ from_kinds ids known kinds
        | inr first ↦ inr (RefKind first.0.id, (ids, known, first.0, first.1, refl))
      ]

  from_ids : AreDistinct (ids_in nets) → Answer document k
  from_ids ids =
      elim (all_or_first_in (λ net. flat_map mentions net.items) (λ net. IsKnown (entries net)) Nothing (λ net is. known_or_not (entries net)) nets (nothing nets)) [
        | inl known ↦ from_mentions ids known
        | inr first ↦ inr (UnknownId first.0.id first.0.by, (ids, first.1))
      ]

  no_repeats : (m n : ℕ) (id : List ℕ) → slice_get [] m ≡ Some id → slice_get [] n ≡ Some id → m ≡ n
  no_repeats m n id at also = absurd cc

  answer : Answer document k
  answer = elim (distinct_or_repeated [] (ids_in nets) no_repeats) [
    | inl ids ↦ from_ids ids
    | inr first ↦ inr (DuplicateId first.0, first.1)
  ]

pub net_or_fault : HasNetOrFault
net_or_fault document k = answer document k
