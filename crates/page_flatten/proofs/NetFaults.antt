-- What the fault of a pass over one net says of the document.
use Rattle.std.proofs.Common.{◌≡◌, ℕ, List, Some, take, slice_get}
use Rattle.std.specs.List.{flat_map, AllByRecursion}
use Rattle.net_values.specs.declared.document.NetTree.{NetTree}
use Rattle.net_values.specs.declared.document.Document.{Document}
use Rattle.page_flatten.specs.declared.fault.FlatFault.{FlatFault}
use Rattle.page_flatten.specs.declared.fault.FlatFault.TheVariants.{NoMemory, DuplicateId, UnknownId, RefKind, RefCycle, ArcEnds, NoNet}
use Rattle.page_flatten.specs.Elements.{entries, mentions, references, arcs}
use Rattle.page_flatten.specs.Rules.{AreDistinct, ids_in, ids_of, MentionsNodes, KeepsKinds, EndsChains, JoinsArcs, IsKnown, NamesItsKind, ItsChainEnds, JoinsPlaceAndTransition, IsAnswered}
use Rattle.page_flatten.specs.Tables.{IsFirstUnknown, IsFirstOfWrongKind}
use Rattle.page_flatten.specs.declared.rules.NameRule.{NameRule}
use Rattle.page_flatten.specs.declared.rules.NameRule.TheVariants.{Mentions, Kinds}
use Rattle.page_flatten.specs.Names.{looked, KeepsRule, IsFirstBreaking, NamesBroken}
use Rattle.page_flatten.specs.Passes.{NamesRepeated, NamesUnknown, NamesWrongKind, NamesEndless, NamesMisjoined, NamesUnending, NamesWrongArc}
use Rattle.page_flatten.proofs.NetLists.{first_in, distinct_at}
use Rattle.page_flatten.proofs.OneAnswer.{none_repeated}

-- what is said of a fault in one way is said of it in another, if it is of each fault
by_fault : (P Q : FlatFault → Type 0) → Q NoMemory → ((id : List ℕ) → P (DuplicateId id) → Q (DuplicateId id)) → ((id by : List ℕ) → P (UnknownId id by) → Q (UnknownId id by)) → ((id : List ℕ) → P (RefKind id) → Q (RefKind id))
    → ((id : List ℕ) → P (RefCycle id) → Q (RefCycle id)) → ((id : List ℕ) → P (ArcEnds id) → Q (ArcEnds id)) → ((count : ℕ) → P (NoNet count) → Q (NoNet count)) → (fault : FlatFault) → P fault → Q fault
by_fault P Q memory repeated unknown kind cycle ends none NoMemory h = memory
by_fault P Q memory repeated unknown kind cycle ends none (DuplicateId id) h = repeated id h
by_fault P Q memory repeated unknown kind cycle ends none (UnknownId id by) h = unknown id by h
by_fault P Q memory repeated unknown kind cycle ends none (RefKind id) h = kind id h
by_fault P Q memory repeated unknown kind cycle ends none (RefCycle id) h = cycle id h
by_fault P Q memory repeated unknown kind cycle ends none (ArcEnds id) h = ends id h
by_fault P Q memory repeated unknown kind cycle ends none (NoNet count) h = none count h

-- from the fault at the net of a number, where the nets before keep the rule
module _ (nets : List NetTree) (k : ℕ) (net : NetTree) (at : slice_get nets k ≡ Some net) where
  unknown_in : AllByRecursion MentionsNodes (take k nets) → (fault : FlatFault) → IsFirstUnknown (entries net) (flat_map mentions net.items) fault → NamesUnknown nets fault
  unknown_in passed =
      by_fault (IsFirstUnknown (entries net) (flat_map mentions net.items)) (NamesUnknown nets) tt (λ id h. absurd h) (λ id by h. first_in (λ tree. flat_map mentions tree.items) (λ tree. IsKnown (entries tree)) nets k net _ at passed h) (λ id h. absurd h) (λ id h. absurd h) (λ id h. absurd h) (λ count h. absurd h)

  wrong_kind_in : AllByRecursion KeepsKinds (take k nets) → (fault : FlatFault) → IsFirstOfWrongKind (entries net) (flat_map references net.items) fault → NamesWrongKind nets fault
  wrong_kind_in passed =
      by_fault (IsFirstOfWrongKind (entries net) (flat_map references net.items)) (NamesWrongKind nets) tt (λ id h. absurd h) (λ id by h. absurd h) (λ id h. (h.0, first_in (λ tree. flat_map references tree.items) (λ tree. NamesItsKind (entries tree)) nets k net h.0 at passed h.1, h.2)) (λ id h. absurd h) (λ id h. absurd h) (λ count h. absurd h)

  pub broken_in : (rule : NameRule) → AllByRecursion (KeepsRule rule) (take k nets) → (fault : FlatFault) → IsFirstBreaking rule (entries net) (flat_map (looked rule) net.items) fault → NamesBroken rule nets fault
  broken_in Mentions = unknown_in
  broken_in Kinds = wrong_kind_in

  pub endless_in : AllByRecursion EndsChains (take k nets) → (fault : FlatFault) → NamesUnending net fault → NamesEndless nets fault
  endless_in passed =
      by_fault (NamesUnending net) (NamesEndless nets) tt (λ id h. absurd h) (λ id by h. absurd h) (λ id h. absurd h) (λ id h. (h.0, first_in (λ tree. flat_map references tree.items) ItsChainEnds nets k net h.0 at passed h.1, h.2)) (λ id h. absurd h) (λ count h. absurd h)

  pub misjoined_in : (number : ℕ) → AllByRecursion JoinsArcs (take k nets) → (fault : FlatFault) → NamesWrongArc net fault → NamesMisjoined nets number fault
  misjoined_in number passed =
      by_fault (NamesWrongArc net) (NamesMisjoined nets number) tt (λ id h. absurd h) (λ id by h. absurd h) (λ id h. absurd h) (λ id h. absurd h) (λ id h. (h.0, first_in (λ tree. flat_map arcs tree.items) JoinsPlaceAndTransition nets k net h.0 at passed h.1, h.2)) (λ count h. absurd h)

  -- a net of a document with distinct ids has no repeated one
  pub not_repeated : AreDistinct (ids_in nets) → (fault : FlatFault) → NamesRepeated (ids_of net) fault → NamesRepeated (ids_in nets) fault
  not_repeated distinct =
      by_fault (NamesRepeated (ids_of net)) (NamesRepeated (ids_in nets)) tt (λ id h. absurd (none_repeated (ids_of net) id (distinct_at nets k net at distinct) h)) (λ id by h. absurd h) (λ id h. absurd h) (λ id h. absurd h) (λ id h. absurd h) (λ count h. absurd h)

-- the fault of a pass over all nets, where those before it found none, is one that may be answered
module _ (document : Document) (number : ℕ) where
  pub repeated_answered : (fault : FlatFault) → NamesRepeated (ids_in document.nets) fault → IsAnswered document number fault
  repeated_answered =
      by_fault (NamesRepeated (ids_in document.nets)) (IsAnswered document number) tt (λ id h. h) (λ id by h. absurd h) (λ id h. absurd h) (λ id h. absurd h) (λ id h. absurd h) (λ count h. absurd h)

  module _ (ids : AreDistinct (ids_in document.nets)) where
    pub unknown_answered : (fault : FlatFault) → NamesUnknown document.nets fault → IsAnswered document number fault
    unknown_answered =
        by_fault (NamesUnknown document.nets) (IsAnswered document number) tt (λ id h. absurd h) (λ id by h. (ids, h)) (λ id h. absurd h) (λ id h. absurd h) (λ id h. absurd h) (λ count h. absurd h)

    module _ (known : AllByRecursion MentionsNodes document.nets) where
      pub wrong_kind_answered : (fault : FlatFault) → NamesWrongKind document.nets fault → IsAnswered document number fault
      wrong_kind_answered =
          by_fault (NamesWrongKind document.nets) (IsAnswered document number) tt (λ id h. absurd h) (λ id by h. absurd h) (λ id h. (ids, known, h.0, h.1, h.2)) (λ id h. absurd h) (λ id h. absurd h) (λ count h. absurd h)

      module _ (kinds : AllByRecursion KeepsKinds document.nets) where
        pub endless_answered : (fault : FlatFault) → NamesEndless document.nets fault → IsAnswered document number fault
        endless_answered =
            by_fault (NamesEndless document.nets) (IsAnswered document number) tt (λ id h. absurd h) (λ id by h. absurd h) (λ id h. absurd h) (λ id h. (ids, known, kinds, h.0, h.1, h.2)) (λ id h. absurd h) (λ count h. absurd h)

        pub misjoined_answered : AllByRecursion EndsChains document.nets → (fault : FlatFault) → NamesMisjoined document.nets number fault → IsAnswered document number fault
        misjoined_answered chains =
            by_fault (NamesMisjoined document.nets number) (IsAnswered document number) tt (λ id h. absurd h) (λ id by h. absurd h) (λ id h. absurd h) (λ id h. absurd h) (λ id h. (ids, known, kinds, chains, h.0, h.1, h.2)) (λ count h. (record { ids = ids; mentions = known; kinds = kinds; chains = chains; arcs = h.0 }, h.1, h.2))
