-- The document of the sample net breaks no rule: the number of an element is read back from its id, so that ids
-- are distinct, and each arc leads from a place to a transition or back.
use Rattle.std.proofs.Common.{◌≡◌, ℕ, zero, suc, ◌+◌, ◌-◌, ◌*◌, ◌/◌, ◌%◌, ◌<◌, ◌^◌, List, [], ◌∷◌, ◌++◌, Some, None, map, drop, get_or, refl, sym, ap, subst, append-nil, ◌∙◌, arith, inl, inr}
use Rattle.std.specs.Prelude.{slice_get, codes, decimal, if◌then◌else◌, ◌==◌}
use Rattle.std.specs.List.{flat_map, range_with_len, AllByRecursion}
use Rattle.std.specs.Str.Parse.{digits_value}
use Rattle.std.proofs.lemmas.Bool.{cases_lt}
use Rattle.std.proofs.lemmas.Fmt.{decimal_is_IsNumeral}
use Rattle.std.proofs.Math.Nat.{mod-lt}
use Rattle.net_values.specs.declared.document.Item.{Item}
use Rattle.net_values.specs.declared.document.Item.TheVariants.{PageEnd}
use Rattle.net_values.specs.declared.document.NetTree.{NetTree}
use Rattle.net_values.specs.declared.node_kind.NodeKind.TheVariants as kinds
use Rattle.page_flatten.specs.declared.links.End.TheVariants.{AtPlace, AtTransition}
use Rattle.page_flatten.specs.Elements.{Element, Role, NoNode, Real, elements, elements_from, entries, entry_of, mentions, references, arcs}
use Rattle.page_flatten.specs.Chains.{Resolves, to_itself}
use Rattle.page_flatten.specs.Rules.{NamesNode, IsKnown, NamesItsKind, ItsChainEnds, JoinsPlaceAndTransition, AreDistinct, ids_of, HasDistinctIds, BreaksNoRule}
use Rattle.page_flatten.proofs.Lists.{some_is, get_map, from_map}
use Rattle.struct_core.specs.Sample.{numbered, place, transitions_of, arcs_of, sample_items, sample_tree, sample_document}
use Rattle.struct_core.proofs.SampleLists.{element, place_found, places_passed, take_found, release_found, transitions_passed, arc_found, arcs_passed}
use Rattle.struct_core.proofs.SampleItems.{Nodes, every_item, all_over}

module _ (n : ℕ) where
  abbrev net : NetTree
  net = sample_tree n

  -- ---- what occurs at which number

  abbrev after_arcs : List Item
  after_arcs = PageEnd ∷ []

  abbrev after_transitions : List Item
  after_transitions = flat_map (arcs_of n) (range_with_len 0 n) ++ after_arcs

  abbrev after_eats : List Item
  after_eats = flat_map transitions_of (range_with_len 0 n) ++ after_transitions

  abbrev after_forks : List Item
  after_forks = map (place (codes "eat") 0) (range_with_len 0 n) ++ after_eats

  abbrev after_thinks : List Item
  after_thinks = map (place (codes "fork") 1) (range_with_len 0 n) ++ after_forks

  abbrev on_page : List Item
  on_page = map (place (codes "think") 1) (range_with_len 0 n) ++ after_thinks

  past_thinks : (j i : ℕ) → j ≡ n + i → slice_get (elements_from on_page 0 0) j ≡ slice_get (elements_from after_thinks n 0) i
  past_thinks j i e = places_passed (codes "think") 1 0 n after_thinks 0 0 j i n e (omega arith)

  past_forks : (j i : ℕ) → j ≡ 2 * n + i → slice_get (elements_from on_page 0 0) j ≡ slice_get (elements_from after_forks (2 * n) 0) i
  past_forks j i e =
      past_thinks j (n + i) (omega (arith, e)) ∙ places_passed (codes "fork") 1 0 n after_forks n 0 (n + i) i (2 * n) refl (omega arith)

  past_eats : (j i : ℕ) → j ≡ 3 * n + i → slice_get (elements_from on_page 0 0) j ≡ slice_get (elements_from after_eats (3 * n) 0) i
  past_eats j i e =
      past_forks j (n + i) (omega (arith, e)) ∙ places_passed (codes "eat") 0 0 n after_eats (2 * n) 0 (n + i) i (3 * n) refl (omega arith)

  past_transitions : (j i : ℕ) → j ≡ 5 * n + i → slice_get (elements_from on_page 0 0) j ≡ slice_get (elements_from after_transitions (3 * n) (2 * n)) i
  past_transitions j i e =
      past_eats j (2 * n + i) (omega (arith, e)) ∙ transitions_passed 0 n after_transitions (3 * n) 0 (2 * n + i) i (2 * n) refl (omega arith)

  past_arcs : (j i : ℕ) → j ≡ 13 * n + i → slice_get (elements_from on_page 0 0) j ≡ slice_get (elements_from after_arcs (3 * n) (2 * n)) i
  past_arcs j i e =
      past_transitions j (8 * n + i) (omega (arith, e)) ∙ arcs_passed n 0 n after_arcs (3 * n) (2 * n) (8 * n + i) i refl

  think_at : (j i : ℕ) → j ≡ i → i < n → slice_get (elements_from on_page 0 0) j ≡ Some (element (numbered (codes "think") i) (Real (AtPlace i)))
  think_at j i e below = place_found (codes "think") 1 0 n after_thinks 0 0 j i i (omega (arith, e, below)) (omega (arith, e)) (omega (arith, e))

  fork_at : (j i : ℕ) → j ≡ n + i → i < n → slice_get (elements_from on_page 0 0) j ≡ Some (element (numbered (codes "fork") i) (Real (AtPlace (n + i))))
  fork_at j i e below = past_thinks j i e ∙ place_found (codes "fork") 1 0 n after_forks n 0 i i (n + i) below (omega arith) refl

  eat_at : (j i : ℕ) → j ≡ 2 * n + i → i < n → slice_get (elements_from on_page 0 0) j ≡ Some (element (numbered (codes "eat") i) (Real (AtPlace (2 * n + i))))
  eat_at j i e below = past_forks j i e ∙ place_found (codes "eat") 0 0 n after_eats (2 * n) 0 i i (2 * n + i) below (omega arith) refl

  take_at : (j i : ℕ) → j ≡ 3 * n + 2 * i → i < n → slice_get (elements_from on_page 0 0) j ≡ Some (element (numbered (codes "take") i) (Real (AtTransition (2 * i))))
  take_at j i e below =
      past_eats j (2 * i) e ∙ take_found 0 n after_transitions (3 * n) 0 i (2 * i) i (2 * i) below refl (omega arith) (omega arith)

  release_at : (j i : ℕ) → j ≡ 3 * n + 2 * i + 1 → i < n → slice_get (elements_from on_page 0 0) j ≡ Some (element (numbered (codes "release") i) (Real (AtTransition (2 * i + 1))))
  release_at j i e below =
      past_eats j (2 * i + 1) (omega (arith, e))
      ∙ release_found 0 n after_transitions (3 * n) 0 i (2 * i + 1) i (2 * i + 1) below refl (omega arith) (omega arith)

  arc_at : (j k : ℕ) → j ≡ 5 * n + k → k < 8 * n → slice_get (elements_from on_page 0 0) j ≡ Some (element (numbered (codes "a") k) NoNode)
  arc_at j k e below = past_transitions j k e ∙ arc_found n 0 n after_arcs (3 * n) (2 * n) k k below (omega arith)

  -- ---- the number of an element by its id

  abbrev value : List ℕ → ℕ
  value digits = digits_value 10 digits

  -- the words of ids differ in their first letter, but for `think` and `take`
  abbrev number_of : List ℕ → ℕ
  number_of id =
      if get_or id 0 0 == 115 then 0
      else (if get_or id 0 0 == 112 then 1
      else (if get_or id 0 0 == 97 then 2 + (5 * n + value (drop 1 id))
      else (if get_or id 0 0 == 102 then 2 + (n + value (drop 4 id))
      else (if get_or id 0 0 == 101 then 2 + (2 * n + value (drop 3 id))
      else (if get_or id 0 0 == 114 then 2 + (3 * n + 2 * value (drop 7 id) + 1)
      else (if get_or id 1 0 == 104 then 2 + value (drop 5 id)
      else 2 + (3 * n + 2 * value (drop 4 id))))))))

  value_is : (i : ℕ) → i < 2 ^ 64 → value (decimal i) ≡ i
  value_is i small = (decimal_is_IsNumeral i small).1

  -- an element that occurs at number j of the page, and whose id gives that number
  numbered_right : (j : ℕ) (e : Element) (id : List ℕ) (role : Role) → slice_get (elements_from on_page 0 0) j ≡ Some (element id role) → slice_get (elements_from on_page 0 0) j ≡ Some e
      → number_of id ≡ 2 + j → 2 + j ≡ number_of e.id
  numbered_right j e id role here also is =
      let same : element id role ≡ e = some_is (sym here ∙ also) in
      sym is ∙ ap (λ (x : Element). number_of x.id) same

  module _ (small : n < 2 ^ 32) where
    think_number : (j : ℕ) (e : Element) → j < n → slice_get (elements_from on_page 0 0) j ≡ Some e → 2 + j ≡ number_of e.id
    think_number j e below is =
        numbered_right j e _ _ (think_at j j refl below) is (ap (λ (v : ℕ). 2 + v) (value_is j (omega (arith, small, below))))

    fork_number : (j i : ℕ) (e : Element) → j ≡ n + i → i < n → slice_get (elements_from on_page 0 0) j ≡ Some e → 2 + j ≡ number_of e.id
    fork_number j i e from below is =
        numbered_right j e _ _ (fork_at j i from below) is (ap (λ (v : ℕ). 2 + (n + v)) (value_is i (omega (arith, small, below))) ∙ ap (λ (v : ℕ). 2 + v) (sym from))

    eat_number : (j i : ℕ) (e : Element) → j ≡ 2 * n + i → i < n → slice_get (elements_from on_page 0 0) j ≡ Some e → 2 + j ≡ number_of e.id
    eat_number j i e from below is =
        numbered_right j e _ _ (eat_at j i from below) is (ap (λ (v : ℕ). 2 + (2 * n + v)) (value_is i (omega (arith, small, below))) ∙ ap (λ (v : ℕ). 2 + v) (sym from))

    take_number : (j i : ℕ) (e : Element) → j ≡ 3 * n + 2 * i → i < n → slice_get (elements_from on_page 0 0) j ≡ Some e → 2 + j ≡ number_of e.id
    take_number j i e from below is =
        numbered_right j e _ _ (take_at j i from below) is (ap (λ (v : ℕ). 2 + (3 * n + 2 * v)) (value_is i (omega (arith, small, below))) ∙ ap (λ (v : ℕ). 2 + v) (sym from))

    release_number : (j i : ℕ) (e : Element) → j ≡ 3 * n + 2 * i + 1 → i < n → slice_get (elements_from on_page 0 0) j ≡ Some e → 2 + j ≡ number_of e.id
    release_number j i e from below is =
        numbered_right j e _ _ (release_at j i from below) is (ap (λ (v : ℕ). 2 + (3 * n + 2 * v + 1)) (value_is i (omega (arith, small, below))) ∙ ap (λ (v : ℕ). 2 + v) (sym from))

    arc_number : (j k : ℕ) (e : Element) → j ≡ 5 * n + k → k < 8 * n → slice_get (elements_from on_page 0 0) j ≡ Some e → 2 + j ≡ number_of e.id
    arc_number j k e from below is =
        numbered_right j e _ _ (arc_at j k from below) is (ap (λ (v : ℕ). 2 + (5 * n + v)) (value_is k (omega (arith, small, below))) ∙ ap (λ (v : ℕ). 2 + v) (sym from))

    -- the one or the other transition of a philosopher
    transition_number : (j i : ℕ) (e : Element) → j ≡ 3 * n + i → i < 2 * n → slice_get (elements_from on_page 0 0) j ≡ Some e → 2 + j ≡ number_of e.id
    transition_number j i e from below is = elim (cases_lt (i % 2) 1) [
      | inl even ↦ take_number j (i / 2) e (omega (arith, from, even)) (omega (arith, below)) is
      | inr odd ↦ release_number j (i / 2) e (omega (arith, from, odd, mod-lt i {m = 2} (omega arith))) (omega (arith, below)) is
    ]

    page_number : (j : ℕ) (e : Element) → slice_get (elements_from on_page 0 0) j ≡ Some e → 2 + j ≡ number_of e.id
    page_number j e is = elim (cases_lt j n) [
      | inl below ↦ think_number j e below is
      | inr no_think ↦ elim (cases_lt j (2 * n)) [
        | inl below ↦ fork_number j (j - n) e (omega arith) (omega arith) is
        | inr no_fork ↦ elim (cases_lt j (3 * n)) [
          | inl below ↦ eat_number j (j - 2 * n) e (omega arith) (omega arith) is
          | inr no_place ↦ elim (cases_lt j (5 * n)) [
            | inl below ↦ transition_number j (j - 3 * n) e (omega arith) (omega arith) is
            | inr no_node ↦ elim (cases_lt j (13 * n)) [
              | inl below ↦ arc_number j (j - 5 * n) e (omega arith) (omega arith) is
              | inr past ↦ (let none : Some e ≡ None = sym is ∙ past_arcs j (j - 13 * n) (omega arith) in absurd (cc))
            ]
          ]
        ]
      ]
    ]

    number_is : (m : ℕ) (e : Element) → slice_get (elements net) m ≡ Some e → m ≡ number_of e.id
    number_is zero e is = ap (λ (x : Element). number_of x.id) (some_is {a = element (codes "sample") NoNode} is)
    number_is (suc zero) e is = ap (λ (x : Element). number_of x.id) (some_is {a = element (codes "page") NoNode} is)
    number_is (suc (suc j)) e is =
        let same : suc (suc j) ≡ 2 + j = omega arith in same ∙ page_number j e is

    distinct : HasDistinctIds net
    distinct m k id here there =
        let one = from_map (λ (e : Element). e.id) (elements net) m id here in
        let other = from_map (λ (e : Element). e.id) (elements net) k id there in
        number_is m one.0 one.1 ∙ ap number_of (one.2 ∙ sym other.2) ∙ sym (number_is k other.0 other.1)

    -- ---- the nodes

    -- a node by its id
    abbrev IsPlaceId : List ℕ → Type 0
    IsPlaceId id = (m p : ℕ) × (slice_get (elements net) m ≡ Some (element id (Real (AtPlace p))))

    abbrev IsTransitionId : List ℕ → Type 0
    IsTransitionId id = (m t : ℕ) × (slice_get (elements net) m ≡ Some (element id (Real (AtTransition t))))

    nodes : Nodes n IsPlaceId IsTransitionId
    nodes = record {
      think = λ i below. (suc (suc i), i, think_at i i refl below);
      fork = λ i below. (suc (suc (n + i)), n + i, fork_at (n + i) i refl below);
      eat = λ i below. (suc (suc (2 * n + i)), 2 * n + i, eat_at (2 * n + i) i refl below);
      take = λ i below. (suc (suc (3 * n + 2 * i)), 2 * i, take_at (3 * n + 2 * i) i refl below);
      release = λ i below. (suc (suc (3 * n + 2 * i + 1)), 2 * i + 1, release_at (3 * n + 2 * i + 1) i refl below);
    }

    known_place : (id : List ℕ) → IsPlaceId id → NamesNode (entries net) id kinds.Place
    known_place id is = (is.0, get_map entry_of (elements net) is.0 _ is.2)

    known_transition : (id : List ℕ) → IsTransitionId id → NamesNode (entries net) id kinds.Transition
    known_transition id is = (is.0, get_map entry_of (elements net) is.0 _ is.2)

    to_place : (id : List ℕ) → (is : IsPlaceId id) → Resolves (elements net) id (AtPlace is.1)
    to_place id is = to_itself is.0 id (AtPlace is.1) is.2

    to_transition : (id : List ℕ) → (is : IsTransitionId id) → Resolves (elements net) id (AtTransition is.1)
    to_transition id is = to_itself is.0 id (AtTransition is.1) is.2

    pub breaks_no_rule : BreaksNoRule (sample_document n)
    breaks_no_rule = record {
      ids = subst AreDistinct (sym (append-nil (ids_of net))) distinct;
      mentions = (
        all_over (IsKnown (entries net)) mentions (sample_items n)
            (every_item n (λ item. AllByRecursion (IsKnown (entries net)) (mentions item)) IsPlaceId IsTransitionId nodes
            (λ k source target below p t. ((kinds.Place, known_place source p), ((kinds.Transition, known_transition target t), tt)))
            (λ k source target below t p. ((kinds.Transition, known_transition source t), ((kinds.Place, known_place target p), tt)))
            tt tt (λ i below. (tt, tt, tt)) (λ i below. (tt, tt))),
        tt,
      );
      kinds = (
        all_over (NamesItsKind (entries net)) references (sample_items n)
            (every_item n (λ item. AllByRecursion (NamesItsKind (entries net)) (references item)) IsPlaceId IsTransitionId nodes
            (λ k source target below p t. tt) (λ k source target below t p. tt) tt tt (λ i below. (tt, tt, tt)) (λ i below. (tt, tt))),
        tt,
      );
      chains = (
        all_over (ItsChainEnds net) references (sample_items n)
            (every_item n (λ item. AllByRecursion (ItsChainEnds net) (references item)) IsPlaceId IsTransitionId nodes
            (λ k source target below p t. tt) (λ k source target below t p. tt) tt tt (λ i below. (tt, tt, tt)) (λ i below. (tt, tt))),
        tt,
      );
      arcs = (
        all_over (JoinsPlaceAndTransition net) arcs (sample_items n)
            (every_item n (λ item. AllByRecursion (JoinsPlaceAndTransition net) (arcs item)) IsPlaceId IsTransitionId nodes
            (λ k source target below p t. (record { source = AtPlace p.1; target = AtTransition t.1; source_resolves = to_place source p; target_resolves = to_transition target t; apart = tt }, tt))
            (λ k source target below t p. (record { source = AtTransition t.1; target = AtPlace p.1; source_resolves = to_transition source t; target_resolves = to_place target p; apart = tt }, tt))
            tt tt (λ i below. (tt, tt, tt)) (λ i below. (tt, tt))),
        tt,
      );
    }
