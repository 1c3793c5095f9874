-- The definitions determine the answer: two first members without a property are one, two resolved ends of an
-- id are one, so there is one first broken rule and one flat net.
use Rattle.std.proofs.Common.{◌≡◌, refl, sym, ap, ◌∙◌, subst, ℕ, zero, suc, ◌<◌, List, [], ◌∷◌, ◌++◌, Some, length, map, slice_get, sum_by, inl, inr, arith}
use Rattle.std.specs.List.{flat_map, AllByRecursion, AllZip}
use Rattle.std.proofs.lemmas.Bool.{cases_lt}
use Rattle.net_values.specs.declared.document.NetTree.{NetTree}
use Rattle.net_values.specs.declared.document.ArcNode.{ArcNode}
use Rattle.page_flatten.specs.declared.fault.FlatFault.{FlatFault}
use Rattle.page_flatten.specs.declared.fault.FlatFault.TheVariants.{NoMemory, DuplicateId, UnknownId, RefKind, RefCycle, ArcEnds, NoNet}
use Rattle.page_flatten.specs.declared.links.End.{End}
use Rattle.page_flatten.specs.declared.links.End.TheVariants.{AtPlace, AtTransition}
use Rattle.page_flatten.specs.Elements.{Element, Role, Real, Reference, elements, entries, Mention, ReferenceTo, mentions, references, arcs}
use Rattle.page_flatten.specs.Chains.{Resolves, to_itself, to_what_it_names}
use Rattle.net_values.specs.declared.document.Document.{Document}
use Rattle.page_flatten.specs.Rules.{AreDistinct, ids_in, IsKnown, NamesItsKind, ItsChainEnds, JoinsPlaceAndTransition, IsFirstWithout, IsFirstIn, IsFirstRepeated, FirstBroken, BreaksNoRule}
use Rattle.net_values.specs.FlatNets.{NetLists}
use Rattle.page_flatten.specs.Flat.{FlatArc, IsResolved, IsNet, FlatOf, weight_between}
use Rattle.page_flatten.specs.Laws.{HasOneFault, BreaksWhereFaulty, HasOneFlatNet, IsSameNet}
use Rattle.page_flatten.proofs.Lists.{some_is, within, get_map, get_front}
use Rattle.page_flatten.proofs.Passes.{none_first}
use Rattle.page_flatten.proofs.NetLists.{distinct_at}

first_is_first : {X : Type 0} (P : X → Type 0) (f g b c : List X) (x y : X) → f ++ x ∷ b ≡ g ++ y ∷ c → AllByRecursion P f → AllByRecursion P g → (P x → ⊥) → (P y → ⊥) → x ≡ y
first_is_first P [] [] b c x y e good other no_x no_y = cc
first_is_first P [] (z ∷ g) b c x y e good other no_x no_y = let head : z ≡ x = cc in absurd (no_x (subst P head other.0))
first_is_first P (z ∷ f) [] b c x y e good other no_x no_y = let head : z ≡ y = cc in absurd (no_y (subst P head good.0))
first_is_first P (z ∷ f) (w ∷ g) b c x y e good other no_x no_y =
    let rest : f ++ x ∷ b ≡ g ++ y ∷ c = cc in
    first_is_first P f g b c x y rest good.1 other.1 no_x no_y

-- two first members without the property are one
one_first : {X : Type 0} (P : X → Type 0) (xs : List X) (x y : X) → IsFirstWithout P xs x → IsFirstWithout P xs y → x ≡ y
one_first P xs x y a b = first_is_first P a.front b.front a.back b.back x y (sym a.occurs ∙ b.occurs) a.before b.before a.lacks b.lacks

get_back : {X : Type 0} (xs ys : List X) (x : X) → slice_get (xs ++ x ∷ ys) (length xs) ≡ Some x
get_back [] ys x = refl
get_back (z ∷ xs) ys x = get_back xs ys x

get_of_front : {X : Type 0} (xs ys : List X) (n : ℕ) (x : X) → n < length xs → slice_get (xs ++ ys) n ≡ Some x → slice_get xs n ≡ Some x
get_of_front [] ys n x below at = absurd (omega arith)
get_of_front (z ∷ xs) ys zero x below at = at
get_of_front (z ∷ xs) ys (suc n) x below at = get_of_front xs ys n x (omega arith) at

-- where the one front is the shorter, the other one repeats an id
longer_repeats : (ids : List (List ℕ)) (x y : List ℕ) (a : IsFirstRepeated ids x) (b : IsFirstRepeated ids y) → length a.front < length b.front → ⊥
longer_repeats ids x y a b shorter =
    let whole : a.front ++ x ∷ a.back ≡ b.front ++ y ∷ b.back = sym a.occurs ∙ b.occurs in
    let before = within a.front a.earlier x a.repeated in
    let here : slice_get b.front (length a.front) ≡ Some x =
    get_of_front b.front (y ∷ b.back) (length a.front) x shorter (ap (λ l. slice_get l (length a.front)) (sym whole) ∙ get_back a.front a.back x) in
    let early : slice_get b.front a.earlier ≡ Some x =
    get_of_front b.front (y ∷ b.back) a.earlier x (omega arith) (ap (λ l. slice_get l a.earlier) (sym whole) ∙ get_front a.front (x ∷ a.back) a.earlier x a.repeated) in
    let same : a.earlier ≡ length a.front = b.before a.earlier (length a.front) x early here in
    omega arith

one_repeated : (ids : List (List ℕ)) (x y : List ℕ) → IsFirstRepeated ids x → IsFirstRepeated ids y → x ≡ y
one_repeated ids x y a b =
    elim (cases_lt (length a.front) (length b.front)) [
      | inl shorter ↦ absurd (longer_repeats ids x y a b shorter)
      | inr from ↦ elim (cases_lt (length b.front) (length a.front)) [
        | inl shorter ↦ absurd (longer_repeats ids y x b a shorter)
        | inr also ↦
            let whole : a.front ++ x ∷ a.back ≡ b.front ++ y ∷ b.back = sym a.occurs ∙ b.occurs in
            let long : length a.front ≡ length b.front = omega arith in
            some_is (sym (get_back a.front a.back x) ∙ ap (λ l. slice_get l (length a.front)) whole ∙ ap (λ n. slice_get (b.front ++ y ∷ b.back) n) long ∙ get_back b.front b.back y)
      ]
    ]

pub none_repeated : (ids : List (List ℕ)) (x : List ℕ) → AreDistinct ids → IsFirstRepeated ids x → ⊥
none_repeated ids x distinct a =
    let before = within a.front a.earlier x a.repeated in
    let early : slice_get ids a.earlier ≡ Some x = ap (λ l. slice_get l a.earlier) a.occurs ∙ get_front a.front (x ∷ a.back) a.earlier x a.repeated in
    let here : slice_get ids (length a.front) ≡ Some x = ap (λ l. slice_get l (length a.front)) a.occurs ∙ get_back a.front a.back x in
    let same : a.earlier ≡ length a.front = distinct a.earlier (length a.front) x early here in
    omega arith

-- the lists of a net, and what the rules ask of their members
abbrev mentioned : NetTree → List Mention
mentioned net = flat_map mentions net.items

abbrev referred : NetTree → List ReferenceTo
referred net = flat_map references net.items

abbrev joined : NetTree → List ArcNode
joined net = flat_map arcs net.items

abbrev known : NetTree → Mention → Type 0
known net = IsKnown (entries net)

abbrev of_kind : NetTree → ReferenceTo → Type 0
of_kind net = NamesItsKind (entries net)

-- two first members of the nets without the property are one
module _ {X : Type 0} (list : NetTree → List X) (Property : NetTree → X → Type 0) (nets : List NetTree) where
  one_in : (x y : X) → IsFirstIn list Property nets x → IsFirstIn list Property nets y → x ≡ y
  one_in x y a b =
      let same : a.net ≡ b.net = one_first _ nets a.net b.net a.net_is b.net_is in
      one_first (Property b.net) (list b.net) x y (subst (λ (net : NetTree). IsFirstWithout (Property net) (list net) x) same a.first) b.first

  -- and there is none where the members of each net have it
  none_in : (x : X) → AllByRecursion (λ net. AllByRecursion (Property net) (list net)) nets → IsFirstIn list Property nets x → ⊥
  none_in x all a = none_first _ nets a.net all a.net_is

module _ (document : Document) where
  abbrev nets : List NetTree
  nets = document.nets

  one_fault_of : (one other : FlatFault) → FirstBroken document one → FirstBroken document other → one ≡ other
  one_fault_of NoMemory other a b = absurd a
  one_fault_of one NoMemory a b = absurd b
  one_fault_of (NoNet count) other a b = absurd a
  one_fault_of one (NoNet count) a b = absurd b
  one_fault_of (DuplicateId x) (DuplicateId y) a b = ap DuplicateId (one_repeated (ids_in nets) x y a b)
  one_fault_of (DuplicateId x) (UnknownId y w) a b = absurd (none_repeated (ids_in nets) x b.0 a)
  one_fault_of (DuplicateId x) (RefKind y) a b = absurd (none_repeated (ids_in nets) x b.0 a)
  one_fault_of (DuplicateId x) (RefCycle y) a b = absurd (none_repeated (ids_in nets) x b.0 a)
  one_fault_of (DuplicateId x) (ArcEnds y) a b = absurd (none_repeated (ids_in nets) x b.0 a)
  one_fault_of (UnknownId x z) (DuplicateId y) a b = absurd (none_repeated (ids_in nets) y a.0 b)
  one_fault_of (UnknownId x z) (UnknownId y w) a b = ap (λ (m : Mention). UnknownId m.id m.by) (one_in mentioned known nets record { id = x; by = z } record { id = y; by = w } a.1 b.1)
  one_fault_of (UnknownId x z) (RefKind y) a b = absurd (none_in mentioned known nets record { id = x; by = z } b.1 a.1)
  one_fault_of (UnknownId x z) (RefCycle y) a b = absurd (none_in mentioned known nets record { id = x; by = z } b.1 a.1)
  one_fault_of (UnknownId x z) (ArcEnds y) a b = absurd (none_in mentioned known nets record { id = x; by = z } b.1 a.1)
  one_fault_of (RefKind x) (DuplicateId y) a b = absurd (none_repeated (ids_in nets) y a.0 b)
  one_fault_of (RefKind x) (UnknownId y w) a b = absurd (none_in mentioned known nets record { id = y; by = w } a.1 b.1)
  one_fault_of (RefKind x) (RefKind y) a b = ap RefKind (sym a.4 ∙ ap (λ (r : ReferenceTo). r.id) (one_in referred of_kind nets a.2 b.2 a.3 b.3) ∙ b.4)
  one_fault_of (RefKind x) (RefCycle y) a b = absurd (none_in referred of_kind nets a.2 b.2 a.3)
  one_fault_of (RefKind x) (ArcEnds y) a b = absurd (none_in referred of_kind nets a.2 b.2 a.3)
  one_fault_of (RefCycle x) (DuplicateId y) a b = absurd (none_repeated (ids_in nets) y a.0 b)
  one_fault_of (RefCycle x) (UnknownId y w) a b = absurd (none_in mentioned known nets record { id = y; by = w } a.1 b.1)
  one_fault_of (RefCycle x) (RefKind y) a b = absurd (none_in referred of_kind nets b.2 a.2 b.3)
  one_fault_of (RefCycle x) (RefCycle y) a b = ap RefCycle (sym a.5 ∙ ap (λ (r : ReferenceTo). r.id) (one_in referred ItsChainEnds nets a.3 b.3 a.4 b.4) ∙ b.5)
  one_fault_of (RefCycle x) (ArcEnds y) a b = absurd (none_in referred ItsChainEnds nets a.3 b.3 a.4)
  one_fault_of (ArcEnds x) (DuplicateId y) a b = absurd (none_repeated (ids_in nets) y a.0 b)
  one_fault_of (ArcEnds x) (UnknownId y w) a b = absurd (none_in mentioned known nets record { id = y; by = w } a.1 b.1)
  one_fault_of (ArcEnds x) (RefKind y) a b = absurd (none_in referred of_kind nets b.2 a.2 b.3)
  one_fault_of (ArcEnds x) (RefCycle y) a b = absurd (none_in referred ItsChainEnds nets b.3 a.3 b.4)
  one_fault_of (ArcEnds x) (ArcEnds y) a b = ap ArcEnds (sym a.6 ∙ ap (λ (r : ArcNode). r.id) (one_in joined JoinsPlaceAndTransition nets a.4 b.4 a.5 b.5) ∙ b.6)

pub one_fault : HasOneFault
one_fault document one other a b = one_fault_of document one other a b

pub breaks_where_faulty : BreaksWhereFaulty
breaks_where_faulty document NoMemory h keeps = absurd h
breaks_where_faulty document (DuplicateId x) h keeps = none_repeated (ids_in document.nets) x keeps.ids h
breaks_where_faulty document (UnknownId x y) h keeps = none_in mentioned known document.nets record { id = x; by = y } keeps.mentions h.1
breaks_where_faulty document (RefKind x) h keeps = none_in referred of_kind document.nets h.2 keeps.kinds h.3
breaks_where_faulty document (RefCycle x) h keeps = none_in referred ItsChainEnds document.nets h.3 keeps.chains h.4
breaks_where_faulty document (ArcEnds x) h keeps = none_in joined JoinsPlaceAndTransition document.nets h.4 keeps.arcs h.5
breaks_where_faulty document (NoNet count) h keeps = absurd h

abbrev element : List ℕ → Role → Element
element id role = record { id = id; role = role }

module _ (list : List Element) (distinct : AreDistinct (map (λ (e : Element). e.id) list)) where
  -- one id is that of one element
  one_role : (m n : ℕ) (id : List ℕ) (a b : Role) → slice_get list m ≡ Some (element id a) → slice_get list n ≡ Some (element id b) → a ≡ b
  one_role m n id a b at also =
      let same : m ≡ n = distinct m n id (get_map (λ (e : Element). e.id) list m (element id a) at) (get_map (λ (e : Element). e.id) list n (element id b) also) in
      ap (λ (e : Element). e.role) (some_is (sym at ∙ subst (λ k. slice_get list k ≡ Some (element id b)) (sym same) also))

  -- so it resolves to one end
  pub one_end_of : (id : List ℕ) (a b : End) → Resolves list id a → Resolves list id b → a ≡ b
  one_end_of id a b (to_itself m _ _ at) (to_itself n _ _ also) = let e : Real a ≡ Real b = one_role m n id (Real a) (Real b) at also in cc
  one_end_of id a b (to_itself m _ _ at) (to_what_it_names n _ kind target _ also rest) = let e : Real a ≡ Reference kind target = one_role m n id (Real a) (Reference kind target) at also in absurd cc
  one_end_of id a b (to_what_it_names m _ kind target _ at rest) (to_itself n _ _ also) = let e : Reference kind target ≡ Real b = one_role m n id (Reference kind target) (Real b) at also in absurd cc
  one_end_of id a b (to_what_it_names m _ kind target _ at rest) (to_what_it_names n _ other goal _ also beyond) =
      let e : Reference kind target ≡ Reference other goal = one_role m n id (Reference kind target) (Reference other goal) at also in
      let same : goal ≡ target = cc in
      one_end_of target a b rest (subst (λ t. Resolves list t b) same beyond)

  one_resolved : (arcs : List ArcNode) (xs ys : List FlatArc) → AllZip (IsResolved list) arcs xs → AllZip (IsResolved list) arcs ys → xs ≡ ys
  one_resolved [] [] [] a b = refl
  one_resolved [] [] (y ∷ ys) a b = absurd b
  one_resolved [] (x ∷ xs) ys a b = absurd a
  one_resolved (arc ∷ arcs) [] ys a b = absurd a
  one_resolved (arc ∷ arcs) (x ∷ xs) [] a b = absurd b
  one_resolved (arc ∷ arcs) (x ∷ xs) (y ∷ ys) a b =
      let source = one_end_of arc.source x.source y.source a.0.source b.0.source in
      let target = one_end_of arc.target x.target y.target a.0.target b.0.target in
      let weight = a.0.weight ∙ sym b.0.weight in
      let rest = one_resolved arcs xs ys a.1 b.1 in
      λ i. record { source = source i; target = target i; weight = weight i } ∷ rest i

-- net k of a document is one net
one_net : (document : Document) (k : ℕ) (one other : NetTree) → IsNet document k one → IsNet document k other → one ≡ other
one_net document zero one other a b = absurd a
one_net document (suc n) one other a b = some_is (sym a ∙ b)

one_flat_of : (document : Document) (k : ℕ) (tree : NetTree) (one other : NetLists) → BreaksNoRule document → IsNet document k tree → FlatOf tree one → FlatOf tree other → IsSameNet one other
one_flat_of document zero tree one other keeps chosen a b = absurd chosen
one_flat_of document (suc n) tree one other keeps chosen a b =
    let distinct = distinct_at document.nets n tree chosen keeps.ids in
    let same = one_resolved (elements tree) distinct (flat_map arcs tree.items) a.flat_arcs b.flat_arcs a.resolved b.resolved in
    record {
      places = a.places ∙ sym b.places;
      transitions = a.transitions ∙ sym b.transitions;
      pre = λ p t. a.pre p t ∙ ap (sum_by (weight_between (AtPlace p) (AtTransition t))) same ∙ sym (b.pre p t);
      post = λ p t. a.post p t ∙ ap (sum_by (weight_between (AtTransition t) (AtPlace p))) same ∙ sym (b.post p t);
      count = a.count ∙ sym b.count;
    }

pub one_flat : HasOneFlatNet
one_flat document k one other keeps a b =
    let same = one_net document k b.tree a.tree b.chosen a.chosen in
    one_flat_of document k a.tree one other keeps a.chosen a.flat (subst (λ (tree : NetTree). FlatOf tree other) same b.flat)
