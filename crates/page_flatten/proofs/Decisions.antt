-- What the rules ask is decided: of one id, mention, reference or arc it holds or is refuted, so that a list has
-- it of all members, or has a first member without it. A chain is walked for as many links as there are.
use Rattle.std.proofs.Common.{◌≡◌, refl, sym, ap, ◌∙◌, subst, ℕ, zero, suc, ◌+◌, ◌<◌, Bool, true, false, true≢false, nat_eq, List, [], ◌∷◌, ◌++◌, Option, Some, None, length, slice_get, append_assoc, ◌⊎◌, inl, inr, arith}
use Rattle.std.specs.Cmp.Lexicographic.{pointwise}
use Rattle.std.specs.List.{flat_map, AllByRecursion}
use Rattle.std.proofs.lemmas.List.{append-nil}
use Rattle.std.proofs.lemmas.Slice.Eq.{bytes_eq-Decides}
use Rattle.std.proofs.lemmas.Option.{none-some}
use Rattle.net_values.specs.declared.document.NetTree.{NetTree}
use Rattle.net_values.specs.declared.document.ArcNode.{ArcNode}
use Rattle.net_values.specs.declared.document.Item.{Item}
use Rattle.net_values.specs.declared.document.Item.TheVariants.{Page, PageEnd, Place, Transition, RefPlace, RefTransition, Arc}
use Rattle.page_flatten.specs.declared.links.End.{End}
use Rattle.page_flatten.specs.declared.links.End.TheVariants.{AtPlace, AtTransition}
use Rattle.page_flatten.specs.declared.links.Link.{Link}
use Rattle.page_flatten.specs.declared.links.Link.TheVariants.{Apart, Ends, Leads}
use Rattle.net_values.specs.declared.node_kind.NodeKind.{NodeKind}
use Rattle.page_flatten.specs.Elements.{Mention, ReferenceTo, elements, elements_from, entries, mentions}
use Rattle.page_flatten.specs.Chains.{Resolves}
use Rattle.page_flatten.specs.Rules.{AreDistinct, HasDistinctIds, MentionsNodes, IsKnown, NamesItsKind, ItsChainEnds, IsPlaceAndTransition, JoinsPlaceAndTransition, IsFirstWithout, IsFirstRepeated}
use Rattle.page_flatten.specs.Tables.{table_ids, EndsIn, EndsAt, AreLinksOf}
use Rattle.page_flatten.proofs.Lists.{some_is, same_read}
use Rattle.page_flatten.proofs.Passes.{first_only, first_after, first_before}
use Rattle.page_flatten.proofs.ChainLaws.{short, goes_on, followed_none, followed_off, ends_at_number}
use Rattle.page_flatten.proofs.NumberLaws.{distinct_push}
use Rattle.page_flatten.proofs.Meaning.{ends_by_id, resolves_by_id}
use Rattle.page_flatten.proofs.WholeLaws.{distinct_entries}
use Rattle.page_flatten.proofs.OneAnswer.{one_end_of}

-- it holds, or is refuted
abbrev pub Decided : Type 0 → Type 0
Decided P = P ⊎ (P → ⊥)

-- each member of a list has a decided property, or a first one lacks it
pub all_or_first : {X : Type 0} (P : X → Type 0) → ((x : X) → Decided (P x)) → (xs : List X) → AllByRecursion P xs ⊎ ((x : X) × IsFirstWithout P xs x)
all_or_first P decide [] = inl tt
all_or_first P decide (x ∷ xs) = elim (decide x) [
  | inl holds ↦ elim (all_or_first P decide xs) [
    | inl all ↦ inl (holds, all)
    | inr first ↦ inr (first.0, first_after P x xs first.0 holds first.1)
  ]
  | inr lacks ↦ inr (x, first_before P (x ∷ []) xs x (first_only P x lacks))
]

-- a member has a decided property, or none has
none_more : {X : Type 0} (P : X → Type 0) (x : X) (xs : List X) → (P x → ⊥) → ((n : ℕ) (y : X) → slice_get xs n ≡ Some y → P y → ⊥) → (n : ℕ) (y : X) → slice_get (x ∷ xs) n ≡ Some y → P y → ⊥
none_more P x xs lacks none zero y at holds = lacks (subst P (sym (some_is at)) holds)
none_more P x xs lacks none (suc n) y at holds = none n y at holds

none_at_all : {X : Type 0} (P : X → Type 0) (n : ℕ) (y : X) → slice_get [] n ≡ Some y → P y → ⊥
none_at_all P n y at holds = cc

somewhere : {X : Type 0} (P : X → Type 0) → ((x : X) → Decided (P x)) → (xs : List X) → ((n : ℕ) × (x : X) × (slice_get xs n ≡ Some x) × P x) ⊎ ((n : ℕ) (x : X) → slice_get xs n ≡ Some x → P x → ⊥)
somewhere P decide [] = inr (none_at_all P)
somewhere P decide (x ∷ xs) = elim (decide x) [
  | inl holds ↦ inl (0, x, refl, holds)
  | inr lacks ↦ elim (somewhere P decide xs) [
    | inl found ↦ inl (suc found.0, found.1, found.2, found.3)
    | inr none ↦ inr (none_more P x xs lacks none)
  ]
]

-- ids and kinds
same_id : (a b : List ℕ) → Decided (a ≡ b)
same_id a b = go (pointwise nat_eq a b) refl
  where
    go : (same : Bool) → pointwise nat_eq a b ≡ same → Decided (a ≡ b)
    go true is = inl ((bytes_eq-Decides a b).0 is)
    go false is = inr (λ e. true≢false (sym ((bytes_eq-Decides a b).1 e) ∙ is))

equal_kinds : (a b : NodeKind) → Decided (a ≡ b)
equal_kinds NodeKind.Place NodeKind.Place = inl refl
equal_kinds NodeKind.Place NodeKind.Transition = inr (λ e. cc)
equal_kinds NodeKind.Transition NodeKind.Place = inr (λ e. cc)
equal_kinds NodeKind.Transition NodeKind.Transition = inl refl

-- the ids are distinct, or a first one is repeated
pub distinct_or_repeated : (front rest : List (List ℕ)) → AreDistinct front → AreDistinct (front ++ rest) ⊎ ((id : List ℕ) × IsFirstRepeated (front ++ rest) id)
distinct_or_repeated front [] distinct = inl (subst AreDistinct (sym (append-nil front)) distinct)
distinct_or_repeated front (id ∷ rest) distinct = elim (somewhere (λ other. other ≡ id) (λ other. same_id other id) front) [
  | inl found ↦ inr (
    id,
    record {
      front = front;
      back = rest;
      occurs = refl;
      before = distinct;
      earlier = found.0;
      repeated = found.2 ∙ ap Some found.3;
    },
  )
  | inr fresh ↦
      subst (λ ids. AreDistinct ids ⊎ ((x : List ℕ) × IsFirstRepeated ids x)) (append_assoc front (id ∷ []) rest)
      (distinct_or_repeated (front ++ id ∷ []) rest (distinct_push front id distinct (λ n at. fresh n id at refl)))
]

-- the entry is a node with the id
named_node : (id : List ℕ) (entry : List ℕ × Option NodeKind) → Decided ((kind : NodeKind) × (entry ≡ (id, Some kind)))
named_node id entry = go entry.1 refl
  where
    go : (kind : Option NodeKind) → entry.1 ≡ kind → Decided ((found : NodeKind) × (entry ≡ (id, Some found)))
    go None is = inr (λ h. none-some h.0 (sym is ∙ ap (λ (e : List ℕ × Option NodeKind). e.1) h.1))
    go (Some kind) is = elim (same_id entry.0 id) [
      | inl named ↦ inl (kind, λ i. (named i, is i))
      | inr other ↦ inr (λ h. other (ap (λ (e : List ℕ × Option NodeKind). e.0) h.1))
    ]

named_kind : (id : List ℕ) (kind : NodeKind) (entry : List ℕ × Option NodeKind) → Decided (entry ≡ (id, Some kind))
named_kind id kind entry = elim (named_node id entry) [
  | inl named ↦ elim (equal_kinds named.0 kind) [
    | inl same ↦ inl (named.1 ∙ ap (λ k. (id, Some k)) same)
    | inr other ↦ inr (λ is. other (some_is (ap (λ (e : List ℕ × Option NodeKind). e.1) (sym named.1 ∙ is))))
  ]
  | inr none ↦ inr (λ is. none (kind, is))
]

module _ (table : List (List ℕ × Option NodeKind)) where
  -- a mentioned id is that of a node
  pub known_or_not : (mention : Mention) → Decided (IsKnown table mention)
  known_or_not mention = elim (somewhere (λ entry. (kind : NodeKind) × (entry ≡ (mention.id, Some kind))) (named_node mention.id) table) [
    | inl found ↦ inl (found.3.0, (found.0, found.2 ∙ ap Some found.3.1))
    | inr none ↦ inr (λ known. none known.1.0 (mention.id, Some known.0) known.1.1 (known.0, refl))
  ]

  -- a reference names a node of its kind
  pub kind_or_not : (reference : ReferenceTo) → Decided (NamesItsKind table reference)
  kind_or_not reference = elim (somewhere (λ entry. entry ≡ (reference.target, Some reference.kind)) (named_kind reference.target reference.kind) table) [
    | inl found ↦ inl (found.0, found.2 ∙ ap Some found.3)
    | inr none ↦ inr (λ named. none named.0 (reference.target, Some reference.kind) named.1 refl)
  ]

  -- the links of the elements, where all that is mentioned is known
  links_from : (items : List Item) (p t : ℕ) → AllByRecursion (IsKnown table) (flat_map mentions items) → (links : List Link) × AreLinksOf table (elements_from items p t) links
  links_from [] p t known = ([], tt)
  links_from (Page page ∷ items) p t known = let rest = links_from items p t known in (Apart ∷ rest.0, (refl, rest.1))
  links_from (PageEnd ∷ items) p t known = links_from items p t known
  links_from (Place node ∷ items) p t known = let rest = links_from items (p + 1) t known in (Ends (AtPlace p) ∷ rest.0, (refl, rest.1))
  links_from (Transition node ∷ items) p t known = let rest = links_from items p (t + 1) known in (Ends (AtTransition t) ∷ rest.0, (refl, rest.1))
  links_from (RefPlace node ∷ items) p t known = let rest = links_from items p t known.1 in (Leads known.0.1.0 ∷ rest.0, ((known.0.1.0, refl, known.0.0, known.0.1.1), rest.1))
  links_from (RefTransition node ∷ items) p t known = let rest = links_from items p t known.1 in (Leads known.0.1.0 ∷ rest.0, ((known.0.1.0, refl, known.0.0, known.0.1.1), rest.1))
  links_from (Arc arc ∷ items) p t known = let rest = links_from items p t known.1.1 in (Apart ∷ rest.0, (refl, rest.1))

-- the chain from an element ends within so many links, or doesn't
module _ (links : List Link) where
  abbrev Walk : ℕ → ℕ → Type 0
  Walk most n = ((end : End) × EndsAt links n end) ⊎ ((s : ℕ) (end : End) → s < most → EndsIn s links n end → ⊥)

  walk_off : (most n : ℕ) → ((end : End) → slice_get links n ≡ Some (Ends end) → ⊥) → ((m : ℕ) → slice_get links n ≡ Some (Leads m) → ⊥) → Walk most n
  walk_off most n no_end no_lead = inr (λ s end below h. followed_off links n 0 n no_end no_lead (followed_none links n) end record { steps = s; chain = h })

  walk_on : (most n m : ℕ) → slice_get links n ≡ Some (Leads m) → Walk most m → Walk (suc most) n
  walk_on most n m at rest = elim rest [
    | inl found ↦ inl (found.0, record { steps = suc found.1.steps; chain = (m, at, found.1.chain) })
    | inr none ↦ inr (λ s end below h. let on = goes_on s links n m end at h in none on.0 end (omega (arith, on.1)) on.2)
  ]

  walk_from : (most n : ℕ) → ((m : ℕ) → Walk most m) → (link : Option Link) → slice_get links n ≡ link → Walk (suc most) n
  walk_from most n rest None at = walk_off (suc most) n (λ end h. none-some (Ends end) (sym at ∙ h)) (λ m h. none-some (Leads m) (sym at ∙ h))
  walk_from most n rest (Some Apart) at = walk_off (suc most) n (λ end h. let e : Apart ≡ Ends end = same_read links n at h in cc) (λ m h. let e : Apart ≡ Leads m = same_read links n at h in cc)
  walk_from most n rest (Some (Ends end)) at = inl (end, record { steps = 0; chain = at })
  walk_from most n rest (Some (Leads m)) at = walk_on most n m at (rest m)

  walk : (most n : ℕ) → Walk most n
  walk zero n = inr (λ s end below h. omega arith)
  walk (suc most) n = walk_from most n (walk most) (slice_get links n) refl

  ends_or_not : (n : ℕ) → Decided ((end : End) × EndsAt links n end)
  ends_or_not n = elim (walk (length links) n) [
    | inl found ↦ inl found
    | inr none ↦ inr (λ h. none h.1.steps h.0 (short h.1.steps links n h.0 h.1.chain) h.1.chain)
  ]

place_and_transition : (a b : End) → Decided (IsPlaceAndTransition a b)
place_and_transition (AtPlace p) (AtTransition t) = inl tt
place_and_transition (AtTransition t) (AtPlace p) = inl tt
place_and_transition (AtPlace p) (AtPlace q) = inr (λ h. h)
place_and_transition (AtTransition t) (AtTransition u) = inr (λ h. h)

module _ (net : NetTree) (ids : HasDistinctIds net) (known : MentionsNodes net) where
  distinct : AreDistinct (table_ids (entries net))
  distinct = distinct_entries net ids

  linked : (links : List Link) × AreLinksOf (entries net) (elements net) links
  linked = let rest = links_from (entries net) net.items 0 0 known in (Apart ∷ rest.0, (refl, rest.1))

  -- an id resolves to an end, or to none
  resolves_or_not : (id : List ℕ) → Decided ((end : End) × Resolves (elements net) id end)
  resolves_or_not id = elim (known_or_not (entries net) record { id = id; by = id }) [
    | inl node ↦ elim (ends_or_not linked.0 node.1.0) [
      | inl found ↦ inl (
        found.0,
        resolves_by_id (elements net) linked.0 distinct linked.1 id found.0 record {
          number = node.1.0;
          kind = node.0;
          occurs = node.1.1;
          ends = found.1;
        },
      )
      | inr none ↦ inr (λ h. none (h.0, ends_at_number (entries net) linked.0 distinct node.1.0 id (Some node.0) h.0 node.1.1 (ends_by_id (elements net) linked.0 distinct linked.1 id h.0 h.1)))
    ]
    | inr none ↦ inr (λ h. let found = ends_by_id (elements net) linked.0 distinct linked.1 id h.0 h.1 in none (found.kind, (found.number, found.occurs)))
  ]

  -- the chain from a reference ends
  pub chain_or_not : (reference : ReferenceTo) → Decided (ItsChainEnds net reference)
  chain_or_not reference = resolves_or_not reference.target

  -- the ends of an arc are one place and one transition
  pub joins_or_not : (arc : ArcNode) → Decided (JoinsPlaceAndTransition net arc)
  joins_or_not arc = elim (resolves_or_not arc.source) [
    | inl from ↦ elim (resolves_or_not arc.target) [
      | inl to ↦ elim (place_and_transition from.0 to.0) [
        | inl apart ↦ inl record {
          source = from.0;
          target = to.0;
          source_resolves = from.1;
          target_resolves = to.1;
          apart = apart;
        }
        | inr alike ↦ inr (λ h.
            let source : h.source ≡ from.0 = one_end_of (elements net) ids arc.source h.source from.0 h.source_resolves from.1 in
            let target : h.target ≡ to.0 = one_end_of (elements net) ids arc.target h.target to.0 h.target_resolves to.1 in
            alike (subst (λ e. IsPlaceAndTransition e to.0) source (subst (IsPlaceAndTransition h.source) target h.apart)))
      ]
      | inr none ↦ inr (λ h. none (h.target, h.target_resolves))
    ]
    | inr none ↦ inr (λ h. none (h.source, h.source_resolves))
  ]
