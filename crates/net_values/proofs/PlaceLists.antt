-- What a change of the net does to the lists of arcs by place: an arc more puts its transition into one list,
-- and a place or a transition more has no arcs.
use Rattle.std.proofs.Common.{◌≡◌, ◌↔◌, refl, sym, ap, ◌∙◌, subst, ℕ, zero, suc, ◌+◌, ◌^◌, ◌<◌, ◌≤◌, ◌==◌, ◌&&◌, if◌then◌else◌, Bool, true, false, cond, List, [], ◌∷◌, ◌++◌, length, map, get_or, set, All, Contains, inl, inr, arith}
use Rattle.std.proofs.lemmas.Bool.{cases_eq, cases_lt}
use Rattle.std.proofs.lemmas.Bool.Decides.{nat_tests}
use Rattle.std.proofs.lemmas.List.{get_or-set_same, get_or-set_other, get_or_read, get_or_append_left, get_or_past, get_or_push, length-map, length_push, length-set}
use Rattle.std.proofs.lemmas.List.Elements.{Contains-get_or}
use Rattle.net_values.specs.FlatNets.{net_of, NetLists, AreWeights, ListArcs, IsKeptTwice, Adds, Keeps, with_place, with_transition}
use Rattle.net_values.specs.PlaceArcs.{ArcLists, arcs_at, arcs_turned, HasOneMore, ListsPositive, IsAscending}
use Rattle.net_values.specs.declared.column.WeightedPlace.{WeightedPlace}
use Rattle.net_values.specs.declared.flat_net.FlatTransition.{FlatTransition}
use Rattle.net_values.specs.declared.limits.TheConstants.{MAX_PLACES, MAX_TRANSITIONS, MAX_ARCS}
use Rattle.net_values.specs.Columns.{AddsAt}
use Rattle.net_values.proofs.FlatNets.{inputs_of, outputs_of, input_added, output_added, transition_keeps, turned_lists, turned_net, turned_weights, weighs_within}

abbrev without_arcs : ArcLists
without_arcs = record { takers = []; givers = [] }

-- a list that stays lists weights that stay
still_listed : (list : List ℕ) (old new : ℕ → ℕ) → ((t : ℕ) → new t ≡ old t) → ((t : ℕ) → (Contains list t) ↔ (0 < old t)) → (t : ℕ) → (Contains list t) ↔ (0 < new t)
still_listed list old new keeps listed t =
    (λ there. let some = (listed t).0 there in omega (arith, keeps t), λ some. (listed t).1 (omega (arith, keeps t)))

pub arcs_kept : (old new : NetLists) (by_place : List ArcLists) → length new.places ≡ length old.places → Keeps (net_of old).pre (net_of new).pre → Keeps (net_of old).post (net_of new).post → ListArcs old by_place → ListArcs new by_place
arcs_kept old new by_place same pre post listed = record {
  count = listed.count ∙ sym same;
  takers = λ p. still_listed (arcs_at by_place p).takers (λ t. (net_of old).pre p t) (λ t. (net_of new).pre p t) (λ t. pre p t) (listed.takers p);
  givers = λ p. still_listed (arcs_at by_place p).givers (λ t. (net_of old).post p t) (λ t. (net_of new).post p t) (λ t. post p t) (listed.givers p);
}

arcs_pushed : (by_place : List ArcLists) (p : ℕ) → arcs_at (by_place ++ without_arcs ∷ []) p ≡ arcs_at by_place p
arcs_pushed by_place p =
    elim (cases_lt p (length by_place)) [
      | inl before ↦ get_or_append_left by_place (without_arcs ∷ []) without_arcs p before
      | inr from ↦
          let past : get_or by_place p without_arcs ≡ without_arcs = get_or_past by_place p without_arcs from in
          elim (cases_eq (length by_place) p) [
            | inl here ↦ get_or_push by_place without_arcs without_arcs p here ∙ sym past
            | inr after ↦ get_or_past (by_place ++ without_arcs ∷ []) p without_arcs (omega (arith, length_push by_place without_arcs)) ∙ sym past
          ]
    ]

pub place_listed : (lists : NetLists) (by_place : List ArcLists) (id : List ℕ) (initial : ℕ) → ListArcs lists by_place → ListArcs (with_place lists id initial) (by_place ++ without_arcs ∷ [])
place_listed lists by_place id initial listed = record {
  count = length_push by_place without_arcs ∙ ap (λ n. n + 1) listed.count ∙ sym (length_push lists.places record { id = id; initial = initial });
  takers = λ p t. subst (λ (arcs : ArcLists). (Contains arcs.takers t) ↔ (0 < (net_of lists).pre p t)) (sym (arcs_pushed by_place p)) (listed.takers p t);
  givers = λ p t. subst (λ (arcs : ArcLists). (Contains arcs.givers t) ↔ (0 < (net_of lists).post p t)) (sym (arcs_pushed by_place p)) (listed.givers p t);
}

-- one list gets a number, and one weight is raised
module _ (list list' : List ℕ) (old new : ℕ → ℕ → ℕ) (p t weight : ℕ) (positive : 0 < weight) (more : HasOneMore list list' t) (adds : Adds old new p t weight) where
  raised : (u : ℕ) → new p u ≡ old p u + (if u == t then weight else 0)
  raised u = adds p u ∙ grind (arith, nat_tests)

  one_listed : ((u : ℕ) → (Contains list u) ↔ (0 < old p u)) → (u : ℕ) → (Contains list' u) ↔ (0 < new p u)
  one_listed listed u = (
    λ there. elim ((more.members u).0 there) [
      | inl here ↦ grind (arith, nat_tests, raised u)
      | inr before ↦ let some = (listed u).0 before in omega (arith, raised u)
    ],
    λ some. (more.members u).1 (elim (cases_eq u t) [
      | inl here ↦ inl here
      | inr other ↦ inr ((listed u).1 (let same = raised u in grind (arith, nat_tests)))
    ]),
  )

others_stay : (old new : ℕ → ℕ → ℕ) (p t weight q : ℕ) → Adds old new p t weight → (q ≡ p → ⊥) → (u : ℕ) → new q u ≡ old q u
others_stay old new p t weight q adds other u = adds q u ∙ grind (arith, nat_tests)

module _ (old new : NetLists) (by_place : List ArcLists) (p t weight : ℕ) (arcs arcs' : ArcLists) (within : p < length old.places) (read : arcs ≡ get_or by_place p arcs) (positive : 0 < weight) (same : length new.places ≡ length old.places) (listed : ListArcs old by_place) where
  there : p < length by_place
  there = omega (arith, listed.count)

  before : arcs ≡ arcs_at by_place p
  before = get_or_read by_place p arcs there read without_arcs

  after : arcs_at (set by_place p arcs') p ≡ arcs'
  after = get_or-set_same by_place p arcs' without_arcs there

  elsewhere : (q : ℕ) → (q ≡ p → ⊥) → arcs_at (set by_place p arcs') q ≡ arcs_at by_place q
  elsewhere q other = get_or-set_other by_place p q arcs' without_arcs other

  count : length (set by_place p arcs') ≡ length new.places
  count = length-set by_place p arcs' ∙ listed.count ∙ sym same

  -- the lists of one side where an arc was added
  module _ (side : ArcLists → List ℕ) (old_weights new_weights : ℕ → ℕ → ℕ) (before_listed : (q u : ℕ) → (Contains (side (arcs_at by_place q)) u) ↔ (0 < old_weights q u)) where
    side_raised : HasOneMore (side arcs) (side arcs') t → Adds old_weights new_weights p t weight → (q u : ℕ) → (Contains (side (arcs_at (set by_place p arcs') q)) u) ↔ (0 < new_weights q u)
    side_raised more adds q u =
        elim (cases_eq q p) [
          | inl here ↦
              subst (λ (r : ℕ). (Contains (side (arcs_at (set by_place p arcs') r)) u) ↔ (0 < new_weights r u)) (sym here)
              (subst (λ (a : ArcLists). (Contains (side a) u) ↔ (0 < new_weights p u)) (sym after)
              (one_listed (side arcs) (side arcs') old_weights new_weights p t weight positive more adds
              (λ v. subst (λ (a : ArcLists). (Contains (side a) v) ↔ (0 < old_weights p v)) (sym before) (before_listed p v)) u))
          | inr other ↦
              subst (λ (a : ArcLists). (Contains (side a) u) ↔ (0 < new_weights q u)) (sym (elsewhere q other))
              (still_listed (side (arcs_at by_place q)) (λ v. old_weights q v) (λ v. new_weights q v) (λ v. others_stay old_weights new_weights p t weight q adds other v) (before_listed q) u)
        ]

    side_kept : side arcs' ≡ side arcs → Keeps old_weights new_weights → (q u : ℕ) → (Contains (side (arcs_at (set by_place p arcs') q)) u) ↔ (0 < new_weights q u)
    side_kept stays keeps q u =
        elim (cases_eq q p) [
          | inl here ↦
              subst (λ (r : ℕ). (Contains (side (arcs_at (set by_place p arcs') r)) u) ↔ (0 < new_weights r u)) (sym here)
              (subst (λ (a : ArcLists). (Contains (side a) u) ↔ (0 < new_weights p u)) (sym after)
              (subst (λ (list : List ℕ). (Contains list u) ↔ (0 < new_weights p u)) (sym stays)
              (still_listed (side arcs) (λ v. old_weights p v) (λ v. new_weights p v) (λ v. keeps p v)
              (λ v. subst (λ (a : ArcLists). (Contains (side a) v) ↔ (0 < old_weights p v)) (sym before) (before_listed p v)) u)))
          | inr other ↦
              subst (λ (a : ArcLists). (Contains (side a) u) ↔ (0 < new_weights q u)) (sym (elsewhere q other))
              (still_listed (side (arcs_at by_place q)) (λ v. old_weights q v) (λ v. new_weights q v) (λ v. keeps q v) (before_listed q) u)
        ]

  pub taker_listed : HasOneMore arcs.takers arcs'.takers t → arcs'.givers ≡ arcs.givers → Adds (net_of old).pre (net_of new).pre p t weight → Keeps (net_of old).post (net_of new).post → ListArcs new (set by_place p arcs')
  taker_listed more stays adds keeps = record {
    count = count;
    takers = side_raised (λ a. a.takers) (net_of old).pre (net_of new).pre listed.takers more adds;
    givers = side_kept (λ a. a.givers) (net_of old).post (net_of new).post listed.givers stays keeps;
  }

  pub giver_listed : HasOneMore arcs.givers arcs'.givers t → arcs'.takers ≡ arcs.takers → Keeps (net_of old).pre (net_of new).pre → Adds (net_of old).post (net_of new).post p t weight → ListArcs new (set by_place p arcs')
  giver_listed more stays keeps adds = record {
    count = count;
    takers = side_kept (λ a. a.takers) (net_of old).pre (net_of new).pre listed.takers stays keeps;
    givers = side_raised (λ a. a.givers) (net_of old).post (net_of new).post listed.givers more adds;
  }

arcs_turned_at : (by_place : List ArcLists) (p : ℕ) → arcs_at (map arcs_turned by_place) p ≡ arcs_turned (arcs_at by_place p)
arcs_turned_at [] p = refl
arcs_turned_at (arcs ∷ by_place) zero = refl
arcs_turned_at (arcs ∷ by_place) (suc p) = arcs_turned_at by_place p

pub turned_listed : (lists : NetLists) (by_place : List ArcLists) → ListArcs lists by_place → ListArcs (turned_lists lists) (map arcs_turned by_place)
turned_listed lists by_place listed =
    let weights = turned_weights lists in
    record {
      count = length-map by_place arcs_turned ∙ listed.count;
      takers = λ p t.
          subst (λ (a : ArcLists). (Contains a.takers t) ↔ (0 < (net_of (turned_lists lists)).pre p t)) (sym (arcs_turned_at by_place p))
          (still_listed (arcs_at by_place p).givers (λ u. (net_of lists).post p u) (λ u. (net_of (turned_lists lists)).pre p u) (λ u. weights.0 p u) (listed.givers p) t);
      givers = λ p t.
          subst (λ (a : ArcLists). (Contains a.givers t) ↔ (0 < (net_of (turned_lists lists)).post p t)) (sym (arcs_turned_at by_place p))
          (still_listed (arcs_at by_place p).takers (λ u. (net_of lists).pre p u) (λ u. (net_of (turned_lists lists)).post p u) (λ u. weights.1 p u) (listed.takers p) t);
    }

-- the lists of a place that was read, and the transitions that they may have
pub read_listed : (list : List ℕ) (weights : ℕ → ℕ → ℕ) (p bound : ℕ) → IsAscending list → ((t : ℕ) → (Contains list t) ↔ (0 < weights p t)) → ((t : ℕ) → 0 < weights p t → t < bound) → ListsPositive (λ t. weights p t) list × All (λ t. t < bound) list
read_listed list weights p bound ascending listed within = (
  record { ascending = ascending; members = listed },
  λ k d here. within (get_or list k d) ((listed (get_or list k d)).0 (Contains-get_or list k d here)),
)

at_most : (b : Bool) (weight : ℕ) → cond b weight 0 ≤ weight
at_most true weight = omega arith
at_most false weight = omega arith

-- one arc more, of a weight below 2^64
raised_weights : {places arcs : ℕ} {old new : ℕ → ℕ → ℕ} (p t weight : ℕ) → AreWeights places arcs old → Adds old new p t weight → p < places → weight < 2 ^ 64 → AreWeights places (arcs + 1) new
raised_weights {places} {arcs} {old} {new} p t weight h adds below fits = record {
  within = λ q u some. elim (cases_eq q p) [
    | inl here ↦ omega arith
    | inr other ↦ h.within q u (let same = others_stay old new p t weight q adds other u in omega arith)
  ];
  narrow = λ q u. omega (arith, h.narrow q u, adds q u, at_most (q == p && u == t) weight);
}

still_weights : {places arcs : ℕ} {old new : ℕ → ℕ → ℕ} → AreWeights places arcs old → Keeps old new → AreWeights places (arcs + 1) new
still_weights h keeps = record {
  within = λ p t some. h.within p t (omega (arith, keeps p t));
  narrow = λ p t. omega (arith, h.narrow p t, keeps p t);
}

module _ (lists : NetLists) (by_place : List ArcLists) (p t weight : ℕ) (old : FlatTransition) (column : List WeightedPlace) (arcs arcs' : ArcLists) (kept : IsKeptTwice lists by_place) (place : p < length lists.places) (transition : t < length lists.transitions) (room : lists.arcs < MAX_ARCS) (positive : 1 ≤ weight) (fits : weight < 2 ^ 64) (read : old ≡ get_or lists.transitions t old) (read_arcs : arcs ≡ get_or by_place p arcs) where
  abbrev with_input : NetLists
  with_input = record { places = lists.places; transitions = set lists.transitions t record { id = old.id; inputs = column; outputs = old.outputs }; arcs = lists.arcs + 1 }

  abbrev with_output : NetLists
  with_output = record { places = lists.places; transitions = set lists.transitions t record { id = old.id; inputs = old.inputs; outputs = column }; arcs = lists.arcs + 1 }

  pub input_kept : AddsAt old.inputs column p weight → HasOneMore arcs.takers arcs'.takers t → arcs'.givers ≡ arcs.givers → IsKeptTwice with_input (set by_place p arcs')
  input_kept adds more stays =
      let added = input_added lists p t weight old column transition read adds in
      record {
        net = record {
          places = kept.net.places;
          transitions = omega (arith, kept.net.transitions, length-set lists.transitions t record { id = old.id; inputs = column; outputs = old.outputs });
          arcs = omega arith;
          pre = raised_weights p t weight kept.net.pre added.pre place fits;
          post = still_weights kept.net.post added.post;
        };
        arcs = taker_listed lists with_input by_place p t weight arcs arcs' place read_arcs (omega arith) refl kept.arcs more stays added.pre added.post;
      }

  pub output_kept : AddsAt old.outputs column p weight → HasOneMore arcs.givers arcs'.givers t → arcs'.takers ≡ arcs.takers → IsKeptTwice with_output (set by_place p arcs')
  output_kept adds more stays =
      let added = output_added lists t p weight old column transition read adds in
      record {
        net = record {
          places = kept.net.places;
          transitions = omega (arith, kept.net.transitions, length-set lists.transitions t record { id = old.id; inputs = old.inputs; outputs = column });
          arcs = omega arith;
          pre = still_weights kept.net.pre added.pre;
          post = raised_weights p t weight kept.net.post added.post place fits;
        };
        arcs = giver_listed lists with_output by_place p t weight arcs arcs' place read_arcs (omega arith) refl kept.arcs more stays added.pre added.post;
      }

pub transition_kept : (lists : NetLists) (by_place : List ArcLists) (id : List ℕ) → IsKeptTwice lists by_place → length lists.transitions < MAX_TRANSITIONS → IsKeptTwice (with_transition lists id) by_place
transition_kept lists by_place id kept room =
    let keeps = transition_keeps lists id in
    record {
      net = record {
        places = kept.net.places;
        transitions = omega (arith, length_push lists.transitions record { id = id; inputs = []; outputs = [] });
        arcs = kept.net.arcs;
        pre = record { within = λ p t some. kept.net.pre.within p t (omega (arith, keeps.0 p t)); narrow = λ p t. omega (arith, kept.net.pre.narrow p t, keeps.0 p t) };
        post = record { within = λ p t some. kept.net.post.within p t (omega (arith, keeps.1 p t)); narrow = λ p t. omega (arith, kept.net.post.narrow p t, keeps.1 p t) };
      };
      arcs = arcs_kept lists (with_transition lists id) by_place refl keeps.0 keeps.1 kept.arcs;
    }

pub place_kept : (lists : NetLists) (by_place : List ArcLists) (id : List ℕ) (initial : ℕ) → IsKeptTwice lists by_place → length lists.places < MAX_PLACES → IsKeptTwice (with_place lists id initial) (by_place ++ without_arcs ∷ [])
place_kept lists by_place id initial kept room =
    let more = length_push lists.places record { id = id; initial = initial } in
    record {
      net = record {
        places = omega (arith, more);
        transitions = kept.net.transitions;
        arcs = kept.net.arcs;
        pre = record { within = λ p t some. omega (arith, kept.net.pre.within p t some, more); narrow = kept.net.pre.narrow };
        post = record { within = λ p t some. omega (arith, kept.net.post.within p t some, more); narrow = kept.net.post.narrow };
      };
      arcs = place_listed lists by_place id initial kept.arcs;
    }

pub turned_kept : (lists : NetLists) (by_place : List ArcLists) → IsKeptTwice lists by_place → IsKeptTwice (turned_lists lists) (map arcs_turned by_place)
turned_kept lists by_place kept = record { net = turned_net lists kept.net; arcs = turned_listed lists by_place kept.arcs }

-- what is listed at a place that was read
module _ (lists : NetLists) (by_place : List ArcLists) (kept : IsKeptTwice lists by_place) (p : ℕ) (arcs : ArcLists) (place : p < length lists.places) (read : arcs ≡ get_or by_place p arcs) where
  here : arcs ≡ arcs_at by_place p
  here = get_or_read by_place p arcs (omega (arith, kept.arcs.count)) read without_arcs

  pub takers_read : (list : List ℕ) → list ≡ arcs.takers → IsAscending list → ListsPositive (λ t. (net_of lists).pre p t) list × All (λ t. t < length lists.transitions) list
  takers_read list same ascending =
      read_listed list (net_of lists).pre p (length lists.transitions) ascending
      (subst (λ (xs : List ℕ). (t : ℕ) → (Contains xs t) ↔ (0 < (net_of lists).pre p t)) (sym (same ∙ ap (λ (a : ArcLists). a.takers) here)) (kept.arcs.takers p))
      (λ t some. weighs_within inputs_of lists.transitions p t refl some)

  pub givers_read : (list : List ℕ) → list ≡ arcs.givers → IsAscending list → ListsPositive (λ t. (net_of lists).post p t) list × All (λ t. t < length lists.transitions) list
  givers_read list same ascending =
      read_listed list (net_of lists).post p (length lists.transitions) ascending
      (subst (λ (xs : List ℕ). (t : ℕ) → (Contains xs t) ↔ (0 < (net_of lists).post p t)) (sym (same ∙ ap (λ (a : ArcLists). a.givers) here)) (kept.arcs.givers p))
      (λ t some. weighs_within outputs_of lists.transitions p t refl some)
