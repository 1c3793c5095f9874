-- Every net has its classes: what each asks speaks of finitely many places and transitions, and so it is
-- decided.
use Rattle.std.proofs.Common.{◌≡◌, ◌∙◌, ◌⊎◌, ℕ, zero, suc, ◌≤◌, ◌<◌, refl, sym, subst, arith, inl, inr}
use Rattle.std.specs.Prelude.{Bool, true, false, IsTrue, ◌↔◌}
use Rattle.std.proofs.lemmas.Bool.{cases_eq, cases_lt}
use Rattle.net_values.specs.Net.{Net}
use Rattle.closed_sets.specs.Commoner.{IsOrdinary}
use Rattle.net_class.specs.declared.membership.Class.{Class}
use Rattle.net_class.specs.Classes.{HasOne, OnePlaceEach, OneTransitionEach, IsStateMachine, IsMarkedGraph, ShareAnInput, HaveSameInputs, IsFreeChoice}
use Rattle.page_flatten.proofs.Decisions.{Decided}
use Rattle.struct_core.specs.Outcome.{HasClass}

-- ---- of what is decided, more is decided

pub both : (P Q : Type 0) → Decided P → Decided Q → Decided (P × Q)
both P Q (inl p) (inl q) = inl (p, q)
both P Q (inl p) (inr q) = inr (λ h. q h.1)
both P Q (inr p) q = inr (λ h. p h.0)

implied : (P Q : Type 0) → Decided P → Decided Q → Decided (P → Q)
implied P Q (inr p) q = inl (λ h. absurd (p h))
implied P Q (inl p) (inl q) = inl (λ h. q)
implied P Q (inl p) (inr q) = inr (λ h. q (h p))

alike : (P Q : Type 0) → Decided P → Decided Q → Decided (P ↔ Q)
alike P Q p q = both (P → Q) (Q → P) (implied P Q p q) (implied Q P q p)

-- of all numbers below a bound, or of some
module _ (P : ℕ → Type 0) (decide : (k : ℕ) → Decided (P k)) where
  below_more : (n k : ℕ) → ((j : ℕ) → j < n → P j) → P n → k < suc n → (k ≡ n) ⊎ (k ≡ n → ⊥) → P k
  below_more n k all last under (inl is) = subst P (sym is) last
  below_more n k all last under (inr other) = all k (omega (arith, other))

  pub all_below : (n : ℕ) → Decided ((k : ℕ) → k < n → P k)
  all_below zero = inl (λ k under. absurd (omega arith))
  all_below (suc n) = elim (all_below n) [
    | inl all ↦ elim (decide n) [
      | inl last ↦ inl (λ k under. below_more n k all last under (cases_eq k n))
      | inr lacks ↦ inr (λ h. lacks (h n (omega arith)))
    ]
    | inr lacks ↦ inr (λ h. lacks (λ k under. h k (omega arith)))
  ]

  none_more : (n k : ℕ) → ((j : ℕ) → j < n → P j → ⊥) → (P n → ⊥) → k < suc n → (k ≡ n) ⊎ (k ≡ n → ⊥) → P k → ⊥
  none_more n k none last under (inl is) holds = last (subst P is holds)
  none_more n k none last under (inr other) holds = none k (omega (arith, other)) holds

  pub some_below : (n : ℕ) → ((k : ℕ) × (k < n) × P k) ⊎ ((k : ℕ) → k < n → P k → ⊥)
  some_below zero = inr (λ k under holds. omega arith)
  some_below (suc n) = elim (some_below n) [
    | inl found ↦ inl (found.0, omega (arith, found.1), found.2)
    | inr none ↦ elim (decide n) [
      | inl last ↦ inl (n, omega arith, last)
      | inr lacks ↦ inr (λ k under. none_more n k none lacks under (cases_eq k n))
    ]
  ]

-- exactly one number below a bound has a decided property
one_below : (n : ℕ) (P : ℕ → Type 0) → ((k : ℕ) → Decided (P k)) → Decided (HasOne n P)
one_below n P decide = elim (some_below P decide n) [
  | inl found ↦ elim (all_below (λ k. P k → k ≡ found.0) (λ k. implied (P k) (k ≡ found.0) (decide k) (cases_eq k found.0)) n) [
    | inl only ↦ inl record { one = found.0; below = found.1; holds = found.2; only = only }
    | inr others ↦ inr (λ h. others (λ k under holds. h.only k under holds ∙ sym (h.only found.0 found.1 found.2)))
  ]
  | inr none ↦ inr (λ h. none h.one h.below h.holds)
]

at_most : (m n : ℕ) → Decided (m ≤ n)
at_most m n = elim (cases_lt n m) [
  | inl above ↦ inr (λ h. omega arith)
  | inr holds ↦ inl holds
]

pub positive : (n : ℕ) → Decided (0 < n)
positive n = at_most 1 n

-- ---- classes

module _ (net : Net) where
  unit_weights : (p : ℕ) → Decided ((t : ℕ) → t < net.transitions → (net.pre p t ≤ 1) × (net.post p t ≤ 1))
  unit_weights p =
      all_below (λ t. (net.pre p t ≤ 1) × (net.post p t ≤ 1)) (λ t. both _ _ (at_most (net.pre p t) 1) (at_most (net.post p t) 1)) net.transitions

  pub ordinary_or_not : Decided (IsOrdinary net)
  ordinary_or_not = elim (all_below (λ p. (t : ℕ) → t < net.transitions → (net.pre p t ≤ 1) × (net.post p t ≤ 1)) unit_weights net.places) [
    | inl holds ↦ inl (λ p t place transition. holds p place t transition)
    | inr lacks ↦ inr (λ h. lacks (λ p place t transition. h p t place transition))
  ]

  one_place_each : (weights : ℕ → ℕ → ℕ) → Decided (OnePlaceEach net weights)
  one_place_each weights = all_below (λ t. HasOne net.places (λ p. 0 < weights p t)) (λ t. one_below net.places (λ p. 0 < weights p t) (λ p. positive (weights p t))) net.transitions

  one_transition_each : (weights : ℕ → ℕ → ℕ) → Decided (OneTransitionEach net weights)
  one_transition_each weights = all_below (λ p. HasOne net.transitions (λ t. 0 < weights p t)) (λ p. one_below net.transitions (λ t. 0 < weights p t) (λ t. positive (weights p t))) net.places

  state_machine_or_not : Decided (IsStateMachine net)
  state_machine_or_not = elim (both _ _ ordinary_or_not (both _ _ (one_place_each net.pre) (one_place_each net.post))) [
    | inl h ↦ inl record { ordinary = h.0; input = h.1.0; output = h.1.1 }
    | inr lacks ↦ inr (λ h. lacks (h.ordinary, (h.input, h.output)))
  ]

  marked_graph_or_not : Decided (IsMarkedGraph net)
  marked_graph_or_not = elim (both _ _ ordinary_or_not (both _ _ (one_transition_each net.post) (one_transition_each net.pre))) [
    | inl h ↦ inl record { ordinary = h.0; input = h.1.0; output = h.1.1 }
    | inr lacks ↦ inr (λ h. lacks (h.ordinary, (h.input, h.output)))
  ]

  shares_or_not : (t u : ℕ) → Decided (ShareAnInput net t u)
  shares_or_not t u = elim (some_below (λ p. (0 < net.pre p t) × (0 < net.pre p u)) (λ p. both _ _ (positive (net.pre p t)) (positive (net.pre p u))) net.places) [
    | inl found ↦ inl (found.0, found.1, found.2.0, found.2.1)
    | inr none ↦ inr (λ h. none h.0 h.1 (h.2, h.3))
  ]

  same_inputs_or_not : (t u : ℕ) → Decided (HaveSameInputs net t u)
  same_inputs_or_not t u = all_below (λ p. (0 < net.pre p t) ↔ (0 < net.pre p u)) (λ p. alike _ _ (positive (net.pre p t)) (positive (net.pre p u))) net.places

  fair_or_not : (t : ℕ) → Decided ((u : ℕ) → u < net.transitions → ShareAnInput net t u → HaveSameInputs net t u)
  fair_or_not t = all_below (λ u. ShareAnInput net t u → HaveSameInputs net t u) (λ u. implied _ _ (shares_or_not t u) (same_inputs_or_not t u)) net.transitions

  pub free_choice_or_not : Decided (IsFreeChoice net)
  free_choice_or_not = elim (both _ _ ordinary_or_not (all_below (λ t. (u : ℕ) → u < net.transitions → ShareAnInput net t u → HaveSameInputs net t u) fair_or_not net.transitions)) [
    | inl h ↦ inl record { ordinary = h.0; shared = λ t u first second. h.1 t first u second }
    | inr lacks ↦ inr (λ h. lacks (h.ordinary, λ t first u second. h.shared t u first second))
  ]

-- ---- the tests of a class

abbrev pub truth_of : {P : Type 0} → Decided P → Bool
truth_of (inl holds) = true
truth_of (inr lacks) = false

pub tells_truth : {P : Type 0} (decision : Decided P) → IsTrue (truth_of decision) ↔ P
tells_truth (inl holds) = (λ h. holds, λ h. refl)
tells_truth (inr lacks) = (λ h. absurd (cc), λ h. absurd (lacks h))

pub some_class : (net : Net) → (class : Class) × HasClass net class
some_class net = (
  record {
    ordinary = truth_of (ordinary_or_not net);
    state_machine = truth_of (state_machine_or_not net);
    marked_graph = truth_of (marked_graph_or_not net);
    free_choice = truth_of (free_choice_or_not net);
  },
  record {
    ordinary = tells_truth (ordinary_or_not net);
    state_machine = tells_truth (state_machine_or_not net);
    marked_graph = tells_truth (marked_graph_or_not net);
    free_choice = tells_truth (free_choice_or_not net);
  },
)
