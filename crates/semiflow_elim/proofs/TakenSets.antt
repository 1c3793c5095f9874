-- Sets of columns: one column more, and how many there are.
use Rattle.std.proofs.Common.{◌≡◌, refl, sym, ap, ◌∙◌, subst, ℕ, zero, suc, ◌+◌, ◌<◌, ◌≤◌, Bool, true, false, cond, List, [], ◌∷◌, length, replicate, set, inl, inr, arith}
use Rattle.std.proofs.lemmas.Bool.{cases_eq, cases_lt, false≢true}
use Rattle.std.proofs.lemmas.List.{get_or-set_same, get_or-set_other, get_or-replicate, get_or_past, length-replicate}
use Rattle.std.proofs.lemmas.List.Sums.{sum_by-set, sum_by-cons, count_by-le-length}
use Rattle.std.proofs.lemmas.List.Folds.{sum_by-replicate}
use Rattle.net_values.specs.PlaceSets.{has}
use Rattle.semiflow_elim.specs.Bases.{in_set}
use Rattle.semiflow_elim.specs.Tableaus.{size_of}
use Rattle.semiflow_elim.proofs.CandidateLemmas.{Extends}

-- a column that isn't in the set
pub outside : (taken : List Bool) (j : ℕ) → has taken j ≡ false → in_set taken j → ⊥
outside taken j out inside = false≢true (sym out ∙ inside)

pub outside_is : (b : Bool) → (b ≡ true → ⊥) → b ≡ false
outside_is true out = absurd (out refl)
outside_is false out = refl

pub set_extends : (taken : List Bool) (c : ℕ) → c < length taken → Extends (in_set taken) c (in_set (set taken c true))
set_extends taken c under = record {
  old = λ j inside. elim (cases_eq j c) [
    | inl same ↦ subst (λ (k : ℕ). has (set taken c true) k ≡ true) (sym same) (get_or-set_same taken c true false under)
    | inr other ↦ get_or-set_other taken c j true false other ∙ inside
  ];
  new = get_or-set_same taken c true false under;
  only = λ j inside. elim (cases_eq j c) [
    | inl same ↦ inr same
    | inr other ↦ inl (sym (get_or-set_other taken c j true false other) ∙ inside)
  ];
}

pub none_taken : (n j : ℕ) → in_set (replicate n false) j → ⊥
none_taken n j inside =
    elim (cases_lt j n) [
      | inl under ↦ false≢true (sym (get_or-replicate n j false false under) ∙ inside)
      | inr past ↦ false≢true (sym (get_or_past (replicate n false) j false (omega (arith, length-replicate {A = Bool} n false))) ∙ inside)
    ]

pub size_none : (n : ℕ) → size_of (replicate n false) ≡ 0
size_none n = let sum = sum_by-replicate (λ (b : Bool). cond {A = ℕ} b 1 0) n false in omega (arith, sum)

pub size_more : (taken : List Bool) (c : ℕ) → c < length taken → has taken c ≡ false → size_of (set taken c true) ≡ size_of taken + 1
size_more taken c under out =
    let f : Bool → ℕ = λ b. cond {A = ℕ} b 1 0 in
    let sums = sum_by-set f taken c true false under in
    let zero_here : f (has taken c) ≡ 0 = ap f out in
    omega arith

-- where fewer are taken than there are, one is left
pub one_left : (taken : List Bool) → size_of taken < length taken → (j : ℕ) × (j < length taken) × (has taken j ≡ false)
one_left [] few = absurd (omega arith)
one_left (false ∷ taken) few = (0, omega arith, refl)
one_left (true ∷ taken) few =
    let size = sum_by-cons (λ (b : Bool). cond {A = ℕ} b 1 0) true taken in
    let rest = one_left taken (omega arith) in
    (suc rest.0, omega (arith, rest.1), rest.2)

-- where as many are, none is
pub none_left : (taken : List Bool) → length taken ≤ size_of taken → (j : ℕ) → j < length taken → in_set taken j
none_left [] all j under = absurd (omega arith)
none_left (false ∷ taken) all j under =
    let size = sum_by-cons (λ (b : Bool). cond {A = ℕ} b 1 0) false taken in
    let most = count_by-le-length (λ (b : Bool). b) taken in
    absurd (omega arith)
none_left (true ∷ taken) all zero under = refl
none_left (true ∷ taken) all (suc j) under =
    let size = sum_by-cons (λ (b : Bool). cond {A = ℕ} b 1 0) true taken in
    none_left taken (omega arith) j (omega arith)

pub size_within : (taken : List Bool) → size_of taken ≤ length taken
size_within taken = count_by-le-length (λ (b : Bool). b) taken
