-- A property that is decided for each set of one size has its list: the sets whose first place is out come
-- before those whose first place is in, and so on with the other places.
use Rattle.std.proofs.Common.{◌≡◌, refl, sym, ap, ◌∙◌, subst, ℕ, zero, suc, ◌<◌, ◌⊎◌, List, [], ◌∷◌, ◌++◌, Bool, true, false, length, get_or, map, inl, inr, AllPairs, Contains, arith}
use Rattle.std.proofs.lemmas.List.{get_or-map, length-map}
use Rattle.std.proofs.lemmas.List.Elements.{Contains-get_or, Contains-append_left, Contains-append_right, Contains-append_cases}
use Rattle.std.specs.declared.cmp.Ordering.TheVariants.{Less}
use Rattle.std.specs.Cmp.Lexicographic.{slice_cmp}
use Rattle.std.specs.Ordering.{bool_cmp}
use Rattle.net_values.specs.TheList.{IsTheList}
use Rattle.siphon_branch.proofs.Lists.{pairs_append, contains_one, contains_none}

-- the thing holds, or it doesn't
abbrev pub Decided : Type 0 → Type 0
Decided P = P ⊎ (P → ⊥)

-- the sets of this size with the property
abbrev pub Sized : ℕ → (List Bool → Type 0) → List Bool → Type 0
Sized n P set = (length set ≡ n) × P set

abbrev with_first : Bool → List Bool → List Bool
with_first b set = b ∷ set

contains_map : (b : Bool) (sets : List (List Bool)) (set : List Bool) → Contains sets set → Contains (map (with_first b) sets) (b ∷ set)
contains_map b sets set there =
    (there.0, omega (arith, there.1, length-map sets (with_first b)), get_or-map (with_first b) sets there.0 set (b ∷ set) there.1 ∙ ap (with_first b) there.2)

map_contains : (b : Bool) (sets : List (List Bool)) (set : List Bool) → Contains (map (with_first b) sets) set → (rest : List Bool) × Contains sets rest × (b ∷ rest ≡ set)
map_contains b sets set there =
    let within : there.0 < length sets = omega (arith, there.1, length-map sets (with_first b)) in
    (get_or sets there.0 [], Contains-get_or sets there.0 [] within, sym (get_or-map (with_first b) sets there.0 [] set within) ∙ there.2)

pairs_map : (R : List Bool → List Bool → Type 0) (b : Bool) (sets : List (List Bool)) → ((one later : List Bool) → R one later → R (b ∷ one) (b ∷ later)) → AllPairs R sets → AllPairs R (map (with_first b) sets)
pairs_map R b sets keeps pairs i j d less within =
    let size = length-map sets (with_first b) in
    subst (λ x. R x (get_or (map (with_first b) sets) j d)) (sym (get_or-map (with_first b) sets i [] d (omega arith)))
    (subst (λ y. R (b ∷ get_or sets i []) y) (sym (get_or-map (with_first b) sets j [] d (omega arith)))
    (keeps _ _ (pairs i j [] less (omega arith))))

nothing_only : (set : List Bool) → length set ≡ 0 → set ≡ []
nothing_only [] size = refl
nothing_only (b ∷ set) size = absurd (omega arith)

module _ (n : ℕ) (P : List Bool → Type 0) (low high : List (List Bool)) (lower : IsTheList (slice_cmp bool_cmp) (Sized n (λ set. P (false ∷ set))) low) (higher : IsTheList (slice_cmp bool_cmp) (Sized n (λ set. P (true ∷ set))) high) where
  abbrev both : List (List Bool)
  both = map (with_first false) low ++ map (with_first true) high

  across : (one later : List Bool) → Contains (map (with_first false) low) one → Contains (map (with_first true) high) later → slice_cmp bool_cmp one later ≡ Less
  across one later first then =
      let out = map_contains false low one first in
      let in' = map_contains true high later then in
      subst (λ x. slice_cmp bool_cmp x later ≡ Less) out.2 (subst (λ y. slice_cmp bool_cmp (false ∷ out.0) y ≡ Less) in'.2 refl)

  from_both : (set : List Bool) → Contains both set → Sized (suc n) P set
  from_both set there = elim (Contains-append_cases (map (with_first false) low) (map (with_first true) high) set there) [
    | inl first ↦
        let out = map_contains false low set first in
        let holds = (lower.members out.0).0 out.1 in
        subst (Sized (suc n) P) out.2 (ap suc holds.0, holds.1)
    | inr then ↦
        let in' = map_contains true high set then in
        let holds = (higher.members in'.0).0 in'.1 in
        subst (Sized (suc n) P) in'.2 (ap suc holds.0, holds.1)
  ]

  to_both : (set : List Bool) → Sized (suc n) P set → Contains both set
  to_both [] holds = absurd (omega (arith, holds.0))
  to_both (false ∷ set) holds =
      Contains-append_left (map (with_first false) low) (map (with_first true) high) (false ∷ set) (contains_map false low set ((lower.members set).1 (omega (arith, holds.0), holds.1)))
  to_both (true ∷ set) holds =
      Contains-append_right (map (with_first false) low) (map (with_first true) high) (true ∷ set) (contains_map true high set ((higher.members set).1 (omega (arith, holds.0), holds.1)))

  list_of_both : IsTheList (slice_cmp bool_cmp) (Sized (suc n) P) both
  list_of_both = record {
    ascending = pairs_append (λ one later. slice_cmp bool_cmp one later ≡ Less) (map (with_first false) low) (map (with_first true) high)
        (pairs_map (λ one later. slice_cmp bool_cmp one later ≡ Less) false low (λ one later less. less) lower.ascending)
        (pairs_map (λ one later. slice_cmp bool_cmp one later ≡ Less) true high (λ one later less. less) higher.ascending) across;
    members = λ set. (from_both set, to_both set);
  }

pub the_list_of : (n : ℕ) (P : List Bool → Type 0) → ((set : List Bool) → Decided (P set)) → (list : List (List Bool)) × IsTheList (slice_cmp bool_cmp) (Sized n P) list
the_list_of zero P decide =
    elim (decide []) [
      | inl holds ↦ (
        [] ∷ [],
        record {
          ascending = λ i j d less within. absurd (omega arith);
          members = λ set. (
            λ there. subst (Sized 0 P) (sym (contains_one [] set there)) (refl, holds),
            λ some. (0, omega arith, sym (nothing_only set some.0)),
          );
        },
      )
      | inr fails ↦ (
        [],
        record {
          ascending = λ i j d less within. absurd (omega arith);
          members = λ set. (λ there. absurd (contains_none set there), λ some. absurd (fails (subst P (nothing_only set some.0) some.1)));
        },
      )
    ]
the_list_of (suc n) P decide =
    let low = the_list_of n (λ set. P (false ∷ set)) (λ set. decide (false ∷ set)) in
    let high = the_list_of n (λ set. P (true ∷ set)) (λ set. decide (true ∷ set)) in
    (both n P low.0 high.0 low.1 high.1, list_of_both n P low.0 high.0 low.1 high.1)
