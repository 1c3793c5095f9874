-- The list of the places of a set ascends, and lists exactly those below the bound that are in the set.
use Rattle.std.proofs.Common.{◌≡◌, refl, sym, ap, ◌∙◌, subst, ℕ, zero, suc, ◌+◌, ◌<◌, ◌≤◌, List, [], ◌∷◌, ◌++◌, Bool, false, IsTrue, eqb, length, add-one, inl, inr, All, AllPairs, Contains, arith}
use Rattle.std.proofs.lemmas.Bool.{cases_Bool, cases_eq, cases_lt, both_ways, eq-eqb, eqb-true}
use Rattle.std.proofs.lemmas.List.{get_or_past}
use Rattle.std.proofs.lemmas.List.Elements.{All-push, Contains-push, Contains-append_left}
use Rattle.std.proofs.lemmas.List.Folds.{Any-from_list_any, list_any_at}
use Rattle.std.proofs.lemmas.List.Quantifiers.{all_pairs_push}
use Rattle.net_values.specs.Net.{Net}
use Rattle.net_values.specs.PlaceSets.{has}
use Rattle.net_values.specs.declared.limits.TheConstants.{MAX_PLACES}
use Rattle.closed_sets.specs.ClosedSets.{IsSiphon, IsNonempty}
use Rattle.closed_sets.specs.Commoner.{HasMarkedTrap}
use Rattle.closed_sets.proofs.Below.{same_bools, any_from}
use Rattle.certificates.specs.declared.certificate.Certificate.TheVariants.{BadSiphon}
use Rattle.certificates.specs.Conditions.{is_listed, IsAccepted}
use Rattle.certificates.specs.WellFormed.{ArePlaces}
use Rattle.cert_make.specs.PlaceLists.{places_below}

module _ (S : ℕ → Bool) where
  -- one place more
  pub place_more : (n : ℕ) → IsTrue (S n) → places_below (n + 1) S ≡ places_below n S ++ n ∷ []
  place_more n member = subst (λ (m : ℕ). places_below m S ≡ places_below n S ++ n ∷ []) (sym (add-one n)) (rw member refl)

  pub place_less : (n : ℕ) → S n ≡ false → places_below (n + 1) S ≡ places_below n S
  place_less n out = subst (λ (m : ℕ). places_below m S ≡ places_below n S) (sym (add-one n)) (rw out refl)

  listed_below : (n : ℕ) → All (λ p. (p < n) × IsTrue (S p)) (places_below n S)
  listed_below zero = λ k d within. absurd (omega arith)
  listed_below (suc n) =
      let before : All (λ p. (p < suc n) × IsTrue (S p)) (places_below n S) = λ k d within. let at = listed_below n k d within in (omega (arith, at.0), at.1) in
      elim (cases_Bool (S n)) [
        | inl member ↦ rw member (All-push (λ p. (p < suc n) × IsTrue (S p)) (places_below n S) n before (omega arith, member))
        | inr out ↦ rw out before
      ]

  pub places_ascending : (n : ℕ) → AllPairs (λ one later. one < later) (places_below n S)
  places_ascending zero = λ i j d less within. absurd (omega arith)
  places_ascending (suc n) =
      elim (cases_Bool (S n)) [
        | inl member ↦ rw member (all_pairs_push (λ one later. one < later) (places_below n S) n (places_ascending n) (λ k d within. (listed_below n k d within).0))
        | inr out ↦ rw out (places_ascending n)
      ]

  pub contains_place : (n p : ℕ) → p < n → IsTrue (S p) → Contains (places_below n S) p
  contains_place zero p below member = absurd (omega arith)
  contains_place (suc n) p below member =
      elim (cases_Bool (S n)) [
        | inl last ↦ rw last (elim (cases_eq p n) [
          | inl same ↦ subst (λ (q : ℕ). Contains (places_below n S ++ n ∷ []) q) (sym same) (Contains-push (places_below n S) n)
          | inr other ↦ Contains-append_left (places_below n S) (n ∷ []) p (contains_place n p (omega arith) member)
        ])
        | inr out ↦ elim (cases_eq p n) [
          | inl same ↦ absurd (both_ways (S n) out (subst (λ (q : ℕ). IsTrue (S q)) same member))
          | inr other ↦ rw out (contains_place n p (omega arith) member)
        ]
      ]

  pub listed_is : (n : ℕ) → ((p : ℕ) → IsTrue (S p) → p < n) → (p : ℕ) → is_listed (places_below n S) p ≡ S p
  listed_is n within p =
      same_bools (is_listed (places_below n S) p) (S p)
      (λ some. let found = Any-from_list_any (λ place. eqb place p) (places_below n S) some in
      let at = listed_below n found.0 found.1 found.2 in
      subst (λ (q : ℕ). IsTrue (S q)) (ap (λ (q : ℕ). q) found.3 ∙ eqb-true found.1 p found.4) at.1)
      (λ member. let there = contains_place n p (within p member) member in
      list_any_at (λ place. eqb place p) (places_below n S) there.0 p there.1 (eq-eqb _ p there.2))

-- the places outside the size are in no set
pub member_below : (n : ℕ) (members : List Bool) → length members ≡ n → (p : ℕ) → IsTrue (has members p) → p < n
member_below n members size p member =
    elim (cases_lt p n) [
      | inl below ↦ below
      | inr past ↦ absurd (both_ways (has members p) (get_or_past members p false (omega arith)) member)
    ]

module _ (net : Net) (members : List Bool) (size : length members ≡ net.places) where
  pub bad_well_formed : net.places ≤ MAX_PLACES → IsNonempty net (has members) → ArePlaces (places_below net.places (has members))
  bad_well_formed limit some =
      let at = any_from net.places (has members) some in
      let there = contains_place (has members) net.places at.0 at.1 at.2 in
      record {
        some = omega (arith, there.1);
        ascending = places_ascending (has members) net.places;
        within = λ k d inside. let below = listed_below (has members) net.places k d inside in omega (arith, below.0, limit);
      }

  pub bad_accepted : IsSiphon net (has members) → (HasMarkedTrap net (has members) → ⊥) → IsAccepted net (BadSiphon (places_below net.places (has members)))
  bad_accepted siphon bad number is_second =
      let same : (p : ℕ) → has members p ≡ is_listed (places_below net.places (has members)) p = λ p. sym (listed_is (has members) net.places (member_below net.places members size) p) in
      record {
        within = λ k d inside. (listed_below (has members) net.places k d inside).0;
        siphon = subst (λ (S : ℕ → Bool). IsSiphon net S) (λ i p. same p i) siphon;
        bad = subst (λ (S : ℕ → Bool). HasMarkedTrap net S → ⊥) (λ i p. same p i) bad;
      }
