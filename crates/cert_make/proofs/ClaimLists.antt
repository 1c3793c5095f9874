-- The claims of the bounded places, and that the whole certificate is well formed and accepted.
use Rattle.std.proofs.Common.{◌≡◌, refl, sym, ap, ◌∙◌, subst, ℕ, zero, suc, ◌+◌, ◌-◌, ◌/◌, ◌^◌, ◌<◌, ◌≤◌, ℤ, pos, IsTrue, List, [], ◌∷◌, ◌++◌, Option, None, Some, MatchOption, length, get_or, add-one, All, AllPairs, arith}
use Rattle.std.proofs.lemmas.Bool.{eq-eqb}
use Rattle.std.proofs.lemmas.List.{append-nil}
use Rattle.std.proofs.lemmas.List.Elements.{All-push, Contains-get_or}
use Rattle.std.proofs.lemmas.List.Quantifiers.{all_pairs_push}
use Rattle.std.specs.Cmp.Lexicographic.{slice_cmp}
use Rattle.std.specs.Ordering.{nat_cmp}
use Rattle.net_values.specs.Net.{Net}
use Rattle.net_values.specs.TheList.{IsTheList}
use Rattle.net_values.specs.declared.limits.TheConstants.{MAX_PLACES}
use Rattle.closed_sets.proofs.Below.{any_at}
use Rattle.incidence.specs.Invariance.{weighted_tokens}
use Rattle.incidence.specs.Matrix.{incidence_of}
use Rattle.incidence.specs.Semiflow.{all_columns}
use Rattle.semiflow_elim.specs.Bases.{IsMinimalRow}
use Rattle.bounds.specs.declared.place_bound.PlaceBound.{PlaceBound}
use Rattle.bounds.specs.Listed.{kept_at, row_at, told, IsFirstLeast, IsLeastOfRows, NameFirstRows, AreNarrowRows}
use Rattle.bounds.proofs.AllPlaces.{all_narrow}
use Rattle.certificates.specs.declared.certificate.Claim.{Claim}
use Rattle.certificates.specs.Conditions.{vector_of, flow_of, FlowHolds, ClaimHolds, IsAccepted}
use Rattle.certificates.specs.WellFormed.{IsFlow, AreClaims, IsNumberFrom, IsWellFormed}
use Rattle.cert_make.specs.BoundCertificates.{names, is_named, IsWithin, AreWithin, flow_at, flows_below, number_of, claim_of, claims_below, bounds_certificate, AreNarrowFlows}
use Rattle.cert_make.specs.Making.{AreVectors}
use Rattle.cert_make.proofs.Counts.{numbers_fit}
use Rattle.cert_make.proofs.FlowLists.{each_flow, flow_found}
use Rattle.cert_make.proofs.Terms.{flow_vector, row_flow, row_holds}

-- the claim of a bounded place
abbrev pub claim_at : (ℕ → ℕ) → ℕ → PlaceBound → Claim
claim_at number p bound = record { place = p; bound = pos bound.bound; flow = number bound.row }

module _ (number : ℕ → ℕ) (bounds : List (Option PlaceBound)) where
  all_with : (P : Claim → Type 0) (claims : List Claim) (p : ℕ) (kept : Option PlaceBound) → All P claims → ((bound : PlaceBound) → kept ≡ Some bound → P (claim_at number p bound)) → All P (claims ++ claim_of number p (told kept))
  all_with P claims p None all each = subst (All P) (sym (append-nil claims)) all
  all_with P claims p (Some bound) all each = All-push P claims (claim_at number p bound) all (each bound refl)

  pub each_claim : (P : Claim → Type 0) (n : ℕ) → ((p : ℕ) → p < n → (bound : PlaceBound) → kept_at bounds p ≡ Some bound → P (claim_at number p bound)) → All P (claims_below number bounds n)
  each_claim P zero each = λ k d within. absurd (omega arith)
  each_claim P (suc n) each =
      all_with P (claims_below number bounds n) n (kept_at bounds n) (each_claim P n (λ p below. each p (omega arith))) (each n (omega arith))

  pairs_with : (claims : List Claim) (p : ℕ) (kept : Option PlaceBound) → AllPairs (λ one later. one.place < later.place) claims → All (λ claim. claim.place < p) claims → AllPairs (λ one later. one.place < later.place) (claims ++ claim_of number p (told kept))
  pairs_with claims p None pairs below = subst (AllPairs (λ one later. one.place < later.place)) (sym (append-nil claims)) pairs
  pairs_with claims p (Some bound) pairs below = all_pairs_push (λ one later. one.place < later.place) claims (claim_at number p bound) pairs below

  pub claims_ascending : (n : ℕ) → AllPairs (λ one later. one.place < later.place) (claims_below number bounds n)
  claims_ascending zero = λ i j d less within. absurd (omega arith)
  claims_ascending (suc n) =
      pairs_with (claims_below number bounds n) n (kept_at bounds n) (claims_ascending n) (each_claim (λ claim. claim.place < n) n (λ p below bound is. below))

  pub claims_more : (p : ℕ) → claims_below number bounds (p + 1) ≡ claims_below number bounds p ++ claim_of number p (told (kept_at bounds p))
  claims_more p = subst (λ (m : ℕ). claims_below number bounds m ≡ claims_below number bounds p ++ claim_of number p (told (kept_at bounds p))) (sym (add-one p)) refl

-- claims by numbers that are the same for the rows that are named
same_claim : (one other : ℕ → ℕ) (p rows : ℕ) (bound : Option (ℤ × ℕ)) → ((k : ℕ) → k < rows → one k ≡ other k) → IsWithin rows bound → claim_of one p bound ≡ claim_of other p bound
same_claim one other p rows None same within = refl
same_claim one other p rows (Some bound) same within = ap (λ (k : ℕ). record { place = p; bound = bound.0; flow = k } ∷ []) (same bound.1 within)

pub same_claims : (one other : ℕ → ℕ) (bounds : List (Option PlaceBound)) (rows n : ℕ) → ((k : ℕ) → k < rows → one k ≡ other k) → AreWithin rows bounds → n ≤ length bounds → claims_below one bounds n ≡ claims_below other bounds n
same_claims one other bounds rows zero same within past = refl
same_claims one other bounds rows (suc n) same within past =
    ap (λ (claims : List Claim). claims ++ claim_of one n (told (kept_at bounds n))) (same_claims one other bounds rows n same within (omega arith))
    ∙ ap (λ (claims : List Claim). claims_below other bounds n ++ claims) (same_claim one other n rows (told (kept_at bounds n)) same (within n (omega arith)))

row_within : (net : Net) (rows : List (List ℕ)) (p : ℕ) (kept : Option PlaceBound) → IsLeastOfRows net rows (length rows) p kept → IsWithin (length rows) (told kept)
row_within net rows p None least = tt
row_within net rows p (Some kept) least = least.within

pub rows_within : (net : Net) (rows : List (List ℕ)) (bounds : List (Option PlaceBound)) → length bounds ≡ net.places → NameFirstRows net rows bounds → AreWithin (length rows) bounds
rows_within net rows bounds size first p below = row_within net rows p (kept_at bounds p) (first p (omega (arith, size)))

module _ (net : Net) (rows : List (List ℕ)) (bounds : List (Option PlaceBound)) (limit : net.places ≤ MAX_PLACES) (list : IsTheList (slice_cmp nat_cmp) (IsMinimalRow (incidence_of net) all_columns) rows) (size : length bounds ≡ net.places) (first : NameFirstRows net rows bounds) (tokens : AreNarrowRows net rows (length rows)) where
  minimal : (k : ℕ) → k < length rows → IsMinimalRow (incidence_of net) all_columns (get_or rows k [])
  minimal k within = (list.members (get_or rows k [])).0 (Contains-get_or rows k [] within)

  pub row_size : (k : ℕ) → k < length rows → length (get_or rows k []) ≡ net.places
  row_size k within = (minimal k within).size

  abbrev flows : List (List (ℕ × ℤ))
  flows = flows_below rows (is_named bounds) (length rows)

  abbrev number : ℕ → ℕ
  number = number_of rows (is_named bounds)

  -- a place's bound is by a named row
  first_at : (p : ℕ) → p < net.places → (bound : PlaceBound) → kept_at bounds p ≡ Some bound → IsFirstLeast net rows (length rows) p bound
  first_at p below bound is = subst (λ (kept : Option PlaceBound). IsLeastOfRows net rows (length rows) p kept) is (first p below)

  named_at : (p : ℕ) → p < net.places → (bound : PlaceBound) → kept_at bounds p ≡ Some bound → IsTrue (is_named bounds bound.row)
  named_at p below bound is =
      any_at (length bounds) (λ q. names (told (kept_at bounds q)) bound.row) p (omega (arith, size))
      (subst (λ (kept : Option PlaceBound). IsTrue (names (told kept) bound.row)) (sym is) (eq-eqb bound.row bound.row refl))

  bound_fits : (p : ℕ) → (bound : PlaceBound) → kept_at bounds p ≡ Some bound → bound.bound < 2 ^ 127
  bound_fits p bound is =
      let fits = (all_narrow net rows (length rows) bounds size tokens first).narrow p in
      subst (λ (kept : Option PlaceBound). MatchOption kept (Unit {0}) (λ b. b.bound < 2 ^ 127)) is fits

  pub claims_formed : AreClaims (claims_below number bounds (length bounds))
  claims_formed = record {
    ascending = claims_ascending number bounds (length bounds);
    places = each_claim number bounds (λ claim. claim.place < MAX_PLACES) (length bounds) (λ p below bound is. omega (arith, size, limit));
    bounds = each_claim number bounds (λ claim. IsNumberFrom 0 claim.bound) (length bounds) (λ p below bound is. (omega arith, bound_fits p bound is));
    flows = each_claim number bounds (λ claim. (1 ≤ claim.flow) × (claim.flow < 2 ^ 32)) (length bounds)
        (λ p below bound is. (omega arith, numbers_fit rows bounds (omega (arith, size, limit)) bound.row));
  }

  claim_holds : (p : ℕ) → p < length bounds → (bound : PlaceBound) → kept_at bounds p ≡ Some bound → ClaimHolds net flows (claim_at number p bound)
  claim_holds p below bound is =
      let under : p < net.places = omega (arith, size) in
      let least = first_at p under bound is in
      let found = flow_found rows (is_named bounds) (length rows) bound.row least.within (named_at p under bound is) in
      let less = found.0 in
      let back : number bound.row - 1 ≡ length (flows_below rows (is_named bounds) bound.row) = omega arith in
      let there : flow_of flows (claim_at number p bound) ≡ flow_at rows bound.row = ap (λ (k : ℕ). get_or flows k []) back ∙ found.1 in
      let vector : (q : ℕ) → row_at rows bound.row q ≡ vector_of (flow_of flows (claim_at number p bound)) q =
      λ q. sym (ap (λ (flow : List (ℕ × ℤ)). vector_of flow q) there ∙ flow_vector (get_or rows bound.row []) q) in
      let gives = least.gives in
      record {
        place = under;
        flow = omega (arith, less);
        covers = subst (λ (y : ℕ → ℕ). 0 < y p) (λ i q. vector q i) least.covers;
        bound = subst (λ (y : ℕ → ℕ). weighted_tokens net y net.initial / y p ≤ bound.bound) (λ i q. vector q i) (omega (arith, gives));
      }

  pub bounds_formed : AreVectors rows (is_named bounds) (length rows) → IsWellFormed (bounds_certificate rows bounds)
  bounds_formed vectors = (
    each_flow rows (is_named bounds) IsFlow (length rows) (λ k within used. row_flow net (get_or rows k []) (row_size k within) (minimal k within).minimal.semiflow (vectors k within used) limit),
    claims_formed,
  )

  pub bounds_accepted : AreNarrowFlows net rows (is_named bounds) (length rows) → IsAccepted net (bounds_certificate rows bounds)
  bounds_accepted narrow number' = record {
    flow = λ k within is. each_flow rows (is_named bounds) (FlowHolds net) (length rows)
        (λ j inside used. row_holds net (get_or rows j []) (row_size j inside) (minimal j inside).minimal.semiflow (narrow j inside used) (tokens j inside)) k [] within;
    claim = λ k within is. each_claim number bounds (ClaimHolds net flows) (length bounds) claim_holds k record { place = 0; bound = pos 0; flow = 0 } within;
  }
