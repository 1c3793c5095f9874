-- The parts of a bound certificate as they are made: one row more, and the whole.
use Rattle.std.proofs.Common.{◌≡◌, sym, ap, ◌∙◌, subst, ℕ, ◌+◌, ℤ, Bool, List, [], ◌∷◌, ◌++◌, Option, length, length-append, get_or, slice_index, inl, inr, arith}
use Rattle.std.proofs.lemmas.Bool.{cases_eq}
use Rattle.std.proofs.lemmas.List.{get_or_append_left, get_or_push}
use Rattle.bounds.specs.declared.place_bound.PlaceBound.{PlaceBound}
use Rattle.certificates.specs.declared.certificate.Certificate.{Certificate}
use Rattle.certificates.specs.declared.certificate.Certificate.TheVariants.{Bounds}
use Rattle.certificates.specs.declared.certificate.Claim.{Claim}
use Rattle.cert_make.specs.BoundCertificates.{is_named, AreWithin, flows_below, number_of, claims_below, bounds_certificate}
use Rattle.cert_make.specs.Making.{AreNumbers}
use Rattle.cert_make.proofs.ClaimLists.{same_claims}

pub numbers_more : (rows : List (List ℕ)) (named : ℕ → Bool) (n number : ℕ) (old new : List ℕ) → AreNumbers rows named n old → number ≡ number_of rows named n → new ≡ old ++ number ∷ [] → AreNumbers rows named (n + 1) new
numbers_more rows named n number old new numbers is pushed =
    let count = numbers.count in
    let more : length new ≡ length (old ++ number ∷ []) = ap length pushed in
    let longer = length-append old (number ∷ []) in
    record {
      count = omega (arith, count, more, longer);
      each = λ k below.
          let here : slice_index new k ≡ get_or (old ++ number ∷ []) k 0 = ap (λ (xs : List ℕ). get_or xs k 0) pushed in
          elim (cases_eq k n) [
            | inl same ↦ here ∙ get_or_push old number 0 k (omega arith) ∙ is ∙ ap (number_of rows named) (sym same)
            | inr other ↦ here ∙ get_or_append_left old (number ∷ []) 0 k (omega arith) ∙ numbers.each k (omega arith)
          ];
    }

pub made_exact : (rows : List (List ℕ)) (bounds : List (Option PlaceBound)) (named : ℕ → Bool) (flows : List (List (ℕ × ℤ))) (claims : List Claim) (numbers : List ℕ) → ◌≡◌ {A = ℕ → Bool} named (is_named bounds) → flows ≡ flows_below rows named (length rows) → AreNumbers rows named (length rows) numbers → claims ≡ claims_below (slice_index numbers) bounds (length bounds) → AreWithin (length rows) bounds → ◌≡◌ {A = Certificate} (Bounds record { flows = flows; claims = claims }) (bounds_certificate rows bounds)
made_exact rows bounds named flows claims numbers named_is flows_are numbers_are claims_are within =
    let listed : flows ≡ flows_below rows (is_named bounds) (length rows) = flows_are ∙ ap (λ (test : ℕ → Bool). flows_below rows test (length rows)) named_is in
    let numbered : AreNumbers rows (is_named bounds) (length rows) numbers = subst (λ (test : ℕ → Bool). AreNumbers rows test (length rows) numbers) named_is numbers_are in
    let claimed : claims ≡ claims_below (number_of rows (is_named bounds)) bounds (length bounds) = claims_are ∙ same_claims (slice_index numbers) (number_of rows (is_named bounds)) bounds (length rows) (length bounds) numbered.each within (omega arith) in
    λ i. Bounds record { flows = listed i; claims = claimed i }
