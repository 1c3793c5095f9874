-- The vector of a flow is written from its last term to its first, so that the first term of a place decides; and
-- what a vector that is equal to it everywhere meets, the flow meets.
use Rattle.std.proofs.Common.{◌≡◌, ◌≢◌, sym, ap, ◌∙◌, subst, ℕ, suc, ◌^◌, ◌<◌, ◌≤◌, cond, List, ◌∷◌, Bool, length, get_or, set, drop, inl, inr, arith}
use Rattle.std.proofs.Math.Seq.{drop-cons}
use Rattle.std.proofs.lemmas.Bool.{cases_eq, eq-eqb, ne_eqb}
use Rattle.std.proofs.lemmas.List.{get_or-set_same, get_or-set_other}
use Rattle.std.specs.Prelude.{ℤ, pos, negsuc, slice_index}
use Rattle.std.proofs.Common.{to_z, of_z, rules}
use Rattle.std.specs.Int.{w128}
use Rattle.std.proofs.lemmas.Int.{to_z-of_z}
use Rattle.certificates.specs.WellFormed.{IsNumberFrom}
use mathlib.Core.Path.{fun_ext}
use Rattle.net_values.specs.Net.{Net}
use Rattle.net_values.specs.Vectors.{positive_part}
use Rattle.incidence.specs.Invariance.{weighted_tokens}
use Rattle.certificates.specs.declared.certificate.Claim.{Claim}
use Rattle.certificates.specs.Conditions.{vector_of, flow_of, FlowHolds, ClaimHolds}
use Rattle.cert_check.specs.Flows.{IsBalanced, LiesWithin, BoundsPlace}

-- a number in its range is what is read back
pub number_kept : (least : ℕ) (z : ℤ) → IsNumberFrom least z → to_z w128 (of_z w128 z) ≡ z
number_kept least (pos n) parts = to_z-of_z w128 (pos n) (search (arith, rules))
number_kept least (negsuc n) parts = absurd parts

at_term : (term : ℕ × ℤ) (rest : List (ℕ × ℤ)) (p : ℕ) → term.0 ≡ p → vector_of (term ∷ rest) p ≡ positive_part term.1
at_term term rest p same = ap (λ (b : Bool). cond b (positive_part term.1) (vector_of rest p)) (eq-eqb term.0 p same)

past_term : (term : ℕ × ℤ) (rest : List (ℕ × ℤ)) (p : ℕ) → term.0 ≢ p → vector_of (term ∷ rest) p ≡ vector_of rest p
past_term term rest p other = ap (λ (b : Bool). cond b (positive_part term.1) (vector_of rest p)) (ne_eqb term.0 p other)

pub term_loaded : (flow : List (ℕ × ℤ)) (i : ℕ) (term : ℕ × ℤ) (old new : List ℕ) → i < length flow → get_or flow i (0, pos 0) ≡ term → new ≡ set old term.0 (positive_part term.1) → term.0 < length old → ((p : ℕ) → slice_index old p ≡ vector_of (drop (suc i) flow) p) → (p : ℕ) → slice_index new p ≡ vector_of (drop i flow) p
term_loaded flow i term old new below read is inside loaded p =
    let split : drop i flow ≡ term ∷ drop (suc i) flow = drop-cons flow i (0, pos 0) below ∙ ap (λ (t : ℕ × ℤ). t ∷ drop (suc i) flow) read in
    elim (cases_eq term.0 p) [
      | inl same ↦
          ap (λ (xs : List ℕ). slice_index xs p) is ∙ ap (λ (q : ℕ). slice_index (set old term.0 (positive_part term.1)) q) (sym same)
          ∙ get_or-set_same old term.0 (positive_part term.1) 0 inside
          ∙ sym (ap (λ (xs : List (ℕ × ℤ)). vector_of xs p) split ∙ at_term term (drop (suc i) flow) p same)
      | inr other ↦
          ap (λ (xs : List ℕ). slice_index xs p) is ∙ get_or-set_other old term.0 p (positive_part term.1) 0 (λ same. other (sym same))
          ∙ loaded p
          ∙ sym (ap (λ (xs : List (ℕ × ℤ)). vector_of xs p) split ∙ past_term term (drop (suc i) flow) p other)
    ]

module _ (net : Net) (flow : List (ℕ × ℤ)) (y : ℕ → ℕ) (same : (p : ℕ) → y p ≡ vector_of flow p) where
  vectors : y ≡ vector_of flow
  vectors = fun_ext same

  pub flow_met : LiesWithin net.places flow → IsBalanced net y → weighted_tokens net y net.initial < 2 ^ 127 → FlowHolds net flow
  flow_met places balanced narrow =
      let all : IsBalanced net (vector_of flow) = subst (IsBalanced net) vectors balanced in
      record {
        places = places;
        balanced = λ t below. (all t below).same;
        narrow = λ t below. (all t below).narrow;
        tokens = subst (λ (z : ℕ → ℕ). weighted_tokens net z net.initial < 2 ^ 127) vectors narrow;
      }

  pub flow_balanced : FlowHolds net flow → IsBalanced net y
  flow_balanced holds = subst (IsBalanced net) (sym vectors) (λ t below. record { same = holds.balanced t below; narrow = holds.narrow t below })

  pub flow_narrow : FlowHolds net flow → weighted_tokens net y net.initial < 2 ^ 127
  flow_narrow holds = subst (λ (z : ℕ → ℕ). weighted_tokens net z net.initial < 2 ^ 127) (sym vectors) holds.tokens

  pub claim_met : (flows : List (List (ℕ × ℤ))) (claim : Claim) → flow ≡ flow_of flows claim → claim.place < net.places → claim.flow ≤ length flows → BoundsPlace net y claim.place claim.bound → ClaimHolds net flows claim
  claim_met flows claim is below exists bounds =
      let own : BoundsPlace net (vector_of (flow_of flows claim)) claim.place claim.bound =
      subst (λ (z : ℕ → ℕ). BoundsPlace net z claim.place claim.bound) (vectors ∙ ap vector_of is) bounds
      in
      record { place = below; flow = exists; covers = own.covers; bound = own.enough }

  pub claim_bounds : (flows : List (List (ℕ × ℤ))) (claim : Claim) → flow ≡ flow_of flows claim → ClaimHolds net flows claim → BoundsPlace net y claim.place claim.bound
  claim_bounds flows claim is holds =
      subst (λ (z : ℕ → ℕ). BoundsPlace net z claim.place claim.bound) (sym (vectors ∙ ap vector_of is)) record { covers = holds.covers; enough = holds.bound }
