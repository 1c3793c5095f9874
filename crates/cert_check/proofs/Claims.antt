-- An accepted certificate's claim is true. The lines of a tree part the siphons: where a line's condition holds and
-- the classes that it leaves meet Commoner's condition, its own class does. A flow that holds is a semiflow of
-- places, so its weighted tokens bound each place that it covers.
use Rattle.std.proofs.Common.{◌≡◌, refl, sym, subst, ℕ, ◌+◌, ◌-◌, ◌*◌, ◌<◌, ◌≤◌, ◌==◌, List, [], ◌∷◌, length, All, Bool, false, IsTrue, inl, inr, arith}
use Rattle.std.proofs.lemmas.Bool.{false≢true, cases_Bool, or_cases, or_left, eq-eqb, eqb-true}
use Rattle.std.proofs.lemmas.List.{get_or_default}
use Rattle.std.proofs.lemmas.Nat.{le-div}
use Rattle.std.specs.Prelude.{pos, slice_index_or}
use Rattle.net_values.specs.Net.{Net}
use Rattle.closed_sets.specs.ClosedSets.{IsSiphon, IsNonempty}
use Rattle.closed_sets.specs.Commoner.{HasMarkedTrap, MeetsCommoner}
use Rattle.closed_sets.specs.Growth.{Belongs}
use Rattle.closed_sets.proofs.Below.{any_at}
use Rattle.closed_sets.proofs.Firing.{commoner_excludes}
use Rattle.incidence.specs.Invariance.{weighted_tokens}
use Rattle.incidence.proofs.Firing.{semiflows_bound_places}
use Rattle.certificates.specs.declared.certificate.BoundLines.{BoundLines}
use Rattle.certificates.specs.declared.certificate.Certificate.{Certificate}
use Rattle.certificates.specs.declared.certificate.Certificate.TheVariants.{Bounds, BadSiphon, Commoner}
use Rattle.certificates.specs.declared.certificate.Claim.{Claim}
use Rattle.certificates.specs.declared.certificate.TreeLine.{TreeLine}
use Rattle.certificates.specs.declared.certificate.TreeLine.TheVariants.{Split, Empty, Trap}
use Rattle.certificates.specs.Claims.{BoundHolds, ArgueAgainst, HasTrueClaim, ExcludesDead}
use Rattle.certificates.specs.Conditions.{SiphonClass, all_siphons, without, containing, is_listed, vector_of, flow_of, FlowHolds, ClaimHolds, BadSiphonHolds, IsAccepted}
use Rattle.certificates.specs.WellFormed.{AreTrees, AreClaims, ArePlaces, IsFlow, IsTree, IsWellFormed}
use Rattle.certificates.proofs.Trees.{AllHold, all_hold}

-- every nonempty siphon of the class has a marked trap in it
abbrev pub Meets : Net → SiphonClass → Type 0
Meets net class = (S : ℕ → Bool) → IsSiphon net S → IsNonempty net S → Belongs net class.contains class.avoids S → HasMarkedTrap net S

-- and so for each class of a list
abbrev pub AllMeet : Net → List SiphonClass → Type 0
AllMeet net [] = Unit {0}
AllMeet net (class ∷ classes) = Meets net class × AllMeet net classes

split_meets : (net : Net) (class : SiphonClass) (p : ℕ) → Meets net (without class p) → Meets net (containing class p) → Meets net class
split_meets net class p left right S siphon some belongs =
    elim (cases_Bool (S p)) [
      | inl inside ↦ right S siphon some record {
        has_all = λ q here member. elim (or_cases _ (class.contains q) member) [
          | inl same ↦ subst (λ (r : ℕ). IsTrue (S r)) (sym (eqb-true q p same)) inside
          | inr other ↦ belongs.has_all q here other
        ];
        has_none = belongs.has_none;
      }
      | inr outside ↦ left S siphon some record {
        has_all = belongs.has_all;
        has_none = λ q here member. elim (or_cases _ (class.avoids q) member) [
          | inl same ↦ subst (λ (r : ℕ). S r ≡ false) (sym (eqb-true q p same)) outside
          | inr other ↦ belongs.has_none q here other
        ];
      }
    ]

trap_meets : (net : Net) (class : SiphonClass) → HasMarkedTrap net class.contains → Meets net class
trap_meets net class found S siphon some belongs = record {
  trap = found.trap;
  closed = found.closed;
  within = λ q here member. belongs.has_all q here (found.within q here member);
  marked = found.marked;
}

pub all_meet : (net : Net) (lines : List TreeLine) (classes : List SiphonClass) → AreTrees lines (length classes) → AllHold net lines classes → AllMeet net classes
all_meet net [] [] trees all = tt
all_meet net [] (class ∷ classes) trees all = absurd (omega (arith, trees))
all_meet net (line ∷ lines) [] trees all = tt
all_meet net (Split p ∷ lines) (class ∷ classes) trees all =
    let rest = all_meet net lines (without class p ∷ containing class p ∷ classes) trees all.1 in
    (split_meets net class p rest.0 rest.1.0, rest.1.1)
all_meet net (Empty ∷ lines) (class ∷ classes) trees all =
    (λ S siphon some belongs. absurd (all.0 S siphon some belongs), all_meet net lines classes trees all.1)
all_meet net (Trap ∷ lines) (class ∷ classes) trees all =
    (trap_meets net class all.0, all_meet net lines classes trees all.1)

-- every siphon belongs to the first class of a tree
tree_claims : (net : Net) (tree : List TreeLine) → IsTree tree → IsAccepted net (Commoner tree) → MeetsCommoner net
tree_claims net tree well accepted S siphon some =
    let all = all_hold net tree (all_siphons ∷ []) well.one (λ k below. accepted (k + 2) k below refl) in
    (all_meet net tree (all_siphons ∷ []) well.one all).0 S siphon some record {
      has_all = λ p below member. absurd (false≢true member);
      has_none = λ p below member. absurd (false≢true member);
    }

bad_claims : (net : Net) (places : List ℕ) → ArePlaces places → BadSiphonHolds net places → ArgueAgainst net places
bad_claims net [] well holds = absurd (let some = well.some in omega arith)
bad_claims net (p ∷ ps) well holds =
    let nonempty : IsNonempty net (is_listed (p ∷ ps)) = any_at net.places (is_listed (p ∷ ps)) p (holds.within 0 p (omega arith)) (or_left (p == p) (is_listed ps p) (eq-eqb p p refl)) in
    record {
      siphon = holds.siphon;
      nonempty = nonempty;
      bad = holds.bad;
      fails = λ meets. holds.bad (meets (is_listed (p ∷ ps)) holds.siphon nonempty);
    }

bound_claims : (net : Net) (lines : BoundLines) → All IsFlow lines.flows × AreClaims lines.claims → IsAccepted net (Bounds lines) → All (BoundHolds net) lines.claims
bound_claims net lines well accepted k d below M reachable =
    let claim : Claim = slice_index_or lines.claims k d in
    let holds : ClaimHolds net lines.flows claim = subst (ClaimHolds net lines.flows) (get_or_default lines.claims k record { place = 0; bound = pos 0; flow = 0 } d below) ((accepted (length lines.flows + k + 2)).claim k below refl) in
    let number : 1 ≤ claim.flow = (well.1.flows k d below).0 in
    let exists : claim.flow - 1 < length lines.flows = let most = holds.flow in omega arith in
    let flow : FlowHolds net (flow_of lines.flows claim) = (accepted (claim.flow - 1 + 2)).flow (claim.flow - 1) exists refl in
    let y : ℕ → ℕ = vector_of (flow_of lines.flows claim) in
    let product : M claim.place * y claim.place ≤ weighted_tokens net y net.initial =
    semiflows_bound_places net y M claim.place record {
      nonzero = (claim.place, holds.place, holds.covers);
      balanced = λ t under _. flow.balanced t under;
    } reachable holds.place
    in
    let least = le-div (M claim.place) (weighted_tokens net y net.initial) (y claim.place) holds.covers product in
    let enough = holds.bound in
    omega arith

pub true_claim : (net : Net) (certificate : Certificate) → IsWellFormed certificate → IsAccepted net certificate → HasTrueClaim net certificate
true_claim net (Bounds lines) well accepted = bound_claims net lines well accepted
true_claim net (BadSiphon places) well accepted = bad_claims net places well (accepted 2 refl)
true_claim net (Commoner tree) well accepted = tree_claims net tree well accepted

pub excludes_dead : (net : Net) (certificate : Certificate) → IsWellFormed certificate → IsAccepted net certificate → ExcludesDead net certificate
excludes_dead net (Bounds lines) well accepted never ordinary some = absurd never
excludes_dead net (BadSiphon places) well accepted never ordinary some = absurd never
excludes_dead net (Commoner tree) well accepted for ordinary some = commoner_excludes net ordinary some (tree_claims net tree well accepted)
