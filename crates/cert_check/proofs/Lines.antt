-- What the answers about the parts of a certificate say of its lines by their numbers.
use Rattle.std.proofs.Common.{◌≡◌, refl, sym, ap, ℕ, zero, suc, ◌+◌, ◌<◌, ◌≤◌, List, [], ◌∷◌, length, get_or, take, All, ◌∙◌, arith}
use Rattle.std.proofs.lemmas.List.{get_or_default}
use Rattle.std.specs.Prelude.{pos, slice_index_or}
use Rattle.net_values.specs.Net.{Net}
use Rattle.certificates.specs.declared.certificate.BoundLines.{BoundLines}
use Rattle.certificates.specs.declared.certificate.Certificate.TheVariants.{Bounds, BadSiphon, Commoner}
use Rattle.certificates.specs.declared.certificate.TreeLine.{TreeLine}
use Rattle.certificates.specs.declared.certificate.TreeLine.TheVariants.{Empty}
use Rattle.certificates.specs.Conditions.{SiphonClass, TreeLineHolds, after_line, after_lines, class_at, FlowHolds, ClaimHolds, BadSiphonHolds, IsAccepted, IsFalseLine}
use Rattle.certificates.specs.WellFormed.{AreTrees}
use Rattle.certificates.proofs.Trees.{after_count}
use Rattle.cert_check.specs.Flows.{FailsFirst}

pub bounds_accepted : (net : Net) (lines : BoundLines) → All (FlowHolds net) lines.flows → All (ClaimHolds net lines.flows) lines.claims → IsAccepted net (Bounds lines)
bounds_accepted net lines flows claims number = record {
  flow = λ k below is. flows k [] below;
  claim = λ k below is. claims k record { place = 0; bound = pos 0; flow = 0 } below;
}

pub flows_rejected : (net : Net) (lines : BoundLines) (number : ℕ) → FailsFirst (FlowHolds net) lines.flows 2 number → IsFalseLine net (Bounds lines) number
flows_rejected net lines number first = record {
  fails = λ holds. first.fails [] (holds.flow first.index first.within (let is = first.count in omega arith));
  before = λ earlier less. record {
    flow = λ k below is. first.before k [] (let count = first.count in omega arith);
    claim = λ k below is. absurd (let count = first.count in let within = first.within in omega arith);
  };
}

pub claims_rejected : (net : Net) (lines : BoundLines) (number : ℕ) → All (FlowHolds net) lines.flows → FailsFirst (ClaimHolds net lines.flows) lines.claims (length lines.flows + 2) number → IsFalseLine net (Bounds lines) number
claims_rejected net lines number flows first = record {
  fails = λ holds. first.fails record { place = 0; bound = pos 0; flow = 0 } (holds.claim first.index first.within (let is = first.count in omega arith));
  before = λ earlier less. record {
    flow = λ k below is. flows k [] below;
    claim = λ k below is. first.before k record { place = 0; bound = pos 0; flow = 0 } (let count = first.count in omega arith);
  };
}

pub siphon_accepted : (net : Net) (places : List ℕ) → BadSiphonHolds net places → IsAccepted net (BadSiphon places)
siphon_accepted net places holds number is = holds

pub siphon_rejected : (net : Net) (places : List ℕ) → (BadSiphonHolds net places → ⊥) → IsFalseLine net (BadSiphon places) 2
siphon_rejected net places fails = record {
  fails = λ holds. fails (holds refl);
  before = λ earlier less is. absurd (omega arith);
}

-- the lines of a tree before a number hold
abbrev pub HoldBefore : Net → List TreeLine → ℕ → Type 0
HoldBefore net tree k = (j : ℕ) → j < k → TreeLineHolds net (class_at tree j) (slice_index_or tree j Empty)

pub tree_accepted : (net : Net) (tree : List TreeLine) (count : ℕ) → length tree ≤ count → HoldBefore net tree count → IsAccepted net (Commoner tree)
tree_accepted net tree count past held number k below is = held k (omega arith)

pub tree_rejected : (net : Net) (tree : List TreeLine) (k number : ℕ) → k < length tree → number ≡ k + 2 → HoldBefore net tree k → (TreeLineHolds net (class_at tree k) (slice_index_or tree k Empty) → ⊥) → IsFalseLine net (Commoner tree) number
tree_rejected net tree k number within is held fails = record {
  fails = λ holds. fails (holds k within is);
  before = λ earlier less j below same. held j (omega arith);
}

-- a class is left for each line of the trees
pub record OneLeft (lines : List TreeLine) (classes : List SiphonClass) (k : ℕ) : Type 0 where
  pub class : SiphonClass
  pub others : List SiphonClass
  pub are : after_lines (take k lines) classes ≡ class ∷ others

pub one_left : (lines : List TreeLine) (k : ℕ) (classes : List SiphonClass) → k < length lines → AreTrees lines (length classes) → OneLeft lines classes k
one_left [] k classes below trees = absurd (omega arith)
one_left (line ∷ lines) k [] below trees = absurd trees
one_left (line ∷ lines) zero (class ∷ classes) below trees = record { class = class; others = classes; are = refl }
one_left (line ∷ lines) (suc k) (class ∷ classes) below trees =
    let rest = one_left lines k (after_line line class classes) (omega arith) (after_count line lines class classes trees) in
    record { class = rest.class; others = rest.others; are = rest.are }

-- the next line has the first of the classes that the one before it leaves
pub after_next : (lines : List TreeLine) (k : ℕ) (start : List SiphonClass) (class : SiphonClass) (classes : List SiphonClass) → k < length lines → after_lines (take k lines) start ≡ class ∷ classes → after_lines (take (suc k) lines) start ≡ after_line (slice_index_or lines k Empty) class classes
after_next [] k start class classes below are = absurd (omega arith)
after_next (line ∷ lines) zero [] class classes below are = cc
after_next (line ∷ lines) zero (first ∷ rest) class classes below are =
    ap (λ (left : List SiphonClass). after_lines (line ∷ []) left) are
after_next (line ∷ lines) (suc k) [] class classes below are = cc
after_next (line ∷ lines) (suc k) (first ∷ rest) class classes below are =
    after_next lines k (after_line line first rest) class classes (omega arith) are

-- the member that was read from a slice of a list
pub read_at : {X : Type 0} (xs : List X) (k : ℕ) (x v d : X) → k < length xs → x ≡ get_or xs k x → v ≡ x → get_or xs k d ≡ v
read_at xs k x v d below is value = get_or_default xs k d x below ∙ sym is ∙ sym value
