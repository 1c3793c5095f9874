-- Lines that lead on: one line, some lines and then others, and a tree from its parts.
use Rattle.std.proofs.Common.{◌≡◌, refl, sym, subst, ℕ, suc, ◌<◌, List, [], ◌∷◌, ◌++◌, append_assoc, length, arith}
use Rattle.std.proofs.lemmas.List.{append-nil}
use Rattle.std.proofs.lemmas.List.Elements.{All-push, All-append}
use Rattle.net_values.specs.Net.{Net}
use Rattle.net_values.specs.declared.limits.TheConstants.{MAX_PLACES}
use Rattle.certificates.specs.declared.certificate.Certificate.TheVariants.{Commoner}
use Rattle.certificates.specs.declared.certificate.TreeLine.{TreeLine}
use Rattle.certificates.specs.declared.certificate.TreeLine.TheVariants.{Split, Empty, Trap}
use Rattle.certificates.specs.Conditions.{SiphonClass, all_siphons, without, containing, after_line, TreeLineHolds, IsAccepted}
use Rattle.certificates.specs.WellFormed.{IsTree, IsTreeLine, AreTrees}
use Rattle.certificates.proofs.Trees.{AllHold, each_holds}
use Rattle.cert_make.specs.Trees.{IsTreeFor, LeadsTo}

count_line : (line : TreeLine) (class : SiphonClass) (classes : List SiphonClass) (rest : List TreeLine) → AreTrees rest (length (after_line line class classes)) → AreTrees (line ∷ rest) (suc (length classes))
count_line (Split p) class classes rest trees = trees
count_line Empty class classes rest trees = trees
count_line Trap class classes rest trees = trees

module _ (net : Net) where
  pub leads_nowhere : (classes : List SiphonClass) → LeadsTo net classes [] classes
  leads_nowhere classes = record { within = λ k d below. absurd (omega arith); count = λ rest trees. trees; holds = λ rest all. all }

  pub line_leads : (line : TreeLine) (class : SiphonClass) (classes : List SiphonClass) → IsTreeLine line → TreeLineHolds net class line → LeadsTo net (class ∷ classes) (line ∷ []) (after_line line class classes)
  line_leads line class classes is holds = record {
    within = All-push IsTreeLine [] line (λ k d below. absurd (omega arith)) is;
    count = count_line line class classes;
    holds = λ rest all. (holds, all);
  }

  pub leads_on : (classes between left : List SiphonClass) (lines more : List TreeLine) → LeadsTo net classes lines between → LeadsTo net between more left → LeadsTo net classes (lines ++ more) left
  leads_on classes between left lines more first then = record {
    within = All-append IsTreeLine lines more first.within then.within;
    count = λ rest trees. subst (λ (list : List TreeLine). AreTrees list (length classes)) (sym (append_assoc lines more rest)) (first.count (more ++ rest) (then.count rest trees));
    holds = λ rest all. subst (λ (list : List TreeLine). AllHold net list classes) (sym (append_assoc lines more rest)) (first.holds (more ++ rest) (then.holds rest all));
  }

  -- one line more
  pub leads_more : (from : List SiphonClass) (lines lines' : List TreeLine) (line : TreeLine) (class : SiphonClass) (classes : List SiphonClass) → lines' ≡ lines ++ line ∷ [] → IsTreeLine line → TreeLineHolds net class line → LeadsTo net from lines (class ∷ classes) → LeadsTo net from lines' (after_line line class classes)
  leads_more from lines lines' line class classes pushed is holds leads =
      subst (λ (list : List TreeLine). LeadsTo net from list (after_line line class classes)) (sym pushed)
      (leads_on from (class ∷ classes) (after_line line class classes) lines (line ∷ []) leads (line_leads line class classes is holds))

  pub empty_for : (class : SiphonClass) → TreeLineHolds net class Empty → IsTreeFor net class (Empty ∷ [])
  empty_for class holds classes = line_leads Empty class classes tt holds

  pub trap_for : (class : SiphonClass) → TreeLineHolds net class Trap → IsTreeFor net class (Trap ∷ [])
  trap_for class holds classes = line_leads Trap class classes tt holds

  pub split_for : (class : SiphonClass) (p : ℕ) (first second : List TreeLine) → TreeLineHolds net class (Split p) → p < MAX_PLACES → IsTreeFor net (without class p) first → IsTreeFor net (containing class p) second → IsTreeFor net class ((Split p ∷ []) ++ (first ++ second))
  split_for class p first second holds small one other classes =
      leads_on (class ∷ classes) (without class p ∷ containing class p ∷ classes) classes (Split p ∷ []) (first ++ second) (line_leads (Split p) class classes small holds)
      (leads_on (without class p ∷ containing class p ∷ classes) (containing class p ∷ classes) classes first second (one (containing class p ∷ classes)) (other classes))

-- a tree for all siphons
pub tree_formed : (net : Net) (lines : List TreeLine) → LeadsTo net (all_siphons ∷ []) lines [] → IsTree lines
tree_formed net lines leads = record {
  within = leads.within;
  one = subst (λ (list : List TreeLine). AreTrees list 1) (append-nil lines) (leads.count [] refl);
}

pub tree_accepted : (net : Net) (lines : List TreeLine) → LeadsTo net (all_siphons ∷ []) lines [] → IsAccepted net (Commoner lines)
tree_accepted net lines leads number k below is =
    let all : AllHold net lines (all_siphons ∷ []) = subst (λ (list : List TreeLine). AllHold net list (all_siphons ∷ [])) (append-nil lines) (leads.holds [] tt) in
    each_holds net lines (all_siphons ∷ []) all k below
