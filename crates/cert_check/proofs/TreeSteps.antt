-- A line of a tree is checked at the class of the walk, which is its own; then the walk is at that of the next line.
use Rattle.std.proofs.Common.{◌≡◌, sym, ap, ◌∙◌, subst, ℕ, suc, ◌<◌, List, [], ◌∷◌, length, take, inl, inr, arith}
use Rattle.std.proofs.lemmas.Bool.{cases_eq}
use Rattle.std.specs.Prelude.{slice_index_or}
use Rattle.net_values.specs.Net.{Net}
use Rattle.certificates.specs.declared.certificate.TreeLine.{TreeLine}
use Rattle.certificates.specs.declared.certificate.TreeLine.TheVariants.{Empty}
use Rattle.certificates.specs.Conditions.{SiphonClass, all_siphons, TreeLineHolds, after_line, after_lines, class_at}
use Rattle.certificates.specs.WellFormed.{IsTree}
use Rattle.cert_check.specs.declared.walk.Walk.{Walk}
use Rattle.cert_check.specs.Walks.{IsAt, IsLeft, class_now, pending_now}
use Rattle.cert_check.proofs.Lines.{HoldBefore, one_left, after_next}

-- the walk is at the class of a line
pub record AtLine (net : Net) (walk : Walk) (tree : List TreeLine) (k : ℕ) : Type 0 where
  pub at : IsAt net walk
  pub class : class_at tree k ≡ class_now walk
  pub next : after_lines (take (suc k) tree) (all_siphons ∷ []) ≡ after_line (slice_index_or tree k Empty) (class_now walk) (pending_now walk)

pub at_line : (net : Net) (walk : Walk) (tree : List TreeLine) (k : ℕ) → IsTree tree → k < length tree → IsLeft net walk (after_lines (take k tree) (all_siphons ∷ [])) → AtLine net walk tree k
at_line net walk tree k well below left =
    let one = one_left tree k (all_siphons ∷ []) below well.one in
    let here : IsLeft net walk (one.class ∷ one.others) = subst (IsLeft net walk) one.are left in
    record {
      at = here.0;
      class = ap (λ (classes : List SiphonClass). slice_index_or classes 0 all_siphons) one.are ∙ sym here.1;
      next = after_next tree k (all_siphons ∷ []) one.class one.others below one.are
          ∙ ap (λ (class : SiphonClass). after_line (slice_index_or tree k Empty) class one.others) (sym here.1)
          ∙ ap (after_line (slice_index_or tree k Empty) (class_now walk)) (sym here.2);
    }

pub left_after : (net : Net) (old new : Walk) (tree : List TreeLine) (k more : ℕ) (line : TreeLine) → more ≡ suc k → line ≡ slice_index_or tree k Empty → AtLine net old tree k → IsLeft net new (after_line line (class_now old) (pending_now old)) → IsLeft net new (after_lines (take more tree) (all_siphons ∷ []))
left_after net old new tree k more line count is here left =
    subst (λ (i : ℕ). IsLeft net new (after_lines (take i tree) (all_siphons ∷ []))) (sym count)
    (subst (IsLeft net new) (sym here.next)
    (subst (λ (l : TreeLine). IsLeft net new (after_line l (class_now old) (pending_now old))) is left))

-- what holds or fails at the walk's class does so at the line's
pub line_as : (net : Net) (walk : Walk) (tree : List TreeLine) (k : ℕ) (line : TreeLine) → line ≡ slice_index_or tree k Empty → AtLine net walk tree k → TreeLineHolds net (class_now walk) line → TreeLineHolds net (class_at tree k) (slice_index_or tree k Empty)
line_as net walk tree k line is here holds =
    subst (λ (class : SiphonClass). TreeLineHolds net class (slice_index_or tree k Empty)) (sym here.class)
    (subst (TreeLineHolds net (class_now walk)) is holds)

pub line_at : (net : Net) (walk : Walk) (tree : List TreeLine) (k : ℕ) (line : TreeLine) → line ≡ slice_index_or tree k Empty → AtLine net walk tree k → TreeLineHolds net (class_at tree k) (slice_index_or tree k Empty) → TreeLineHolds net (class_now walk) line
line_at net walk tree k line is here holds =
    subst (TreeLineHolds net (class_now walk)) (sym is)
    (subst (λ (class : SiphonClass). TreeLineHolds net class (slice_index_or tree k Empty)) here.class holds)

pub held_more : (net : Net) (tree : List TreeLine) (k more : ℕ) → more ≡ suc k → HoldBefore net tree k → TreeLineHolds net (class_at tree k) (slice_index_or tree k Empty) → HoldBefore net tree more
held_more net tree k more count held here j below =
    elim (cases_eq j k) [
      | inl same ↦ subst (λ (i : ℕ). TreeLineHolds net (class_at tree i) (slice_index_or tree i Empty)) (sym same) here
      | inr other ↦ held j (omega arith)
    ]
