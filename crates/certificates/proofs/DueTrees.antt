-- A line makes at most one more tree due.
use Rattle.std.proofs.Common.{◌≡◌, subst, ℕ, ℤ, zero, suc, ◌+◌, ◌≤◌, if◌then◌else◌, Bool, true, false, List, [], ◌∷◌, ◌++◌, Option, Some, None, arith}
use Rattle.std.specs.Prelude.{nat_le}
use Rattle.std.specs.Option.{option_and_then}
use Rattle.certificates.specs.declared.certificate.BoundLines.{BoundLines}
use Rattle.certificates.specs.declared.certificate.Certificate.TheVariants.{Bounds, BadSiphon, Commoner}
use Rattle.certificates.specs.declared.certificate.Claim.{Claim}
use Rattle.certificates.specs.declared.certificate.TreeLine.{TreeLine}
use Rattle.certificates.specs.declared.certificate.TreeLine.TheVariants.{Split, Empty, Trap}
use Rattle.certificates.specs.declared.line.Line.{Line}
use Rattle.certificates.specs.declared.line.Line.TheVariants.{OpensBounds, OpensBadSiphon, OpensCommoner, Flow, Bound, Siphon, Tree, Ends}
use Rattle.certificates.specs.declared.progress.Progress.{Progress}
use Rattle.certificates.specs.declared.progress.Progress.TheVariants.{Begun, InBounds, InSiphon, AfterSiphon, InTree, Ended}
use Rattle.certificates.specs.Moves.{no_lines, next, with_flow, with_tree_line, tree_ended, due_of}

becomes : (now later : Progress) (most : ℕ) → Some now ≡ Some later → due_of now ≤ most → due_of later ≤ most
becomes now later most e low = let same : now ≡ later = cc in subst (λ (p : Progress). due_of p ≤ most) same low

flow_due : (flows : List (List (ℕ × ℤ))) (claims : List Claim) (flow : List (ℕ × ℤ)) (later : Progress) → with_flow flows claims flow ≡ Some later → due_of later ≤ 1
flow_due flows [] flow later e = becomes (InBounds record { flows = flows ++ flow ∷ []; claims = [] } 0) later 1 e (omega arith)
flow_due flows (claim ∷ claims) flow later e = absurd (cc)

claim_due : (lines : BoundLines) (claim : Claim) (later : Progress) (test : Bool) →
    (if test then Some (InBounds record { flows = lines.flows; claims = lines.claims ++ claim ∷ [] } (claim.place + 1)) else None) ≡ Some later → due_of later ≤ 1
claim_due lines claim later true e = becomes (InBounds record { flows = lines.flows; claims = lines.claims ++ claim ∷ [] } (claim.place + 1)) later 1 e (omega arith)
claim_due lines claim later false e = absurd (cc)

tree_due : (tree : List TreeLine) (due : ℕ) (line : TreeLine) (later : Progress) → with_tree_line tree due line ≡ Some later → due_of later ≤ due + 1
tree_due tree zero line later e = absurd (cc)
tree_due tree (suc due) (Split p) later e = becomes (InTree (tree ++ Split p ∷ []) (suc (suc due))) later (suc due + 1) e (omega arith)
tree_due tree (suc due) Empty later e = becomes (InTree (tree ++ Empty ∷ []) due) later (suc due + 1) e (omega arith)
tree_due tree (suc due) Trap later e = becomes (InTree (tree ++ Trap ∷ []) due) later (suc due + 1) e (omega arith)

end_due : (tree : List TreeLine) (due : ℕ) (later : Progress) → tree_ended tree due ≡ Some later → due_of later ≤ due + 1
end_due tree zero later e = becomes (Ended (Commoner tree)) later 1 e (omega arith)
end_due tree (suc due) later e = absurd (cc)

pub due_more : (progress : Progress) (line : Line) (later : Progress) → next progress line ≡ Some later → due_of later ≤ due_of progress + 1
due_more Begun OpensBounds later e = becomes (InBounds no_lines 0) later 1 e (omega arith)
due_more Begun OpensBadSiphon later e = becomes InSiphon later 1 e (omega arith)
due_more Begun OpensCommoner later e = becomes (InTree [] 1) later 1 e (omega arith)
due_more (InBounds lines least) (Flow flow) later e = flow_due lines.flows lines.claims flow later e
due_more (InBounds lines least) (Bound claim) later e = claim_due lines claim later (nat_le least claim.place) e
due_more (InBounds lines least) Ends later e = becomes (Ended (Bounds lines)) later 1 e (omega arith)
due_more InSiphon (Siphon places) later e = becomes (AfterSiphon places) later 1 e (omega arith)
due_more (AfterSiphon places) Ends later e = becomes (Ended (BadSiphon places)) later 1 e (omega arith)
due_more (InTree tree due) (Tree line) later e = tree_due tree due line later e
due_more (InTree tree due) Ends later e = end_due tree due later e
due_more _ _ later e = absurd (cc)

pub due_after : (progress : Progress) (read : Option Line) (later : Progress) → option_and_then (next progress) read ≡ Some later → due_of later ≤ due_of progress + 1
due_after progress None later e = absurd (cc)
due_after progress (Some line) later e = due_more progress line later e
