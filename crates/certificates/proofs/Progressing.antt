-- What was read stands for its lines: each step keeps that, each certificate is read so, and what was read can be
-- completed. So the lines with which a certificate begins are those that are read.
use Rattle.std.proofs.Common.{◌≡◌, refl, sym, ap, ◌∙◌, subst, ℕ, zero, suc, ◌+◌, ◌<◌, ◌≤◌, if◌then◌else◌, Bool, true, false, ℤ, List, [], ◌∷◌, ◌++◌, map, Option, Some, None, append_assoc, append-nil, arith}
use Rattle.std.specs.Prelude.{nat_le}
use Rattle.std.specs.List.{AllByRecursion}
use Rattle.std.specs.Option.{option_and_then}
use Rattle.std.proofs.lemmas.List.{map-append}
use Rattle.net_values.specs.declared.limits.TheConstants.{MAX_PLACES}
use Rattle.certificates.specs.declared.certificate.BoundLines.{BoundLines}
use Rattle.certificates.specs.declared.certificate.Certificate.{Certificate}
use Rattle.certificates.specs.declared.certificate.Certificate.TheVariants.{Bounds, BadSiphon, Commoner}
use Rattle.certificates.specs.declared.certificate.Claim.{Claim}
use Rattle.certificates.specs.declared.certificate.TreeLine.{TreeLine}
use Rattle.certificates.specs.declared.certificate.TreeLine.TheVariants.{Split, Empty, Trap}
use Rattle.certificates.specs.declared.line.Line.{Line}
use Rattle.certificates.specs.declared.line.Line.TheVariants.{OpensBounds, OpensBadSiphon, OpensCommoner, Flow, Bound, Siphon, Tree, Ends}
use Rattle.certificates.specs.declared.progress.Progress.{Progress}
use Rattle.certificates.specs.declared.progress.Progress.TheVariants.{Begun, InBounds, InSiphon, AfterSiphon, InTree, Ended}
use Rattle.certificates.specs.WellFormed.{IsFlow, AreClaims, ArePlaces, IsTreeLine, AreTrees, IsWellFormed}
use Rattle.certificates.specs.Lines.{IsClaim, IsProper}
use Rattle.certificates.specs.Moves.{no_lines, next, read_on, with_flow, with_tree_line, tree_ended}
use Rattle.certificates.proofs.Lists.{le_true, le_from, all_each, each_all, each_append, Ascends, least_after, pairs_ascending, ascends_all, ascends_more, least_more}

-- the lines of a certificate as values
abbrev pub claim_place : Claim → ℕ
claim_place claim = claim.place

abbrev pub values_of : Certificate → List Line
values_of (Bounds lines) = OpensBounds ∷ (map Flow lines.flows ++ map Bound lines.claims) ++ Ends ∷ []
values_of (BadSiphon places) = OpensBadSiphon ∷ Siphon places ∷ Ends ∷ []
values_of (Commoner tree) = OpensCommoner ∷ map Tree tree ++ Ends ∷ []

pub read_append : (progress : Progress) (lines more : List Line) → read_on progress (lines ++ more) ≡ option_and_then (λ later. read_on later more) (read_on progress lines)
read_append progress [] more = refl
read_append progress (line ∷ lines) more = go (next progress line) (λ later. read_append later lines more) where
  go : (o : Option Progress) → ((later : Progress) → read_on later (lines ++ more) ≡ option_and_then (λ last. read_on last more) (read_on later lines)) →
      option_and_then (λ later. read_on later (lines ++ more)) o ≡ option_and_then (λ last. read_on last more) (option_and_then (λ later. read_on later lines) o)
  go None h = refl
  go (Some later) h = h later

-- so many trees are due after the lines, where that many were due before them
abbrev pub AreDue : List TreeLine → ℕ → ℕ → Type 0
AreDue [] before due = before ≡ due
AreDue (line ∷ lines) zero due = ⊥
AreDue (Split p ∷ lines) (suc before) due = AreDue lines (suc (suc before)) due
AreDue (Empty ∷ lines) (suc before) due = AreDue lines before due
AreDue (Trap ∷ lines) (suc before) due = AreDue lines before due

-- what was read stands for the lines
abbrev pub Stands : Progress → List Line → Type 0
Stands Begun values = values ≡ []
Stands (InBounds lines least) values =
    (values ≡ OpensBounds ∷ map Flow lines.flows ++ map Bound lines.claims)
    × AllByRecursion IsFlow lines.flows × AllByRecursion IsClaim lines.claims × Ascends claim_place 0 lines.claims × (least ≡ least_after claim_place 0 lines.claims)
Stands InSiphon values = values ≡ OpensBadSiphon ∷ []
Stands (AfterSiphon places) values = (values ≡ OpensBadSiphon ∷ Siphon places ∷ []) × ArePlaces places
Stands (InTree tree due) values = (values ≡ OpensCommoner ∷ map Tree tree) × AllByRecursion IsTreeLine tree × AreDue tree 1 due
Stands (Ended certificate) values = (values ≡ values_of certificate) × IsWellFormed certificate

-- ---- a step keeps it

due_trees : (lines : List TreeLine) (before : ℕ) → AreDue lines before 0 → AreTrees lines before
due_trees [] before due = due
due_trees (line ∷ lines) zero due = due
due_trees (Split p ∷ lines) (suc before) due = due_trees lines (suc (suc before)) due
due_trees (Empty ∷ lines) (suc before) due = due_trees lines before due
due_trees (Trap ∷ lines) (suc before) due = due_trees lines before due

due_split : (p : ℕ) (lines : List TreeLine) (before due : ℕ) → AreDue lines before (suc due) → AreDue (lines ++ Split p ∷ []) before (suc (suc due))
due_split p [] zero due h = absurd (omega (arith, h))
due_split p [] (suc before) due h = ap suc h
due_split p (line ∷ lines) zero due h = h
due_split p (Split q ∷ lines) (suc before) due h = due_split p lines (suc (suc before)) due h
due_split p (Empty ∷ lines) (suc before) due h = due_split p lines before due h
due_split p (Trap ∷ lines) (suc before) due h = due_split p lines before due h

-- a leaf is one tree
due_leaf : (leaf : TreeLine) → ((before due : ℕ) → before ≡ due → AreDue (leaf ∷ []) (suc before) due) → (lines : List TreeLine) (before due : ℕ) → AreDue lines before (suc due) → AreDue (lines ++ leaf ∷ []) before due
due_leaf leaf one [] zero due h = absurd (omega (arith, h))
due_leaf leaf one [] (suc before) due h = one before due (omega (arith, h))
due_leaf leaf one (line ∷ lines) zero due h = h
due_leaf leaf one (Split q ∷ lines) (suc before) due h = due_leaf leaf one lines (suc (suc before)) due h
due_leaf leaf one (Empty ∷ lines) (suc before) due h = due_leaf leaf one lines before due h
due_leaf leaf one (Trap ∷ lines) (suc before) due h = due_leaf leaf one lines before due h

-- claims one by one, and the four lists of their parts
pub are_claims : (claims : List Claim) → AllByRecursion IsClaim claims → Ascends claim_place 0 claims → AreClaims claims
are_claims claims proper ascends =
    let all = each_all IsClaim claims proper in
    record {
      ascending = pairs_ascending claim_place 0 claims ascends;
      places = λ k d below. (all k d below).place;
      bounds = λ k d below. (all k d below).bound;
      flows = λ k d below. ((all k d below).some, (all k d below).flow);
    }

pub each_claim : (claims : List Claim) → AreClaims claims → AllByRecursion IsClaim claims
each_claim claims are =
    all_each IsClaim claims (λ k d below. record { place = are.places k d below; bound = are.bounds k d below; some = (are.flows k d below).0; flow = (are.flows k d below).1 })

more_line : {X : Type 0} (f : X → Line) (first : List Line) (xs : List X) (x : X) → (first ++ map f xs) ++ f x ∷ [] ≡ first ++ map f (xs ++ x ∷ [])
more_line f first xs x = append_assoc first (map f xs) (f x ∷ []) ∙ ap (λ ys. first ++ ys) (sym (map-append f xs (x ∷ [])))

flow_stands : (flows : List (List (ℕ × ℤ))) (claims : List Claim) (least : ℕ) (flow : List (ℕ × ℤ)) (values : List Line) (later : Progress) →
    Stands (InBounds record { flows = flows; claims = claims } least) values → IsFlow flow → with_flow flows claims flow ≡ Some later → Stands later (values ++ Flow flow ∷ [])
flow_stands flows [] least flow values later h proper e =
    let same : InBounds record { flows = flows ++ flow ∷ []; claims = [] } 0 ≡ later = cc in
    let lines_are : values ++ Flow flow ∷ [] ≡ (OpensBounds ∷ map Flow (flows ++ flow ∷ [])) ++ [] =
    ap (λ (vs : List Line). vs ++ Flow flow ∷ []) (h.0 ∙ append-nil (OpensBounds ∷ map Flow flows)) ∙ more_line Flow (OpensBounds ∷ []) flows flow ∙ sym (append-nil (OpensBounds ∷ map Flow (flows ++ flow ∷ []))) in
    subst (λ (p : Progress). Stands p (values ++ Flow flow ∷ [])) same (lines_are, each_append IsFlow flows (flow ∷ []) h.1 (proper, tt), tt, tt, refl)
flow_stands flows (claim ∷ claims) least flow values later h proper e = absurd (cc)

claim_stands : (lines : BoundLines) (least : ℕ) (claim : Claim) (values : List Line) (later : Progress) → Stands (InBounds lines least) values → IsClaim claim →
    (test : Bool) → nat_le least claim.place ≡ test → (if test then Some (InBounds record { flows = lines.flows; claims = lines.claims ++ claim ∷ [] } (claim.place + 1)) else None) ≡ Some later → Stands later (values ++ Bound claim ∷ [])
claim_stands lines least claim values later h proper true is e =
    let same : InBounds record { flows = lines.flows; claims = lines.claims ++ claim ∷ [] } (claim.place + 1) ≡ later = cc in
    let low : least_after claim_place 0 lines.claims ≤ claim.place = subst (λ (n : ℕ). n ≤ claim.place) h.4 (le_from least claim.place is) in
    let lines_are : values ++ Bound claim ∷ [] ≡ (OpensBounds ∷ map Flow lines.flows) ++ map Bound (lines.claims ++ claim ∷ []) =
    ap (λ (vs : List Line). vs ++ Bound claim ∷ []) h.0 ∙ more_line Bound (OpensBounds ∷ map Flow lines.flows) lines.claims claim in
    subst (λ (p : Progress). Stands p (values ++ Bound claim ∷ [])) same
    (lines_are, h.1, each_append IsClaim lines.claims (claim ∷ []) h.2 (proper, tt), ascends_more claim_place 0 lines.claims claim h.3 low, sym (least_more claim_place 0 lines.claims claim))
claim_stands lines least claim values later h proper false is e = absurd (cc)

tree_stands : (tree : List TreeLine) (due : ℕ) (line : TreeLine) (values : List Line) (later : Progress) → Stands (InTree tree due) values → IsTreeLine line → with_tree_line tree due line ≡ Some later → Stands later (values ++ Tree line ∷ [])
tree_stands tree zero line values later h proper e = absurd (cc)
tree_stands tree (suc due) (Split p) values later h proper e =
    let same : InTree (tree ++ Split p ∷ []) (suc (suc due)) ≡ later = cc in
    let lines_are = ap (λ (vs : List Line). vs ++ Tree (Split p) ∷ []) h.0 ∙ more_line Tree (OpensCommoner ∷ []) tree (Split p) in
    subst (λ (q : Progress). Stands q (values ++ Tree (Split p) ∷ [])) same (lines_are, each_append IsTreeLine tree (Split p ∷ []) h.1 (proper, tt), due_split p tree 1 due h.2)
tree_stands tree (suc due) Empty values later h proper e =
    let same : InTree (tree ++ Empty ∷ []) due ≡ later = cc in
    let lines_are = ap (λ (vs : List Line). vs ++ Tree Empty ∷ []) h.0 ∙ more_line Tree (OpensCommoner ∷ []) tree Empty in
    subst (λ (q : Progress). Stands q (values ++ Tree Empty ∷ [])) same (lines_are, each_append IsTreeLine tree (Empty ∷ []) h.1 (tt, tt), due_leaf Empty (λ before due one. one) tree 1 due h.2)
tree_stands tree (suc due) Trap values later h proper e =
    let same : InTree (tree ++ Trap ∷ []) due ≡ later = cc in
    let lines_are = ap (λ (vs : List Line). vs ++ Tree Trap ∷ []) h.0 ∙ more_line Tree (OpensCommoner ∷ []) tree Trap in
    subst (λ (q : Progress). Stands q (values ++ Tree Trap ∷ [])) same (lines_are, each_append IsTreeLine tree (Trap ∷ []) h.1 (tt, tt), due_leaf Trap (λ before due one. one) tree 1 due h.2)

tree_end_stands : (tree : List TreeLine) (due : ℕ) (values : List Line) (later : Progress) → Stands (InTree tree due) values → tree_ended tree due ≡ Some later → Stands later (values ++ Ends ∷ [])
tree_end_stands tree zero values later h e =
    let same : Ended (Commoner tree) ≡ later = cc in
    subst (λ (q : Progress). Stands q (values ++ Ends ∷ [])) same (ap (λ (vs : List Line). vs ++ Ends ∷ []) h.0, record { within = each_all IsTreeLine tree h.1; one = due_trees tree 1 h.2 })
tree_end_stands tree (suc due) values later h e = absurd (cc)

becomes : (values : List Line) (line : Line) (now later : Progress) → Some now ≡ Some later → Stands now (values ++ line ∷ []) → Stands later (values ++ line ∷ [])
becomes values line now later e h = let same : now ≡ later = cc in subst (λ (p : Progress). Stands p (values ++ line ∷ [])) same h

pub step_stands : (progress : Progress) (line : Line) (values : List Line) (later : Progress) → Stands progress values → IsProper line → next progress line ≡ Some later → Stands later (values ++ line ∷ [])
step_stands Begun OpensBounds values later h proper e = becomes values OpensBounds (InBounds no_lines 0) later e (ap (λ (vs : List Line). vs ++ OpensBounds ∷ []) h, tt, tt, tt, refl)
step_stands Begun OpensBadSiphon values later h proper e = becomes values OpensBadSiphon InSiphon later e (ap (λ (vs : List Line). vs ++ OpensBadSiphon ∷ []) h)
step_stands Begun OpensCommoner values later h proper e = becomes values OpensCommoner (InTree [] 1) later e (ap (λ (vs : List Line). vs ++ OpensCommoner ∷ []) h, tt, refl)
step_stands (InBounds lines least) (Flow flow) values later h proper e = flow_stands lines.flows lines.claims least flow values later h proper e
step_stands (InBounds lines least) (Bound claim) values later h proper e = claim_stands lines least claim values later h proper (nat_le least claim.place) refl e
step_stands (InBounds lines least) Ends values later h proper e =
    becomes values Ends (Ended (Bounds lines)) later e (ap (λ (vs : List Line). vs ++ Ends ∷ []) h.0, (each_all IsFlow lines.flows h.1, are_claims lines.claims h.2 h.3))
step_stands InSiphon (Siphon places) values later h proper e = becomes values (Siphon places) (AfterSiphon places) later e (ap (λ (vs : List Line). vs ++ Siphon places ∷ []) h, proper)
step_stands (AfterSiphon places) Ends values later h proper e = becomes values Ends (Ended (BadSiphon places)) later e (ap (λ (vs : List Line). vs ++ Ends ∷ []) h.0, h.1)
step_stands (InTree tree due) (Tree line) values later h proper e = tree_stands tree due line values later h proper e
step_stands (InTree tree due) Ends values later h proper e = tree_end_stands tree due values later h e
step_stands _ _ values later h proper e = absurd (cc)

-- ---- every certificate is read

flows_read : (flows more : List (List (ℕ × ℤ))) (lines : List Line) → read_on (InBounds record { flows = flows; claims = [] } 0) (map Flow more ++ lines) ≡ read_on (InBounds record { flows = flows ++ more; claims = [] } 0) lines
flows_read flows [] lines = ap (λ (fs : List (List (ℕ × ℤ))). read_on (InBounds record { flows = fs; claims = [] } 0) lines) (sym (append-nil flows))
flows_read flows (flow ∷ more) lines = flows_read (flows ++ flow ∷ []) more lines ∙ ap (λ (fs : List (List (ℕ × ℤ))). read_on (InBounds record { flows = fs; claims = [] } 0) lines) (append_assoc flows (flow ∷ []) more)

claims_read : (flows : List (List (ℕ × ℤ))) (claims more : List Claim) (least : ℕ) → Ascends claim_place least more →
    read_on (InBounds record { flows = flows; claims = claims } least) (map Bound more ++ Ends ∷ []) ≡ Some (Ended (Bounds record { flows = flows; claims = claims ++ more }))
claims_read flows claims [] least ascends = ap (λ (cs : List Claim). Some (Ended (Bounds record { flows = flows; claims = cs }))) (sym (append-nil claims))
claims_read flows claims (claim ∷ more) least ascends =
    rw (le_true least claim.place ascends.0) (claims_read flows (claims ++ claim ∷ []) more (claim.place + 1) ascends.1 ∙ ap (λ (cs : List Claim). Some (Ended (Bounds record { flows = flows; claims = cs }))) (append_assoc claims (claim ∷ []) more))

trees_read : (tree more : List TreeLine) (due : ℕ) → AreTrees more due → read_on (InTree tree due) (map Tree more ++ Ends ∷ []) ≡ Some (Ended (Commoner (tree ++ more)))
trees_read tree [] due trees = rw trees (ap (λ (ls : List TreeLine). Some (Ended (Commoner ls))) (sym (append-nil tree)))
trees_read tree (line ∷ more) zero trees = absurd trees
trees_read tree (Split p ∷ more) (suc due) trees = trees_read (tree ++ Split p ∷ []) more (suc (suc due)) trees ∙ ap (λ (ls : List TreeLine). Some (Ended (Commoner ls))) (append_assoc tree (Split p ∷ []) more)
trees_read tree (Empty ∷ more) (suc due) trees = trees_read (tree ++ Empty ∷ []) more due trees ∙ ap (λ (ls : List TreeLine). Some (Ended (Commoner ls))) (append_assoc tree (Empty ∷ []) more)
trees_read tree (Trap ∷ more) (suc due) trees = trees_read (tree ++ Trap ∷ []) more due trees ∙ ap (λ (ls : List TreeLine). Some (Ended (Commoner ls))) (append_assoc tree (Trap ∷ []) more)

pub certificate_read : (certificate : Certificate) → IsWellFormed certificate → read_on Begun (values_of certificate) ≡ Some (Ended certificate)
certificate_read (Bounds lines) well =
    ap (read_on (InBounds no_lines 0)) (append_assoc (map Flow lines.flows) (map Bound lines.claims) (Ends ∷ []))
    ∙ flows_read [] lines.flows (map Bound lines.claims ++ Ends ∷ []) ∙ claims_read lines.flows [] lines.claims 0 (ascends_all claim_place lines.claims well.1.ascending)
certificate_read (BadSiphon places) well = refl
certificate_read (Commoner tree) well = trees_read [] tree 1 well.one

-- ---- what was read can be completed

-- lines that complete it
pub record Completes (progress : Progress) : Type 0 where
  pub more : List Line
  pub proper : AllByRecursion IsProper more
  pub certificate : Certificate
  pub read : read_on progress more ≡ Some (Ended certificate)

empties : (tree : List TreeLine) (due : ℕ) → Completes (InTree tree due)
empties tree zero = record { more = Ends ∷ []; proper = (tt, tt); certificate = Commoner tree; read = refl }
empties tree (suc due) = let h = empties (tree ++ Empty ∷ []) due in record { more = Tree Empty ∷ h.more; proper = (tt, h.proper); certificate = h.certificate; read = h.read }

one_place : ArePlaces (0 ∷ [])
one_place = record {
  some = omega arith;
  ascending = pairs_ascending (λ p. p) 0 (0 ∷ []) (omega arith, tt);
  within = each_all (λ p. p < MAX_PLACES) (0 ∷ []) (omega arith, tt);
}

pub completes : (progress : Progress) → Completes progress
completes Begun = record { more = OpensBounds ∷ Ends ∷ []; proper = (tt, (tt, tt)); certificate = Bounds no_lines; read = refl }
completes (InBounds lines least) = record { more = Ends ∷ []; proper = (tt, tt); certificate = Bounds lines; read = refl }
completes InSiphon = record { more = Siphon (0 ∷ []) ∷ Ends ∷ []; proper = (one_place, (tt, tt)); certificate = BadSiphon (0 ∷ []); read = refl }
completes (AfterSiphon places) = record { more = Ends ∷ []; proper = (tt, tt); certificate = BadSiphon places; read = refl }
completes (InTree tree due) = empties tree due
completes (Ended certificate) = record { more = []; proper = tt; certificate = certificate; read = refl }

-- ---- what was read stands for its lines

pub read_stands : (progress : Progress) (lines values : List Line) (later : Progress) → Stands progress values → AllByRecursion IsProper lines → read_on progress lines ≡ Some later → Stands later (values ++ lines)
read_stands progress [] values later h proper = λ e. let same : progress ≡ later = cc in subst (λ (vs : List Line). Stands later vs) (sym (append-nil values)) (subst (λ (p : Progress). Stands p values) same h)
read_stands progress (line ∷ lines) values later h proper = go (next progress line) refl (λ now stands e. subst (Stands later) (append_assoc values (line ∷ []) lines) (read_stands now lines (values ++ line ∷ []) later stands proper.1 e)) where
  go : (o : Option Progress) → next progress line ≡ o → ((now : Progress) → Stands now (values ++ line ∷ []) → read_on now lines ≡ Some later → Stands later (values ++ line ∷ lines)) →
      option_and_then (λ now. read_on now lines) o ≡ Some later → Stands later (values ++ line ∷ lines)
  go None is rest e = absurd (cc)
  go (Some now) is rest e = rest now (step_stands progress line values now h proper.0 is) e

pub ended_is : (values : List Line) (certificate : Certificate) → AllByRecursion IsProper values → read_on Begun values ≡ Some (Ended certificate) → (values ≡ values_of certificate) × IsWellFormed certificate
ended_is values certificate proper e = read_stands Begun values [] (Ended certificate) refl proper e
