-- Which lines may follow the lines that were read.
use Rattle.std.specs.Prelude.{◌≡◌, ℕ, zero, suc, ◌+◌, ℤ, nat_le, if◌then◌else◌, List, [], ◌∷◌, ◌++◌, length, map, Option, Some, None}
use Rattle.std.specs.List.{flat_map, AllByRecursion}
use Rattle.std.specs.Option.{option_and_then}
use Rattle.certificates.specs.declared.certificate.BoundLines.{BoundLines}
use Rattle.certificates.specs.declared.certificate.Certificate.TheVariants.{Bounds, BadSiphon, Commoner}
use Rattle.certificates.specs.declared.certificate.Claim.{Claim}
use Rattle.certificates.specs.declared.certificate.TreeLine.{TreeLine}
use Rattle.certificates.specs.declared.certificate.TreeLine.TheVariants.{Split, Empty, Trap}
use Rattle.certificates.specs.declared.line.Line.{Line}
use Rattle.certificates.specs.declared.line.Line.TheVariants.{OpensBounds, OpensBadSiphon, OpensCommoner, Flow, Bound, Siphon, Tree, Ends}
use Rattle.certificates.specs.declared.progress.Progress.{Progress}
use Rattle.certificates.specs.declared.progress.Progress.TheVariants.{Begun, InBounds, InSiphon, AfterSiphon, InTree, Ended}
use Rattle.certificates.specs.Lines.{spelled, IsProper}

abbrev pub no_lines : BoundLines
no_lines = record { flows = []; claims = [] }

-- the first line names the kind
abbrev pub opened : Line → Option Progress
opened OpensBounds = Some (InBounds no_lines 0)
opened OpensBadSiphon = Some InSiphon
opened OpensCommoner = Some (InTree [] 1)
opened (Flow flow) = None
opened (Bound claim) = None
opened (Siphon places) = None
opened (Tree line) = None
opened Ends = None

-- a flow, where there are no claims
abbrev pub with_flow : List (List (ℕ × ℤ)) → List Claim → List (ℕ × ℤ) → Option Progress
with_flow flows [] flow = Some (InBounds record { flows = flows ++ flow ∷ []; claims = [] } 0)
with_flow flows (claim ∷ claims) flow = None

-- a claim for a place from the least
abbrev pub with_claim : BoundLines → ℕ → Claim → Option Progress
with_claim lines least claim =
    if nat_le least claim.place then Some (InBounds record { flows = lines.flows; claims = lines.claims ++ claim ∷ [] } (claim.place + 1)) else None

abbrev pub in_bounds : BoundLines → ℕ → Line → Option Progress
in_bounds lines least OpensBounds = None
in_bounds lines least OpensBadSiphon = None
in_bounds lines least OpensCommoner = None
in_bounds lines least (Flow flow) = with_flow lines.flows lines.claims flow
in_bounds lines least (Bound claim) = with_claim lines least claim
in_bounds lines least (Siphon places) = None
in_bounds lines least (Tree line) = None
in_bounds lines least Ends = Some (Ended (Bounds lines))

abbrev pub in_siphon : Line → Option Progress
in_siphon OpensBounds = None
in_siphon OpensBadSiphon = None
in_siphon OpensCommoner = None
in_siphon (Flow flow) = None
in_siphon (Bound claim) = None
in_siphon (Siphon places) = Some (AfterSiphon places)
in_siphon (Tree line) = None
in_siphon Ends = None

abbrev pub after_siphon : List ℕ → Line → Option Progress
after_siphon places OpensBounds = None
after_siphon places OpensBadSiphon = None
after_siphon places OpensCommoner = None
after_siphon places (Flow flow) = None
after_siphon places (Bound claim) = None
after_siphon places (Siphon more) = None
after_siphon places (Tree line) = None
after_siphon places Ends = Some (Ended (BadSiphon places))

-- a line of a tree, where trees are due: a split makes one more due, another line one less
abbrev pub with_tree_line : List TreeLine → ℕ → TreeLine → Option Progress
with_tree_line tree zero line = None
with_tree_line tree (suc due) (Split place) = Some (InTree (tree ++ Split place ∷ []) (suc (suc due)))
with_tree_line tree (suc due) Empty = Some (InTree (tree ++ Empty ∷ []) due)
with_tree_line tree (suc due) Trap = Some (InTree (tree ++ Trap ∷ []) due)

-- the end of a tree, where none is due
abbrev pub tree_ended : List TreeLine → ℕ → Option Progress
tree_ended tree zero = Some (Ended (Commoner tree))
tree_ended tree (suc due) = None

abbrev pub in_tree : List TreeLine → ℕ → Line → Option Progress
in_tree tree due OpensBounds = None
in_tree tree due OpensBadSiphon = None
in_tree tree due OpensCommoner = None
in_tree tree due (Flow flow) = None
in_tree tree due (Bound claim) = None
in_tree tree due (Siphon places) = None
in_tree tree due (Tree line) = with_tree_line tree due line
in_tree tree due Ends = tree_ended tree due

-- what was read with one more line, where it may follow
abbrev pub next : Progress → Line → Option Progress
next Begun line = opened line
next (InBounds lines least) line = in_bounds lines least line
next InSiphon line = in_siphon line
next (AfterSiphon places) line = after_siphon places line
next (InTree tree due) line = in_tree tree due line
next (Ended certificate) line = None

-- the trees that are due
abbrev pub due_of : Progress → ℕ
due_of Begun = 0
due_of (InBounds lines least) = 0
due_of InSiphon = 0
due_of (AfterSiphon places) = 0
due_of (InTree tree due) = due
due_of (Ended certificate) = 0

-- the progress after the lines
abbrev pub read_on : Progress → List Line → Option Progress
read_on progress [] = Some progress
read_on progress (line ∷ lines) = option_and_then (λ later. read_on later lines) (next progress line)

-- so many lines were read from bytes one after the other, and the rest is left
pub record ReadsOn (progress : Progress) (bytes : List ℕ) (later : Progress) (rest : List ℕ) (many : ℕ) : Type 0 where
  pub lines : List Line
  pub proper : AllByRecursion IsProper lines
  pub read : read_on progress lines ≡ Some later
  pub joined : bytes ≡ flat_map (λ line. line) (map spelled lines) ++ rest
  pub count : many ≡ length lines
