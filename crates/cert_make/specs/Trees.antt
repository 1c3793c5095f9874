-- Trees for classes of siphons, as parts of a longer list of lines.
use Rattle.std.specs.Prelude.{◌≡◌, ℕ, ◌+◌, ◌-◌, List, [], ◌∷◌, ◌++◌, Bool, All, length, map, reverse}
use Rattle.net_values.specs.Net.{Net}
use Rattle.net_values.specs.PlaceSets.{has}
use Rattle.closed_sets.specs.Passes.{members}
use Rattle.siphon_branch.specs.declared.branch.Branch.{Branch}
use Rattle.siphon_branch.specs.declared.live_class.LiveClass.{LiveClass}
use Rattle.siphon_branch.specs.Classes.{every_set}
use Rattle.siphon_branch.specs.LiveClasses.{branches_of, IsHeld}
use Rattle.siphon_branch.specs.Searches.{IsDivided}
use Rattle.certificates.specs.declared.certificate.TreeLine.{TreeLine}
use Rattle.certificates.specs.Conditions.{SiphonClass, all_siphons}
use Rattle.certificates.specs.WellFormed.{IsTreeLine, AreTrees}
use Rattle.certificates.proofs.Trees.{AllHold}
use Rattle.cert_make.specs.declared.tree.Tree.{Tree}

-- the lines lead from the classes to those that are left: whichever trees for the latter follow, all the lines together
-- are trees for the classes
pub record LeadsTo (net : Net) (classes : List SiphonClass) (lines : List TreeLine) (left : List SiphonClass) : Type 0 where
  pub within : All IsTreeLine lines
  pub count : (rest : List TreeLine) → AreTrees rest (length left) → AreTrees (lines ++ rest) (length classes)
  pub holds : (rest : List TreeLine) → AllHold net rest left → AllHold net (lines ++ rest) classes

-- the lines are one tree for the class
abbrev pub IsTreeFor : Net → SiphonClass → List TreeLine → Type 0
IsTreeFor net class lines = (classes : List SiphonClass) → LeadsTo net (class ∷ classes) lines classes

-- a class as the condition of a line sees it
abbrev pub class_of : Branch → SiphonClass
class_of class = record { contains = has class.contains; avoids = has class.avoids }

-- the classes of a list, the last one first
abbrev pub last_first : List Branch → List SiphonClass
last_first classes = reverse (map class_of classes)

-- a tree for all siphons is under way: each class of the list is live, the lines so far lead to these classes, the
-- last one first, and the siphons that are grown in them are those that aren't met yet
pub record IsUnderway (net : Net) (classes : List LiveClass) (lines : List TreeLine) (met : List (List Bool)) : Type 0 where
  pub live : All (IsHeld net) classes
  pub leads : LeadsTo net (all_siphons ∷ []) lines (last_first (branches_of classes))
  pub divided : IsDivided net (every_set net.places ∷ []) (branches_of classes) met

-- a tree before its first class
pub record HasNothing (tree : Tree) : Type 0 where
  pub classes : tree.classes ≡ []
  pub lines : tree.lines ≡ []
  pub met : tree.met ≡ []

-- how many places are not contained, and how many not avoided
abbrev pub places_left : Branch → ℕ
places_left class = (length class.contains - members class.contains) + (length class.avoids - members class.avoids)
