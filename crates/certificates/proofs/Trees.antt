-- The conditions of a tree's lines, read from the front: the first line speaks of the first class that is left, and
-- changes the classes for the lines after it. That every line's condition holds at its own class is the same, as
-- long as no line lacks a class, which the count of trees excludes.
use Rattle.std.proofs.Common.{ℕ, zero, suc, ◌<◌, List, [], ◌∷◌, length, take, arith}
use Rattle.std.specs.Prelude.{slice_index_or}
use Rattle.net_values.specs.Net.{Net}
use Rattle.certificates.specs.declared.certificate.TreeLine.{TreeLine}
use Rattle.certificates.specs.declared.certificate.TreeLine.TheVariants.{Split, Empty, Trap}
use Rattle.certificates.specs.Conditions.{SiphonClass, all_siphons, TreeLineHolds, after_line, after_lines}
use Rattle.certificates.specs.WellFormed.{AreTrees}

-- the first line's condition holds for the first class, and those of the others for the classes that it leaves
abbrev pub AllHold : Net → List TreeLine → List SiphonClass → Type 0
AllHold net [] classes = Unit {0}
AllHold net (line ∷ lines) [] = ⊥
AllHold net (line ∷ lines) (class ∷ classes) = TreeLineHolds net class line × AllHold net lines (after_line line class classes)

-- the class of line k, where the first line has the first of these classes
abbrev pub class_from : List TreeLine → List SiphonClass → ℕ → SiphonClass
class_from lines classes k = slice_index_or (after_lines (take k lines) classes) 0 all_siphons

abbrev pub EachHolds : Net → List TreeLine → List SiphonClass → Type 0
EachHolds net lines classes = (k : ℕ) → k < length lines → TreeLineHolds net (class_from lines classes k) (slice_index_or lines k Empty)

pub each_holds : (net : Net) (lines : List TreeLine) (classes : List SiphonClass) → AllHold net lines classes → EachHolds net lines classes
each_holds net [] classes all k below = absurd (omega arith)
each_holds net (line ∷ lines) [] all k below = absurd all
each_holds net (line ∷ lines) (class ∷ classes) all zero below = all.0
each_holds net (line ∷ lines) (class ∷ classes) all (suc k) below = each_holds net lines (after_line line class classes) all.1 k (omega arith)

pub after_count : (line : TreeLine) (lines : List TreeLine) (class : SiphonClass) (classes : List SiphonClass) → AreTrees (line ∷ lines) (suc (length classes)) → AreTrees lines (length (after_line line class classes))
after_count (Split p) lines class classes trees = trees
after_count Empty lines class classes trees = trees
after_count Trap lines class classes trees = trees

pub all_hold : (net : Net) (lines : List TreeLine) (classes : List SiphonClass) → AreTrees lines (length classes) → EachHolds net lines classes → AllHold net lines classes
all_hold net [] classes trees each = tt
all_hold net (line ∷ lines) [] trees each = absurd trees
all_hold net (line ∷ lines) (class ∷ classes) trees each =
    (each 0 (omega arith), all_hold net lines (after_line line class classes) (after_count line lines class classes trees) (λ k below. each (suc k) (omega (arith, below))))
