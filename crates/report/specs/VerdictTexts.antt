-- The text of `commoner`.
use Rattle.std.specs.Prelude.{◌≡◌, ◌↔◌, ℕ, ◌<◌, List, Bool, true, false, IsTrue, ◌++◌, if◌then◌else◌, codes, length}
use Rattle.net_values.specs.Net.{Net}
use Rattle.closed_sets.specs.Commoner.{IsOrdinary}
use Rattle.net_class.specs.declared.verdict.Verdict.{Verdict}
use Rattle.net_class.specs.declared.verdict.Verdict.TheVariants.{Yes, No}
use Rattle.report.specs.Lines.{answer_line, spaced}
use Rattle.report.specs.Texts.{members}

-- the siphon of a no is a set of places of the net
abbrev pub IsVerdictOn : Net → Verdict → Type 0
IsVerdictOn net Yes = Unit {0}
IsVerdictOn net (No siphon) = length siphon ≡ net.places

-- the ids of the places of a siphon
unfoldable pub siphon_line : (ℕ → List ℕ) → List Bool → List ℕ
siphon_line ids siphon = codes "siphon" ++ spaced false (members ids siphon) ++ codes "\n"

-- whether Commoner's condition holds, and for a no a siphon without a marked trap
abbrev pub verdict_lines : (ℕ → List ℕ) → Verdict → List ℕ
verdict_lines ids Yes = answer_line (codes "commoner") true
verdict_lines ids (No siphon) = answer_line (codes "commoner") false ++ siphon_line ids siphon

-- whether it is proved that no reachable marking is dead
abbrev pub deadlock_line : Bool → List ℕ
deadlock_line is_proved = if is_proved then codes "deadlock-free proved\n" else codes "deadlock-free unknown\n"

-- Commoner's condition proves it in an ordinary net with a transition (Murata 1989)
pub record CommonerSuffices (net : Net) : Type 0 where
  pub ordinary : IsOrdinary net
  pub some_transition : 0 < net.transitions

-- a yes proves it there
pub record ProvesDeadlockFree (net : Net) (verdict : Verdict) : Type 0 where
  pub yes : verdict ≡ Yes
  pub ordinary : IsOrdinary net
  pub some_transition : 0 < net.transitions

-- `commoner`: the verdict, and whether it proves that no reachable marking is dead
pub record IsCommonerText (net : Net) (ids : ℕ → List ℕ) (verdict : Verdict) (text : List ℕ) : Type 0 where
  pub is_proved : Bool
  pub exact : IsTrue is_proved ↔ ProvesDeadlockFree net verdict
  pub spelled : text ≡ verdict_lines ids verdict ++ deadlock_line is_proved
