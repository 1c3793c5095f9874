-- Firing lists as bytes: each line is the id of a transition and a line feed. Transitions are given by their
-- ids; of several with one id a line stands for the lowest.
use Rattle.std.specs.Prelude.{◌≡◌, ◌≢◌, ℕ, ◌+◌, ◌<◌, List, [], ◌∷◌, ◌++◌, length}
use Rattle.std.specs.List.{AllZip, AllByRecursion}
use Rattle.net_values.specs.Net.{Net}
use Rattle.certificates.specs.BadLines.{AreLinesOf}

-- the line spells this id
abbrev pub SpellsId : List ℕ → List ℕ → Type 0
SpellsId line id = line ≡ id ++ 10 ∷ []

-- the line is that of the transition
pub record IsFiringLine (net : Net) (ids : ℕ → List ℕ) (line : List ℕ) (t : ℕ) : Type 0 where
  pub within : t < net.transitions
  pub spelled : SpellsId line (ids t)
  pub lowest : (u : ℕ) → u < t → SpellsId line (ids u) → ⊥

-- the line is that of no transition
abbrev pub HasNoTransition : Net → (ℕ → List ℕ) → List ℕ → Type 0
HasNoTransition net ids line = (t : ℕ) → t < net.transitions → SpellsId line (ids t) → ⊥

-- the bytes are the lines of the transitions, and nothing else
pub record ListsFirings (net : Net) (ids : ℕ → List ℕ) (bytes firings : List ℕ) : Type 0 where
  pub lines : List (List ℕ)
  pub parts : AreLinesOf bytes lines []
  pub each : AllZip (IsFiringLine net ids) lines firings

-- the next line is that of no transition; or none follows but bytes without a line feed
abbrev pub EndsFirings : Net → (ℕ → List ℕ) → List (List ℕ) → List ℕ → Type 0
EndsFirings net ids [] rest = rest ≢ []
EndsFirings net ids (line ∷ later) rest = HasNoTransition net ids line

-- the first line, counted from 1, that isn't that of a transition or lacks its line feed
pub record IsBadFiringLine (net : Net) (ids : ℕ → List ℕ) (bytes : List ℕ) (number : ℕ) : Type 0 where
  pub before : List (List ℕ)
  pub after : List (List ℕ)
  pub rest : List ℕ
  pub parts : AreLinesOf bytes (before ++ after) rest
  pub good : AllByRecursion (λ line. (t : ℕ) × IsFiringLine net ids line t) before
  pub bad : EndsFirings net ids after rest
  pub count : number ≡ length before + 1
