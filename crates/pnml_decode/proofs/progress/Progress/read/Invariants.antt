-- What was read of the text so far, and how far: each turn reads on or finds the next token further on.
use Rattle.std.proofs.Common.{◌≡◌, ℕ, ◌+◌, ◌-◌, ◌≤◌, List, true, length, drop}
use Rattle.pnml_decode.specs.declared.progress.Progress.{Progress}
use Rattle.pnml_decode.specs.Standing.{Follows, is_past_mark, next_place, reached}
use Rattle.pnml_decode.proofs.progress.Progress.read.Given as goal

pub record HasReadOn (old new : Progress) (text : List ℕ) (taken : ℕ) : Type 0 where
  pub follows : (bytes : List ℕ) → Follows old bytes text → Follows new bytes (drop taken text)
  pub past : is_past_mark new.stage ≡ true
  pub within : taken ≤ length text
  pub reached_is : reached new ≤ reached old + taken

abbrev pub invariant-tokens : goal.invariant-tokens
invariant-tokens l = HasReadOn l.fn.self l.self l.text l.at

abbrev pub decreases-tokens : goal.decreases-tokens
decreases-tokens l = (reached l.fn.self + length l.text - next_place l.self) + (length l.text - l.at)
