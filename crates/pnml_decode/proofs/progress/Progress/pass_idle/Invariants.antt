-- The tokens so far were passed, and nothing but the tokens changed.
use Rattle.std.proofs.Common.{◌≡◌, ℕ, ◌+◌, ◌-◌, ◌≤◌, List, length, drop}
use Rattle.pnml_decode.specs.declared.progress.Progress.{Progress}
use Rattle.pnml_decode.specs.Standing.{Follows, next_place, reached}
use Rattle.pnml_decode.proofs.progress.Progress.pass_idle.Given as goal

pub record HasPassed (old new : Progress) (ahead : List ℕ) (passed : ℕ) : Type 0 where
  pub follows : (bytes : List ℕ) → Follows old bytes ahead → Follows new bytes (drop passed ahead)
  pub stage_is : new.stage ≡ old.stage
  pub reader_is : new.reader ≡ old.reader
  pub within : passed ≤ length ahead
  pub reached_is : reached new ≤ reached old + passed
  pub on : next_place old ≤ next_place new

abbrev pub invariant-tokens : goal.invariant-tokens
invariant-tokens l = HasPassed l.fn.self l.self l.ahead l.at

abbrev pub decreases-tokens : goal.decreases-tokens
decreases-tokens l = reached l.fn.self + length l.ahead - next_place l.self
