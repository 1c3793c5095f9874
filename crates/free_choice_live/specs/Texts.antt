-- The text of `live`.
use Rattle.std.specs.Prelude.{◌≡◌, ℕ, List, ◌++◌, codes, length}
use Rattle.net_values.specs.Net.{Net}
use Rattle.report.specs.VerdictTexts.{siphon_line}
use Rattle.free_choice_live.specs.declared.liveness.Liveness.{Liveness}
use Rattle.free_choice_live.specs.declared.liveness.Liveness.TheVariants.{Proved, NotFreeChoice, NoTransition, Siphon}

-- the siphon of an answer is a set of places of the net
abbrev pub IsLivenessOn : Net → Liveness → Type 0
IsLivenessOn net (Siphon siphon) = length siphon ≡ net.places
IsLivenessOn net _ = Unit {0}

-- whether the net is proved to be live, and if not, why
abbrev pub live_text : (ℕ → List ℕ) → Liveness → List ℕ
live_text ids Proved = codes "live proved\n"
live_text ids NotFreeChoice = codes "live unknown\nnot free-choice\n"
live_text ids NoTransition = codes "live unknown\nno transition\n"
live_text ids (Siphon siphon) = codes "live unknown\n" ++ siphon_line ids siphon
