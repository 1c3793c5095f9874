-- Every net has an answer to whether it is live: whether it is free-choice and has a transition is decided, and in
-- the other nets Commoner's verdict is.
use Rattle.std.proofs.Common.{◌≡◌, ℕ, List, refl, arith, inl, inr}
use Rattle.net_values.specs.Net.{Net}
use Rattle.net_class.specs.declared.verdict.Verdict.{Verdict}
use Rattle.net_class.specs.declared.verdict.Verdict.TheVariants.{Yes, No}
use Rattle.siphon_branch.specs.Limits.{AtMostOrMore, HasAtMostGrown, IsGrownSet}
use Rattle.free_choice_live.specs.declared.liveness.Liveness.TheVariants.{Proved, NotFreeChoice, NoTransition, Siphon}
use Rattle.free_choice_live.specs.Answers.{IsAsked}
use Rattle.free_choice_live.specs.Texts.{live_text}
use Rattle.report.specs.FaultLines.{limit_line}
use Rattle.struct_core.specs.Verdicts.{IsVerdict, LiveOutcome, liveness, too_many_siphons}
use Rattle.struct_core.proofs.SomeClass.{free_choice_or_not, positive}

module _ (net : Net) (ids : ℕ → List ℕ) (limit : ℕ) where
  abbrev Told : Type 0
  Told = (status : ℕ) × (text : List ℕ) × LiveOutcome net ids limit status text

  by_verdict : IsAsked net → HasAtMostGrown net limit → (one : Verdict) → IsVerdict net one → Told
  by_verdict asked few Yes is = (0, live_text ids Proved, liveness Proved (asked, few, is.exact.0 refl))
  by_verdict asked few (No siphon) is =
      (0, live_text ids (Siphon siphon), liveness (Siphon siphon) (asked, few, record { siphons = is.siphons; all = is.all; first = is.first }))

  by_limit : IsAsked net → AtMostOrMore (IsGrownSet net) limit → (one : Verdict) × IsVerdict net one → Told
  by_limit asked (inl few) verdict = by_verdict asked few verdict.0 verdict.1
  by_limit asked (inr many) verdict = (6, limit_line limit, too_many_siphons many.0 asked many.1)

  pub some_liveness : AtMostOrMore (IsGrownSet net) limit → (one : Verdict) × IsVerdict net one → Told
  some_liveness few verdict = elim (free_choice_or_not net) [
    | inl free ↦ elim (positive net.transitions) [
      | inl some ↦ by_limit record { free_choice = free; some = some } few verdict
      | inr none ↦ (0, live_text ids NoTransition, liveness NoTransition (free, (let e : net.transitions ≡ 0 = omega (arith, none) in e)))
    ]
    | inr lacks ↦ (0, live_text ids NotFreeChoice, liveness NotFreeChoice lacks)
  ]
