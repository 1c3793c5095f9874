-- What printed bounds and verdicts tell of the reachable markings. A least bound is given by some semiflow, whose
-- weighted tokens never change, and a printed text tells the verdict that it spells.
use Rattle.std.proofs.Common.{◌≡◌, ℕ, ◌*◌, ◌<◌, ◌≤◌, List, ◌++◌, Option, Some, None, refl, sym, ap, subst, arith}
use Rattle.std.specs.Prelude.{Bool, true, false, codes, slice_index, MatchOption}
use Rattle.std.proofs.Math.Nat.{le-div_iff_mul-le}
use Rattle.net_values.specs.Net.{Net}
use Rattle.net_values.specs.FlatNets.{net_of}
use Rattle.net_values.specs.Nodes.{place_id}
use Rattle.net_values.specs.TokenGame.{IsReachable}
use Rattle.bounds.specs.declared.place_bound.PlaceBound.{PlaceBound}
use Rattle.bounds.specs.LeastBound.{IsLeastBound}
use Rattle.incidence.specs.Invariance.{weighted_tokens}
use Rattle.bounds.specs.Listed.{kept_at, bound_of, AreLeastBounds, BoundsHold}
use Rattle.closed_sets.specs.Commoner.{IsDeadlockFree}
use Rattle.closed_sets.proofs.Firing.{commoner_excludes}
use Rattle.incidence.proofs.Firing.{semiflows_bound_places}
use Rattle.net_class.specs.declared.verdict.Verdict.{Verdict}
use Rattle.net_class.specs.declared.verdict.Verdict.TheVariants.{Yes, No}
use Rattle.report.specs.Lines.{answer_line}
use Rattle.report.specs.Texts.{bounds_text}
use Rattle.report.specs.VerdictTexts.{IsCommonerText, verdict_lines, deadlock_line}
use Rattle.struct_core.specs.Verdicts.{BoundOutcome, all_bounds, wide_bound, no_semiflows, IsVerdict, CommonerOutcome, verdict, no_siphons, LiveOutcome, liveness, too_many_siphons}
use Rattle.free_choice_live.specs.declared.liveness.Liveness.{Liveness}
use Rattle.free_choice_live.specs.declared.liveness.Liveness.TheVariants.{Proved, NotFreeChoice, NoTransition, Siphon}
use Rattle.free_choice_live.specs.Answers.{Tells}
use Rattle.free_choice_live.specs.Texts.{live_text}
use Rattle.free_choice_live.specs.Live.{IsLive}
use Rattle.free_choice_live.proofs.LostTransitions.{commoner_is_live}
use Rattle.struct_core.specs.Laws.{PrintBoundsThatHold, PrintLeastBounds, ProvedNetsNeverDie, ProvedNetsLive}
use Rattle.struct_core.proofs.Outcomes.{step_goes_on, limit_goes_on}

-- ---- bounds

bound_holds : (net : Net) (p : ℕ) (kept : Option PlaceBound) → p < net.places → IsLeastBound net p (bound_of kept) → (M : ℕ → ℕ) → IsReachable net M
    → MatchOption kept (Unit {0}) (λ bound. M p ≤ bound.bound)
bound_holds net p None under least M reachable = tt
bound_holds net p (Some kept) under least M reachable =
    let y = least.attained.0 in
    let fits : M p * y p ≤ weighted_tokens net y net.initial = semiflows_bound_places net y M p least.attained.1 reachable under in
    subst (λ (b : ℕ). M p ≤ b) (sym least.attained.3) ((le-div_iff_mul-le least.attained.2).1 fits)

least_bounds_hold : (net : Net) (bounds : List (Option PlaceBound)) → AreLeastBounds net bounds → BoundsHold net bounds
least_bounds_hold net bounds least = λ M reachable p under. bound_holds net p (kept_at bounds p) under (least p under) M reachable

printed : (net : Net) (ids columns : ℕ → List ℕ) (budget status : ℕ) (text : List ℕ) → BoundOutcome net ids columns budget status text → status ≡ 0
    → (bounds : List (Option PlaceBound)) × (text ≡ bounds_text ids bounds) × AreLeastBounds net bounds
printed net ids columns budget _ _ (all_bounds list bounds listed narrow size least) zero_is = (bounds, refl, least)
printed net ids columns budget _ _ (wide_bound list row listed wide) zero_is = absurd (omega (arith, zero_is))
printed net ids columns budget _ _ (no_semiflows status line fails) zero_is = absurd (step_goes_on _ columns budget status line fails zero_is)

pub prints_least_bounds : PrintLeastBounds
prints_least_bounds budgets document net rest text outcome = printed _ _ _ _ 0 text outcome refl

pub prints_bounds_that_hold : PrintBoundsThatHold
prints_bounds_that_hold budgets document net rest text outcome =
    let bounds = printed _ _ _ _ 0 text outcome refl in (bounds.0, bounds.1, least_bounds_hold (net_of net) bounds.0 bounds.2)

-- ---- Commoner's verdict

abbrev proved_text : List ℕ
proved_text = codes "commoner yes\ndeadlock-free proved\n"

-- the letter after `commoner ` tells a no, and the one after `deadlock-free ` that nothing is proved
not_no : (ids : ℕ → List ℕ) (siphon : List Bool) (rest : List ℕ) → proved_text ≡ verdict_lines ids (No siphon) ++ rest → ⊥
unfolding answer_line
not_no ids siphon rest same = (let e : 121 ≡ 110 = ap (λ (t : List ℕ). slice_index t 9) same in omega (arith, e))

is_proved : (ids : ℕ → List ℕ) (proved : Bool) → proved_text ≡ verdict_lines ids Yes ++ deadlock_line proved → proved ≡ true
unfolding answer_line
is_proved ids true same = refl
is_proved ids false same = (let e : 112 ≡ 117 = ap (λ (t : List ℕ). slice_index t 27) same in absurd (omega (arith, e)))

verdict_proves : (net : Net) (ids : ℕ → List ℕ) (one : Verdict) → IsVerdict net one → IsCommonerText net ids one proved_text → IsDeadlockFree net
verdict_proves net ids (No siphon) is printed = absurd (not_no ids siphon _ printed.spelled)
verdict_proves net ids Yes is printed =
    let proof = printed.exact.0 (is_proved ids printed.is_proved printed.spelled) in
    commoner_excludes net proof.ordinary proof.some_transition (is.exact.0 refl)

never_dies : (net : Net) (ids : ℕ → List ℕ) (limit status : ℕ) (text : List ℕ) → CommonerOutcome net ids limit status text → status ≡ 0 → text ≡ proved_text
    → IsDeadlockFree net
never_dies net ids limit _ _ (verdict one text few is spelled) zero_is same = verdict_proves net ids one is (subst (λ (t : List ℕ). IsCommonerText net ids one t) same spelled)
never_dies net ids limit _ _ (no_siphons status line passed) zero_is same = absurd (limit_goes_on _ limit status line passed zero_is)

pub proved_never_die : ProvedNetsNeverDie
proved_never_die budgets document net rest outcome = never_dies (net_of net) (place_id net) budgets.sets 0 proved_text outcome refl refl

-- ---- liveness

abbrev live_proved : List ℕ
live_proved = codes "live proved\n"

-- the letter after `live ` tells what isn't proved
not_unknown : (rest : List ℕ) → live_proved ≡ codes "live unknown\n" ++ rest → ⊥
not_unknown rest same = (let e : 112 ≡ 117 = ap (λ (t : List ℕ). slice_index t 5) same in omega (arith, e))

is_live : (net : Net) (ids : ℕ → List ℕ) (limit : ℕ) (one : Liveness) → Tells net limit one → live_text ids one ≡ live_proved → IsLive net
is_live net ids limit Proved is same = commoner_is_live net is.0.free_choice is.2
is_live net ids limit NotFreeChoice is same = absurd (not_unknown _ (sym same))
is_live net ids limit NoTransition is same = absurd (not_unknown _ (sym same))
is_live net ids limit (Siphon siphon) is same = absurd (not_unknown _ (sym same))

lives : (net : Net) (ids : ℕ → List ℕ) (limit status : ℕ) (text : List ℕ) → LiveOutcome net ids limit status text → status ≡ 0 → text ≡ live_proved → IsLive net
lives net ids limit _ _ (liveness one is) zero_is same = is_live net ids limit one is same
lives net ids limit _ _ (too_many_siphons carried asked many) zero_is same = absurd (omega (arith, zero_is))

pub proved_live : ProvedNetsLive
proved_live budgets document net rest outcome = lives (net_of net) (place_id net) budgets.sets 0 live_proved outcome refl refl
