-- What is told of the liveness of a net is one: the four answers and the limit exclude each other.
use Rattle.std.proofs.Common.{◌≡◌, ℕ, List, refl, ap, subst, arith}
use Rattle.std.specs.Prelude.{Bool}
use Rattle.net_values.specs.Net.{Net}
use Rattle.net_values.specs.PlaceSets.{has}
use Rattle.net_values.proofs.OneList.{one_list_of_sets}
use Rattle.closed_sets.specs.Commoner.{MeetsCommoner}
use Rattle.closed_sets.specs.MinimalSets.{IsMinimalSet}
use Rattle.net_class.specs.Verdicts.{IsFirstWithoutTrap}
use Rattle.siphon_branch.specs.Limits.{PassesLimit}
use Rattle.siphon_branch.proofs.Limits.{few_not_many}
use Rattle.free_choice_live.specs.declared.liveness.Liveness.{Liveness}
use Rattle.free_choice_live.specs.declared.liveness.Liveness.TheVariants.{Proved, NotFreeChoice, NoTransition, Siphon}
use Rattle.free_choice_live.specs.Answers.{IsAsked, IsFirstUnsafe, Tells}
use Rattle.free_choice_live.specs.Texts.{live_text}
use Rattle.struct_core.specs.Verdicts.{LiveOutcome, liveness, too_many_siphons}
use Rattle.struct_core.proofs.Judging.{is_listed}
use Rattle.struct_core.proofs.OneVerdict.{one_unsafe}

-- a first siphon without a marked trap refutes Commoner's condition
pub unsafe_refutes : (net : Net) (siphon : List Bool) → IsFirstUnsafe net siphon → MeetsCommoner net → ⊥
unsafe_refutes net siphon is meets =
    let minimal = (is.all.members siphon).0 (is_listed net is.siphons siphon is.first) in
    is.first.lacks (meets (has siphon) minimal.minimal.siphon minimal.minimal.nonempty)

one_siphon : (net : Net) (one other : List Bool) → IsFirstUnsafe net one → IsFirstUnsafe net other → one ≡ other
one_siphon net one other is also =
    let same = one_list_of_sets (IsMinimalSet net) also.siphons is.siphons also.all is.all in
    one_unsafe net is.siphons one other is.first (subst (λ (list : List (List Bool)). IsFirstWithoutTrap net list other) same also.first)

one_liveness : (net : Net) (limit : ℕ) (one other : Liveness) → Tells net limit one → Tells net limit other → one ≡ other
one_liveness net limit Proved Proved is also = refl
one_liveness net limit Proved NotFreeChoice is also = absurd (also is.0.free_choice)
one_liveness net limit Proved NoTransition is also = absurd (omega (arith, is.0.some, also.1))
one_liveness net limit Proved (Siphon siphon) is also = absurd (unsafe_refutes net siphon also.2 is.2)
one_liveness net limit NotFreeChoice Proved is also = absurd (is also.0.free_choice)
one_liveness net limit NotFreeChoice NotFreeChoice is also = refl
one_liveness net limit NotFreeChoice NoTransition is also = absurd (is also.0)
one_liveness net limit NotFreeChoice (Siphon siphon) is also = absurd (is also.0.free_choice)
one_liveness net limit NoTransition Proved is also = absurd (omega (arith, also.0.some, is.1))
one_liveness net limit NoTransition NotFreeChoice is also = absurd (also is.0)
one_liveness net limit NoTransition NoTransition is also = refl
one_liveness net limit NoTransition (Siphon siphon) is also = absurd (omega (arith, also.0.some, is.1))
one_liveness net limit (Siphon siphon) Proved is also = absurd (unsafe_refutes net siphon is.2 also.2)
one_liveness net limit (Siphon siphon) NotFreeChoice is also = absurd (also is.0.free_choice)
one_liveness net limit (Siphon siphon) NoTransition is also = absurd (omega (arith, is.0.some, also.1))
one_liveness net limit (Siphon siphon) (Siphon other) is also = ap Siphon (one_siphon net siphon other is.2 also.2)

-- an answer within the limit, or the limit
told_or_passed : (net : Net) (limit : ℕ) (one : Liveness) (carried : List (List Bool)) → Tells net limit one → IsAsked net → PassesLimit net limit carried → ⊥
told_or_passed net limit Proved carried is asked many = (few_not_many net limit carried).siphons is.1 many
told_or_passed net limit NotFreeChoice carried is asked many = is asked.free_choice
told_or_passed net limit NoTransition carried is asked many = omega (arith, asked.some, is.1)
told_or_passed net limit (Siphon siphon) carried is asked many = (few_not_many net limit carried).siphons is.1 many

pub one_live_outcome : (net : Net) (ids : ℕ → List ℕ) (limit status other : ℕ) (text line : List ℕ) → LiveOutcome net ids limit status text
    → LiveOutcome net ids limit other line → (status ≡ other) × (text ≡ line)
one_live_outcome net ids limit _ _ _ _ (liveness one is) (liveness another also) = (refl, ap (live_text ids) (one_liveness net limit one another is also))
one_live_outcome net ids limit _ _ _ _ (liveness one is) (too_many_siphons carried asked many) = absurd (told_or_passed net limit one carried is asked many)
one_live_outcome net ids limit _ _ _ _ (too_many_siphons carried asked many) (liveness one is) = absurd (told_or_passed net limit one carried is asked many)
one_live_outcome net ids limit _ _ _ _ (too_many_siphons carried asked many) (too_many_siphons others also more) = (refl, refl)
