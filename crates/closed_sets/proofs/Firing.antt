-- A siphon without a token gets none: a transition that gives it one has an input place in it, which is empty,
-- so it isn't enabled. A trap that has a token keeps one: the transition that takes it has an input place in
-- the trap, so an output place in it, which it fills. At a dead marking each transition has an input place with fewer
-- tokens than it takes, which in an ordinary net is empty; so the empty places are a siphon, and no trap in
-- it is marked.
use Rattle.std.proofs.Common.{◌≡◌, ◌∙◌, ℕ, ◌<◌, [], ◌∷◌, Bool, ltb, inl, inr, arith}
use Rattle.std.proofs.lemmas.Bool.{cases_lt, ltb-true, ltb-false, eq-eqb, eqb-true, cases_Bool}
use Rattle.net_values.specs.Net.{Net}
use Rattle.net_values.specs.TokenGame.{IsEnabled, after}
use Rattle.closed_sets.specs.ClosedSets.{any_below, IsSiphon, IsTrap}
use Rattle.closed_sets.specs.Commoner.{IsMarked, IsUnmarked, empty_places, EmptySiphonsStayEmpty, TrapsStayMarked, DeadEmptiesASiphon, CommonerExcludesDead}
use Rattle.closed_sets.proofs.Below.{any_at, any_from, none_at, pair_at, pair_from}

siphon_kept : (net : Net) (S : ℕ → Bool) (M : ℕ → ℕ) (t : ℕ) → IsSiphon net S → t < net.transitions → IsEnabled net M t → IsUnmarked net M S → IsUnmarked net (after net M t) S
siphon_kept net S M t siphon below enabled empty p here member =
    elim (cases_lt 0 (net.post p t)) [
      | inl gives ↦
          let takes = pair_from net.places S (λ q. net.pre q t) (siphon t below (pair_at net.places S (λ q. net.post q t) p here member gives)) in
          absurd (omega (arith, takes.3, enabled takes.0 takes.1, empty takes.0 takes.1 takes.2))
      | inr none ↦ omega (arith, empty p here member)
    ]

pub siphon_along : (net : Net) → EmptySiphonsStayEmpty net
siphon_along net S M M' [] siphon empty reached = λ p here member. reached p here ∙ empty p here member
siphon_along net S M M' (t ∷ ts) siphon empty reached =
    siphon_along net S (after net M t) M' ts siphon (siphon_kept net S M t siphon reached.0 reached.1 empty) reached.2

trap_kept : (net : Net) (S : ℕ → Bool) (M : ℕ → ℕ) (t : ℕ) → IsTrap net S → t < net.transitions → IsMarked net M S → IsMarked net (after net M t) S
trap_kept net S M t trap below marked =
    let at = pair_from net.places S M marked in
    elim (cases_lt 0 (net.pre at.0 t)) [
      | inl takes ↦
          let gives = pair_from net.places S (λ p. net.post p t) (trap t below (pair_at net.places S (λ p. net.pre p t) at.0 at.1 at.2 takes)) in
          pair_at net.places S (after net M t) gives.0 gives.1 gives.2 (omega (arith, gives.3))
      | inr none ↦ pair_at net.places S (after net M t) at.0 at.1 at.2 (omega (arith, at.3))
    ]

pub trap_along : (net : Net) → TrapsStayMarked net
trap_along net S M M' [] trap marked reached =
    let at = pair_from net.places S M marked in
    pair_at net.places S M' at.0 at.1 at.2 (omega (arith, reached at.0 at.1, at.3))
trap_along net S M M' (t ∷ ts) trap marked reached =
    trap_along net S (after net M t) M' ts trap (trap_kept net S M t trap reached.0 marked) reached.2

-- a transition that isn't enabled has an input place with fewer tokens than it takes
lacking : (net : Net) (M : ℕ → ℕ) (t : ℕ) → (IsEnabled net M t → ⊥) → (p : ℕ) × (p < net.places) × (M p < net.pre p t)
lacking net M t disabled =
    elim (cases_Bool (any_below net.places (λ p. ltb (M p) (net.pre p t)))) [
      | inl some ↦ let found = any_from net.places (λ p. ltb (M p) (net.pre p t)) some in (found.0, found.1, ltb-true (M found.0) (net.pre found.0 t) found.2)
      | inr none ↦ absurd (disabled (λ p below. ltb-false (M p) (net.pre p t) (none_at net.places (λ p. ltb (M p) (net.pre p t)) none p below)))
    ]

pub dead_empties : (net : Net) → DeadEmptiesASiphon net
dead_empties net M ordinary some dead =
    let empty_input = λ (t : ℕ) (below : t < net.transitions).
    let at = lacking net M t (dead t below) in
    let once = (ordinary at.0 t at.1 below).0 in
    let empty : M at.0 ≡ 0 = omega (arith, at.2) in
    pair_at net.places (empty_places M) (λ p. net.pre p t) at.0 at.1 (eq-eqb (M at.0) 0 empty) (omega (arith, at.2)) in (
      λ t below _. empty_input t below,
      let at = pair_from net.places (empty_places M) (λ p. net.pre p 0) (empty_input 0 some) in
          any_at net.places (empty_places M) at.0 at.1 at.2,
    )

pub commoner_excludes : (net : Net) → CommonerExcludesDead net
commoner_excludes net ordinary some commoner M reachable dead =
    let emptied = dead_empties net M ordinary some dead in
    let some_trap = commoner (empty_places M) emptied.0 emptied.1 in
    let marked = trap_along net some_trap.trap net.initial M reachable.0 some_trap.closed some_trap.marked reachable.1 in
    let at = pair_from net.places some_trap.trap M marked in
    let empty : M at.0 ≡ 0 = eqb-true (M at.0) 0 (some_trap.within at.0 at.1 at.2) in
    omega (arith, at.3)
