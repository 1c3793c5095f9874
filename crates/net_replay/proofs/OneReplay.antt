-- A replay from its marking, its counts and whether the initial marking is there again; that a list has one, and one only.
use Rattle.std.proofs.Common.{◌≡◌, ◌⊎◌, refl, sym, ◌∙◌, subst, ℕ, zero, suc, ◌<◌, Bool, true, false, true≢false, List, [], ◌∷◌, length, map, slice_index, inl, inr, arith}
use Rattle.std.specs.Prelude.{◌↔◌, IsTrue}
use Rattle.std.specs.List.{range_with_len}
use Rattle.std.proofs.lemmas.Bool.{cases_eq}
use Rattle.std.proofs.lemmas.Bool.Decides.{same_from_decides}
use Rattle.std.proofs.lemmas.List.FromFn.{get_or-map-range_with_len, length-map-range_with_len}
use Rattle.std.proofs.lemmas.Grind.{same_number_lists}
use Rattle.net_values.specs.Net.{Net}
use Rattle.incidence.specs.Semiflow.{IsSemiflow, all_columns}
use Rattle.net_replay.specs.declared.replayed.Replay.{Replay}
use Rattle.net_replay.specs.Replays.{FiresTo, IsCountVector, occurrences, by_transition, Returns, IsReplay}
use Rattle.net_replay.specs.Laws.{AReplayOrAFailure, OneReplay}
use Rattle.net_replay.proofs.Firing.{Agree, one_end, reaches, to_agreeing}
use Rattle.net_replay.proofs.Failing.{walked, as_failure, one_failure, never_both}
use Rattle.net_replay.proofs.Counting.{state_equation, returning, flowing}

module _ (net : Net) where
  pub is_replay : (ts : List ℕ) (replay : Replay) → length replay.marking ≡ net.places → FiresTo net net.initial ts (slice_index replay.marking) → IsCountVector net ts replay.counts → IsTrue replay.semiflow ↔ Returns net ts (slice_index replay.marking) → IsReplay net ts replay
  is_replay ts replay size fires counts back = record {
    size = size;
    fires = fires;
    reached = reaches net ts net.initial (slice_index replay.marking) fires;
    counts = counts;
    changed = λ p below. state_equation net p below ts replay.counts net.initial (slice_index replay.marking) fires counts;
    semiflow = (
      λ yes. flowing net ts replay.counts (slice_index replay.marking) fires counts (back.0 yes),
      λ flow. back.1 (returning net ts replay.counts (slice_index replay.marking) fires counts flow),
    );
    returns = back;
  }

  -- ---- one replay

  abbrev with_parts : List ℕ → List ℕ → Bool → Replay
  with_parts marking counts semiflow = record { marking = marking; counts = counts; semiflow = semiflow }

  pub one_replay_is : (ts : List ℕ) (one other : Replay) → IsReplay net ts one → IsReplay net ts other → one ≡ other
  one_replay_is ts one other is also =
      let ends = one_end net ts net.initial (slice_index one.marking) (slice_index other.marking) is.fires also.fires in
      let marking : one.marking ≡ other.marking = same_number_lists one.marking other.marking (is.size ∙ sym also.size) (λ k below. ends k (subst (λ n. k < n) is.size below)) in
      let counts : one.counts ≡ other.counts = same_number_lists one.counts other.counts (is.counts.size ∙ sym also.counts.size)
      (λ k below. let within : k < net.transitions = subst (λ n. k < n) is.counts.size below in is.counts.each k within ∙ sym (also.counts.each k within))
      in
      let semiflow : one.semiflow ≡ other.semiflow = same_from_decides {P = IsSemiflow (by_transition net) all_columns (slice_index one.counts)} one.semiflow other.semiflow is.semiflow
      (subst (λ (xs : List ℕ). IsTrue other.semiflow ↔ IsSemiflow (by_transition net) all_columns (slice_index xs)) (sym counts) also.semiflow)
      in
      λ i. with_parts (marking i) (counts i) (semiflow i)

  pub one_replay : (ts : List ℕ) → OneReplay net ts
  one_replay ts = record { replay = one_replay_is ts; failure = one_failure net ts; apart = never_both net ts }

  -- ---- some replay

  abbrev values : (n : ℕ) (f : ℕ → ℕ) → List ℕ
  values n f = map f (range_with_len 0 n)

  value_at : (n : ℕ) (f : ℕ → ℕ) (i : ℕ) → i < n → slice_index (values n f) i ≡ f i
  value_at n f i below = get_or-map-range_with_len f 0 n i i 0 below (omega arith)

  -- whether the values are those of the initial marking
  is_back : (n : ℕ) (M : ℕ → ℕ) → ((p : ℕ) → p < n → M p ≡ net.initial p) ⊎ ((p : ℕ) × (p < n) × (M p ≡ net.initial p → ⊥))
  is_back zero M = inl (λ p below. absurd (omega (arith, below)))
  is_back (suc n) M =
      elim (is_back n M) [
        | inr other ↦ let below : other.0 < n = other.1 in inr (other.0, omega arith, other.2)
        | inl same ↦ elim (cases_eq (M n) (net.initial n)) [
          | inr last ↦ inr (n, omega arith, last)
          | inl last ↦ inl (λ p below. elim (cases_eq p n) [
            | inl here ↦ subst (λ k. M k ≡ net.initial k) (sym here) last
            | inr there ↦ same p (omega (arith, below, there))
          ])
        ]
      ]

  is_returning : (ts : List ℕ) (M : ℕ → ℕ) → Returns net ts M ⊎ (Returns net ts M → ⊥)
  is_returning [] M = inr (λ back. back.some refl)
  is_returning (t ∷ ts) M =
      elim (is_back net.places M) [
        | inl same ↦ inl record { some = λ none. absurd cc; again = same }
        | inr other ↦ inr (λ back. other.2 (back.again other.0 other.1))
      ]

  truth : (P : Type 0) → P ⊎ (P → ⊥) → (b : Bool) × (IsTrue b ↔ P)
  truth P (inl holds) = (true, ((λ yes. holds), (λ p. refl)))
  truth P (inr fails) = (false, ((λ yes. absurd (true≢false (sym yes))), (λ p. absurd (fails p))))

  some_replay : (ts : List ℕ) (M : ℕ → ℕ) → FiresTo net net.initial ts M → (replay : Replay) × IsReplay net ts replay
  some_replay ts M fired =
      let marking = values net.places M in
      let counts = values net.transitions (occurrences ts) in
      let same : Agree net M (slice_index marking) = λ p below. sym (value_at net.places M p below) in
      let fires = to_agreeing net ts net.initial M (slice_index marking) same fired in
      let back = truth (Returns net ts (slice_index marking)) (is_returning ts (slice_index marking)) in
      let replay = with_parts marking counts back.0 in (
        replay,
        is_replay ts replay (length-map-range_with_len M 0 net.places) fires
            record { size = length-map-range_with_len (occurrences ts) 0 net.transitions; each = value_at net.transitions (occurrences ts) } back.1,
      )

  pub a_replay_or_a_failure : (ts : List ℕ) → AReplayOrAFailure net ts
  a_replay_or_a_failure ts within =
      elim (walked net net.initial ts within) [
        | inl on ↦ inl (some_replay ts on.0 on.1)
        | inr stops ↦ inr (stops.0, stops.1, as_failure net ts stops.0 stops.1 stops.2)
      ]
