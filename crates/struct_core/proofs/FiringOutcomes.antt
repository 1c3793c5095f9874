-- What is told of a firing list: each fault by its line, and the replay by its text. One of these comes for each net and
-- bytes, one only, and it is the replay where the lines are ids and the list fires within range.
use Rattle.std.proofs.Common.{◌≡◌, refl, sym, ap, subst, ℕ, ◌<◌, List, inl, inr, arith}
use Rattle.net_values.specs.Net.{Net}
use Rattle.net_values.specs.declared.token_game.FireFault.{FireFault}
use Rattle.net_values.specs.declared.token_game.FireFault.TheVariants.{NotEnabled, WideMarking}
use Rattle.net_replay.specs.Failures.{ExplainsFailure}
use Rattle.net_replay.specs.FiringLists.{ListsFirings, IsBadFiringLine}
use Rattle.net_replay.specs.Replays.{FiresWithinRange, FailsAt, IsReplay}
use Rattle.net_replay.specs.Texts.{replay_text}
use Rattle.net_replay.specs.declared.firings.FiringFault.{FiringFault}
use Rattle.net_replay.specs.declared.firings.FiringFault.TheVariants as readings
use Rattle.net_replay.specs.declared.replayed.Replay.{Replay}
use Rattle.net_replay.specs.declared.replayed.ReplayFault.{ReplayFault}
use Rattle.net_replay.specs.declared.replayed.ReplayFault.TheVariants as faults
use Rattle.net_replay.proofs.OneReplay.{one_replay, a_replay_or_a_failure}
use Rattle.net_replay.proofs.Reading.{one_firing_list, a_firing_list_or_a_bad_line}
use Rattle.report.specs.declared.refusal.Refusal.{Refusal}
use Rattle.report.specs.declared.refusal.Refusal.TheVariants.{Excess, MalformedFiring, RejectedFiring}
use Rattle.report.specs.declared.refusal.Excess.TheVariants as excess
use Rattle.report.specs.FaultLines.{firing_malformed_line, firing_rejected_line, wide_marking_line}
use Rattle.struct_core.specs.Answers.{FailsWith}
use Rattle.struct_core.specs.FiringLists.{FailedFiring, not_enabled, wide_marking, ReplayOutcome, bad_line, no_firing, replayed}
use Rattle.struct_core.proofs.Listing.{fails_so}

-- ---- what is told

module _ (net : Net) (places : ℕ → List ℕ) (ts : List ℕ) where
  lacking : (index p : ℕ) (fault : ReplayFault) → fault ≡ faults.NotEnabled index p → ExplainsFailure net ts fault → FailsAt net ts index (NotEnabled p)
  lacking index p fault is explains = subst (ExplainsFailure net ts) is explains

  overflowing : (index p : ℕ) (fault : ReplayFault) → fault ≡ faults.WideMarking index p → ExplainsFailure net ts fault → FailsAt net ts index (WideMarking p)
  overflowing index p fault is explains = subst (ExplainsFailure net ts) is explains

  pub lacking_within : (index p : ℕ) (fault : ReplayFault) → fault ≡ faults.NotEnabled index p → ExplainsFailure net ts fault → p < net.places
  lacking_within index p fault is explains = (lacking index p fault is explains).refused.within

  pub overflowing_within : (index p : ℕ) (fault : ReplayFault) → fault ≡ faults.WideMarking index p → ExplainsFailure net ts fault → p < net.places
  overflowing_within index p fault is explains = (overflowing index p fault is explains).refused.1.within

  pub lacking_told : (index p : ℕ) (id : List ℕ) (fault : ReplayFault) → fault ≡ faults.NotEnabled index p → ExplainsFailure net ts fault → id ≡ places p
      → FailsWith (FailedFiring net places ts) (RejectedFiring index id)
  lacking_told index p id fault is explains named =
      subst (λ (name : List ℕ). FailsWith (FailedFiring net places ts) (RejectedFiring index name)) (sym named)
      (inr record { low = omega arith; not_usage = λ same. omega (arith, same); high = omega arith; outcome = not_enabled index p (lacking index p fault is explains) })

  pub overflowing_told : (index p : ℕ) (id : List ℕ) (fault : ReplayFault) → fault ≡ faults.WideMarking index p → ExplainsFailure net ts fault → id ≡ places p
      → FailsWith (FailedFiring net places ts) (Excess (excess.WideMarking index id))
  overflowing_told index p id fault is explains named =
      subst (λ (name : List ℕ). FailsWith (FailedFiring net places ts) (Excess (excess.WideMarking index name))) (sym named)
      (inr record { low = omega arith; not_usage = λ same. omega (arith, same); high = omega arith; outcome = wide_marking index p (overflowing index p fault is explains) })

module _ (net : Net) (places transitions : ℕ → List ℕ) (bytes : List ℕ) where
  abbrev Told : ℕ → List ℕ → Type 0
  Told = ReplayOutcome net places transitions bytes

  pub bad_line_told : (number : ℕ) (fault : FiringFault) → fault ≡ readings.BadLine number
      → ((line : ℕ) → fault ≡ readings.BadLine line → IsBadFiringLine net transitions bytes line) → FailsWith Told (MalformedFiring number)
  bad_line_told number fault is bad =
      inr record { low = omega arith; not_usage = λ same. omega (arith, same); high = omega arith; outcome = bad_line number (bad number is) }

  pub no_firing_told : (ts : List ℕ) (refusal : Refusal) → ListsFirings net transitions bytes ts → FailsWith (FailedFiring net places ts) refusal → FailsWith Told refusal
  no_firing_told ts refusal listed = fails_so _ _ refusal (λ status line is. no_firing ts status line listed is)

  pub replay_told : (ts : List ℕ) (replay : Replay) (text : List ℕ) → ListsFirings net transitions bytes ts → IsReplay net ts replay → text ≡ replay_text places ts replay → Told 0 text
  replay_told ts replay text listed is same = subst (λ (t : List ℕ). Told 0 t) (sym same) (replayed ts replay listed is)

  -- ---- some outcome

  of_failure : (ts : List ℕ) (index : ℕ) (fault : FireFault) → ListsFirings net transitions bytes ts → FailsAt net ts index fault → (status : ℕ) × (text : List ℕ) × Told status text
  of_failure ts index (NotEnabled p) listed fails = (1, firing_rejected_line index (places p), no_firing ts 1 (firing_rejected_line index (places p)) listed (not_enabled index p fails))
  of_failure ts index (WideMarking p) listed fails = (4, wide_marking_line index (places p), no_firing ts 4 (wide_marking_line index (places p)) listed (wide_marking index p fails))

  pub some_replay_outcome : (status : ℕ) × (text : List ℕ) × Told status text
  some_replay_outcome = elim (a_firing_list_or_a_bad_line net transitions bytes) [
    | inr bad ↦ (1, firing_malformed_line bad.0, bad_line bad.0 bad.1)
    | inl list ↦ elim (a_replay_or_a_failure net list.0 list.2) [
      | inl found ↦ (0, replay_text places list.0 found.0, replayed list.0 found.0 list.1 found.1)
      | inr fails ↦ of_failure list.0 fails.0 fails.1 list.1 fails.2
    ]
  ]

  -- ---- one outcome

  one_failed : (ts : List ℕ) (status other : ℕ) (text line : List ℕ) → FailedFiring net places ts status text → FailedFiring net places ts other line → (status ≡ other) × (text ≡ line)
  one_failed ts _ _ _ _ (not_enabled i p fails) (not_enabled j q also) =
      let same = (one_replay net ts).failure i j (NotEnabled p) (NotEnabled q) fails also in
      let place : p ≡ q = (let both : NotEnabled p ≡ NotEnabled q = same.1 in cc) in
      (refl, λ k. firing_rejected_line (same.0 k) (places (place k)))
  one_failed ts _ _ _ _ (not_enabled i p fails) (wide_marking j q also) =
      let same : NotEnabled p ≡ WideMarking q = ((one_replay net ts).failure i j (NotEnabled p) (WideMarking q) fails also).1 in absurd (cc)
  one_failed ts _ _ _ _ (wide_marking i p fails) (not_enabled j q also) =
      let same : WideMarking p ≡ NotEnabled q = ((one_replay net ts).failure i j (WideMarking p) (NotEnabled q) fails also).1 in absurd (cc)
  one_failed ts _ _ _ _ (wide_marking i p fails) (wide_marking j q also) =
      let same = (one_replay net ts).failure i j (WideMarking p) (WideMarking q) fails also in
      let place : p ≡ q = (let both : WideMarking p ≡ WideMarking q = same.1 in cc) in
      (refl, λ k. wide_marking_line (same.0 k) (places (place k)))

  fires_or_failed : (ts : List ℕ) (status : ℕ) (line : List ℕ) → FiresWithinRange net ts → FailedFiring net places ts status line → ⊥
  fires_or_failed ts _ _ fires (not_enabled i p fails) = (one_replay net ts).apart i (NotEnabled p) fires fails
  fires_or_failed ts _ _ fires (wide_marking i p fails) = (one_replay net ts).apart i (WideMarking p) fires fails

  one_list : (ts us : List ℕ) → ListsFirings net transitions bytes ts → ListsFirings net transitions bytes us → us ≡ ts
  one_list ts us listed also = (one_firing_list net transitions bytes).list us ts also listed

  not_bad : (ts : List ℕ) (number : ℕ) → ListsFirings net transitions bytes ts → IsBadFiringLine net transitions bytes number → ⊥
  not_bad ts number = (one_firing_list net transitions bytes).apart ts number

  pub one_replay_outcome : (status other : ℕ) (text line : List ℕ) → Told status text → Told other line → (status ≡ other) × (text ≡ line)
  one_replay_outcome _ _ _ _ (bad_line one bad) (bad_line another also) = (refl, ap firing_malformed_line ((one_firing_list net transitions bytes).line one another bad also))
  one_replay_outcome _ _ _ _ (bad_line one bad) (no_firing ts status line listed fails) = absurd (not_bad ts one listed bad)
  one_replay_outcome _ _ _ _ (bad_line one bad) (replayed ts replay listed is) = absurd (not_bad ts one listed bad)
  one_replay_outcome _ _ _ _ (no_firing ts status line listed fails) (bad_line another also) = absurd (not_bad ts another listed also)
  one_replay_outcome _ _ _ _ (no_firing ts status text listed fails) (no_firing us other line listed_too stops) =
      one_failed ts status other text line fails (subst (λ (list : List ℕ). FailedFiring net places list other line) (one_list ts us listed listed_too) stops)
  one_replay_outcome _ _ _ _ (no_firing ts status line listed fails) (replayed us replay listed_too is) =
      absurd (fires_or_failed us status line (_, is.fires) (subst (λ (list : List ℕ). FailedFiring net places list status line) (one_list us ts listed_too listed) fails))
  one_replay_outcome _ _ _ _ (replayed ts replay listed is) (bad_line another also) = absurd (not_bad ts another listed also)
  one_replay_outcome _ _ _ _ (replayed ts replay listed is) (no_firing us status line listed_too fails) =
      absurd (fires_or_failed ts status line (_, is.fires) (subst (λ (list : List ℕ). FailedFiring net places list status line) (one_list ts us listed listed_too) fails))
  one_replay_outcome _ _ _ _ (replayed ts one listed is) (replayed us other listed_too also) =
      let lists = one_list ts us listed listed_too in
      let same = (one_replay net ts).replay one other is (subst (λ (list : List ℕ). IsReplay net list other) lists also) in
      (refl, λ k. replay_text places (sym lists k) (same k))

  -- ---- where it is the replay

  pub replay_completes : (status : ℕ) (text ts : List ℕ) → ListsFirings net transitions bytes ts → FiresWithinRange net ts → Told status text → status ≡ 0
  replay_completes _ _ ts listed fires (bad_line number bad) = absurd (not_bad ts number listed bad)
  replay_completes _ _ ts listed fires (no_firing us status line listed_too fails) =
      absurd (fires_or_failed ts status line fires (subst (λ (list : List ℕ). FailedFiring net places list status line) (one_list ts us listed listed_too) fails))
  replay_completes _ _ ts listed fires (replayed us replay listed_too is) = refl
