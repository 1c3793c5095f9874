-- The marking after the first members of a list, from the initial one: one firing more continues them, and a refusal is
-- that of the next member.
use Rattle.std.proofs.Common.{◌≡◌, sym, ap, ◌∙◌, subst, ℕ, ◌+◌, ◌<◌, ◌≤◌, List, [], ◌∷◌, ◌++◌, All, length, take, slice_get, slice_index, get_or, Some}
use Rattle.std.proofs.lemmas.List.{take_more, take_all, get_or-map, length-map}
use Rattle.std.proofs.lemmas.Option.{get_or_from_slice_get}
use Rattle.net_values.specs.declared.flat_net.FlatPlace.{FlatPlace}
use Rattle.net_values.specs.declared.token_game.FireFault.{FireFault}
use Rattle.net_values.specs.declared.token_game.FireFault.TheVariants.{NotEnabled, WideMarking}
use Rattle.net_values.specs.FlatNets.{NetLists, net_of, initial_marking}
use Rattle.net_values.specs.Net.{Net}
use Rattle.net_values.specs.TokenGame.{Fires, FailsToFire}
use Rattle.net_replay.specs.Failures.{ExplainsFailure, at_member}
use Rattle.net_replay.specs.Replays.{FiresTo, FailsAt}
use Rattle.net_replay.proofs.Firing.{fires_then}

pub record FiredSoFar (net : Net) (ts : List ℕ) (k : ℕ) (marking : List ℕ) : Type 0 where
  pub size : length marking ≡ net.places
  pub fires : FiresTo net net.initial (take k ts) (slice_index marking)

pub none_fired : (lists : NetLists) (ts marking : List ℕ) → marking ≡ initial_marking lists → FiredSoFar (net_of lists) ts 0 marking
none_fired lists ts marking is =
    let nowhere : FlatPlace = record { id = []; initial = 0 } in
    record {
      size = ap length is ∙ length-map lists.places (λ (place : FlatPlace). place.initial);
      fires = λ p below. ap (λ (counts : List ℕ). slice_index counts p) is ∙ get_or-map (λ (place : FlatPlace). place.initial) lists.places p nowhere 0 below;
    }

module _ (net : Net) (ts : List ℕ) (k t : ℕ) (before : List ℕ) (more : k < length ts) (member : slice_get ts k ≡ Some t) (fired : FiredSoFar net ts k before) where
  member_is : get_or ts k 0 ≡ t
  member_is = get_or_from_slice_get ts k t 0 member

  pub one_fired : (now : List ℕ) → t < net.transitions → Fires net (slice_index before) t (slice_index now) → length now ≡ length before → FiredSoFar net ts (k + 1) now
  one_fired now within fires same = record {
    size = same ∙ fired.size;
    fires = subst (λ (front : List ℕ). FiresTo net net.initial front (slice_index now)) (sym (take_more ts k 0 more ∙ ap (λ u. take k ts ++ u ∷ []) member_is))
        (fires_then net (take k ts) net.initial (slice_index before) (slice_index now) t fired.fires within fires);
  }

  pub member_within : All (λ u. u < net.transitions) ts → t < net.transitions
  member_within within = subst (λ u. u < net.transitions) member_is (within k 0 more)

  fails_at : (fault : FireFault) → FailsToFire net (slice_index before) t fault → FailsAt net ts k fault
  fails_at fault fails = record {
    within = more;
    reached = slice_index before;
    before = fired.fires;
    refused = subst (λ u. FailsToFire net (slice_index before) u fault) (sym member_is) fails;
  }

  pub refusal_explained : (fault : FireFault) → FailsToFire net (slice_index before) t fault → ExplainsFailure net ts (at_member k fault)
  refusal_explained (NotEnabled p) fails = fails_at (NotEnabled p) fails
  refusal_explained (WideMarking p) fails = fails_at (WideMarking p) fails

pub all_fired : (net : Net) (ts : List ℕ) (k : ℕ) (marking : List ℕ) → length ts ≤ k → FiredSoFar net ts k marking → FiresTo net net.initial ts (slice_index marking)
all_fired net ts k marking past fired = subst (λ (front : List ℕ). FiresTo net net.initial front (slice_index marking)) (take_all k ts past) fired.fires
