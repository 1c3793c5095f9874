-- Cut to its place entries a semiflow of minimal support of the extended incidence is an extremal sub-semiflow; and each
-- extremal sub-semiflow is that of one, which has its slack below.
use Rattle.std.proofs.Common.{◌≡◌, refl, sym, ap, ◌∙◌, subst, ℕ, ◌+◌, ◌-◌, ◌<◌, true, false, List, map, take, slice_index, inl, inr, arith}
use Rattle.std.specs.Prelude.{nat_lt, if◌then◌else◌}
use Rattle.std.specs.List.{range_with_len}
use Rattle.std.proofs.lemmas.Bool.{cases_lt}
use Rattle.std.proofs.lemmas.Bool.Decides.{nat_tests}
use Rattle.std.proofs.lemmas.Grind.{same_number_lists}
use Rattle.std.proofs.lemmas.List.{get_or-take, length-take-le}
use Rattle.std.proofs.lemmas.List.FromFn.{get_or-map-range_with_len, length-map-range_with_len}
use Rattle.net_values.specs.Net.{Net}
use Rattle.incidence.specs.Semiflow.{IsSemiflow, IsWithin, all_columns}
use Rattle.semiflow_elim.specs.Bases.{IsMinimalRow}
use Rattle.sub_semiflow.specs.SubSemiflows.{IsSubSemiflow, HasMarkWithin, IsExtremalRow}
use Rattle.sub_semiflow.proofs.Sums.{extended, Agree}
use Rattle.sub_semiflow.proofs.Slack.{slack, slack_agree, HasSlack, has_slack, falls_of, flow_of, sub_agree, mark_agree, marked, supported, coprime_agree, coprime_extended, coprime_places}

module _ (net : Net) where
  abbrev size : ℕ
  size = net.places + net.transitions

  abbrev pub cut : List ℕ → List ℕ
  cut row = take net.places row

  -- the entries of the places are those of the vector
  pub cut_agree : (row : List ℕ) → Agree net (slice_index (cut row)) (slice_index row)
  cut_agree row p within = get_or-take net.places row p 0 within

  agree_back : (y z : ℕ → ℕ) → Agree net y z → Agree net z y
  agree_back y z agree p within = sym (agree p within)

  -- a vector with its slack below
  abbrev pub with_slack : (ℕ → ℕ) → ℕ → ℕ
  with_slack y i = if nat_lt i net.places then y i else slack net y (i - net.places)

  pub front_agree : (y : ℕ → ℕ) → Agree net y (with_slack y)
  front_agree y p within = let test : nat_lt p net.places ≡ true = grind (arith, nat_tests) in rw test refl

  slack_there : (y : ℕ → ℕ) (t : ℕ) → with_slack y (net.places + t) ≡ slack net y t
  slack_there y t =
      let test : nat_lt (net.places + t) net.places ≡ false = grind (arith, nat_tests) in
      let same : net.places + t - net.places ≡ t = omega arith in
      rw test (ap (slack net y) same)

  pub slack_kept : (y : ℕ → ℕ) → HasSlack net (with_slack y)
  slack_kept y t within = slack_there y t ∙ slack_agree net y (with_slack y) t (front_agree y)

  -- ---- a semiflow of minimal support, cut

  module _ (row : List ℕ) (is : IsMinimalRow (extended net) all_columns row) where
    abbrev z : ℕ → ℕ
    z = slice_index row

    flow : IsSemiflow (extended net) all_columns z
    flow = is.minimal.semiflow

    least_cut : (w : ℕ → ℕ) → IsSubSemiflow net w → HasMarkWithin net w (slice_index (cut row)) → HasMarkWithin net (slice_index (cut row)) w
    least_cut w sub mark =
        let long = with_slack w in
        let kept = slack_kept w in
        let long_flow = flow_of net long (sub_agree net w long (front_agree w) sub) kept in
        let own = has_slack net z flow in
        let within = supported net long z kept own (mark_agree net w (slice_index (cut row)) long z (front_agree w) (cut_agree row) mark) in
        let back = is.minimal.least long long_flow within in
        mark_agree net z long (slice_index (cut row)) w (agree_back _ _ (cut_agree row)) (agree_back _ _ (front_agree w)) (marked net z long own kept back)

    pub minimal_cut : IsExtremalRow net (cut row)
    minimal_cut = record {
      size = length-take-le net.places row (let h = is.size in omega (arith, h));
      extremal = record {
        sub = sub_agree net z (slice_index (cut row)) (agree_back _ _ (cut_agree row)) (falls_of net z flow);
        coprime = coprime_agree net z (slice_index (cut row)) (agree_back _ _ (cut_agree row)) (coprime_places net z flow is.minimal.coprime);
        least = least_cut;
      };
    }

  -- ---- an extremal sub-semiflow, with its slack

  abbrev pub lengthened : List ℕ → List ℕ
  lengthened row = map (with_slack (slice_index row)) (range_with_len 0 size)

  entry_is : (row : List ℕ) (i : ℕ) → i < size → slice_index (lengthened row) i ≡ with_slack (slice_index row) i
  entry_is row i below = get_or-map-range_with_len (with_slack (slice_index row)) 0 size i i 0 below (omega arith)

  pub long_agree : (row : List ℕ) → Agree net (slice_index row) (slice_index (lengthened row))
  long_agree row p within = front_agree (slice_index row) p within ∙ sym (entry_is row p (omega (arith, within)))

  long_slack : (row : List ℕ) → HasSlack net (slice_index (lengthened row))
  long_slack row t within =
      entry_is row (net.places + t) (omega (arith, within)) ∙ slack_there (slice_index row) t ∙ slack_agree net (slice_index row) (slice_index (lengthened row)) t (long_agree row)

  module _ (row : List ℕ) (is : IsExtremalRow net row) where
    abbrev long_row : ℕ → ℕ
    long_row = slice_index (lengthened row)

    least_long : (w : ℕ → ℕ) → IsSemiflow (extended net) all_columns w → IsWithin (extended net) w long_row → IsWithin (extended net) long_row w
    least_long w w_flow within =
        let own = has_slack net w w_flow in
        let mark = mark_agree net w long_row w (slice_index row) (λ p below. refl) (agree_back _ _ (long_agree row)) (marked net w long_row own (long_slack row) within) in
        let back = is.extremal.least w (falls_of net w w_flow) mark in
        supported net long_row w (long_slack row) own (mark_agree net (slice_index row) w long_row w (long_agree row) (λ p below. refl) back)

    pub minimal_long : IsMinimalRow (extended net) all_columns (lengthened row)
    minimal_long = record {
      size = length-map-range_with_len (with_slack (slice_index row)) 0 size;
      minimal = record {
        semiflow = flow_of net long_row (sub_agree net (slice_index row) long_row (long_agree row) is.extremal.sub) (long_slack row);
        coprime = coprime_extended net long_row (coprime_agree net (slice_index row) long_row (long_agree row) is.extremal.coprime);
        least = least_long;
      };
    }

    pub cut_again : cut (lengthened row) ≡ row
    cut_again =
        let whole = length-map-range_with_len (with_slack (slice_index row)) 0 size in
        let short = length-take-le net.places (lengthened row) (omega (arith, whole)) in
        same_number_lists (cut (lengthened row)) row (short ∙ sym is.size) (λ k below.
        let within : k < net.places = subst (λ n. k < n) short below in
        cut_agree (lengthened row) k within ∙ sym (long_agree row k within))

  -- ---- the slack is determined

  pub same_row : (a b : List ℕ) → IsMinimalRow (extended net) all_columns a → IsMinimalRow (extended net) all_columns b → cut a ≡ cut b → a ≡ b
  same_row a b first second same =
      let agree : Agree net (slice_index a) (slice_index b) = λ p within. sym (cut_agree a p within) ∙ ap (λ (row : List ℕ). slice_index row p) same ∙ cut_agree b p within in
      same_number_lists a b (first.size ∙ sym second.size) (λ k below.
      let under : k < size = subst (λ n. k < n) first.size below in
      elim (cases_lt k net.places) [
        | inl within ↦ agree k within
        | inr past ↦
            let t = k - net.places in
            let back : net.places + t ≡ k = omega (arith, past) in
            let inside : t < net.transitions = omega (arith, under, past) in
            let one = has_slack net (slice_index a) first.minimal.semiflow t inside in
            let other = has_slack net (slice_index b) second.minimal.semiflow t inside in
            subst (λ i. slice_index a i ≡ slice_index b i) back (one ∙ slack_agree net (slice_index a) (slice_index b) t agree ∙ sym other)
      ])
