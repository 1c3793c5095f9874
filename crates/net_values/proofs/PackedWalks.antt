-- A walk over a vector that is kept as its positive entries, at the next positive entry or at a position before which no
-- positive entry is left: the entry there is the next number, or 0.
use Rattle.std.proofs.Common.{◌≡◌, sym, ap, ◌∙◌, subst, ℕ, suc, ◌+◌, ◌^◌, ◌<◌, List, Bool, true, false, length, get_or, slice_index, arith}
use Rattle.net_values.specs.PlaceSets.{has, HasNoneFrom, IsFirstFrom, members_below}
use Rattle.net_values.specs.Vectors.{AreZerosBetween, AreZerosFrom, IsFirstPositive, IsKept, IsWalked, WalkValue, support_of, unpacked, positives_below}
use Rattle.net_values.proofs.Supports.{support_size}
use Rattle.net_values.proofs.Walks.{none_between, one_more}
use Rattle.net_values.proofs.PackedPlaces.{positive_here, zero_here, index_of, index_below, number_here, number_narrow}

module _ (support : List Bool) (numbers : List ℕ) (from index : ℕ) (now : WalkValue) (w : IsWalked support numbers from index) (seen : record { entries = unpacked support numbers; from = from } ≡ now) where
  pub walked_kept : IsKept now.entries support numbers
  walked_kept = subst (λ (v : WalkValue). IsKept v.entries support numbers) seen w.kept

  passed : index ≡ positives_below now.entries now.from
  passed = subst (λ (v : WalkValue). index ≡ positives_below v.entries v.from) seen w.passed

  -- the walk as it is after a position, to which it has come with a number of this index
  walked_to : (next i : ℕ) → i ≡ positives_below now.entries next → IsWalked support numbers next i
  walked_to next i at = record {
    kept = w.kept;
    passed = at ∙ ap (λ (v : WalkValue). positives_below v.entries next) (sym seen);
  }

  pub zeros_before : (p : ℕ) → IsFirstFrom support from p → AreZerosBetween now.entries now.from p
  zeros_before p f =
      subst (λ (v : WalkValue). AreZerosBetween v.entries v.from p) seen
      record { order = f.not_before; zeros = λ q late under. zero_here (unpacked support numbers) support numbers w.kept q (f.first q late under) }

  module _ (p : ℕ) (z : AreZerosBetween now.entries now.from p) where
    index_at : index ≡ positives_below now.entries p
    index_at = passed ∙ sym (none_between now.entries now.from p z.order z.zeros)

    counted : index ≡ members_below support p
    counted = index_at ∙ sym (index_of now.entries support numbers walked_kept p)

    pub walked_past : has support p ≡ false → IsWalked support numbers (p + 1) index
    walked_past is =
        let here = zero_here now.entries support numbers walked_kept p is in
        walked_to (p + 1) index
        (index_at ∙ sym (none_between now.entries p (p + 1) (omega arith) (λ q late under.
        let same : q ≡ p = omega arith in ap (slice_index now.entries) same ∙ here)))

    module _ (is : has support p ≡ true) where
      pub walked_on : IsWalked support numbers (p + 1) (index + 1)
      walked_on =
          let same : p + 1 ≡ suc p = omega arith in
          let to : positives_below now.entries (p + 1) ≡ positives_below now.entries (suc p) = ap (positives_below now.entries) same in
          let more = one_more now.entries p (positive_here now.entries support numbers walked_kept p is) in
          let at = index_at in
          walked_to (p + 1) (index + 1) (omega arith)

      pub next_below : index < length numbers
      next_below = index_below now.entries support numbers walked_kept p index counted is

      pub next_here : get_or numbers index 0 ≡ slice_index now.entries p
      next_here = number_here now.entries support numbers walked_kept p index counted 0 is

      pub next_narrow : p < length now.entries → get_or numbers index 0 < 2 ^ 127
      next_narrow within = number_narrow now.entries support numbers walked_kept p index counted 0 within is

  -- the next positive entry, where there is one
  pub first_found : (p : ℕ) → IsFirstFrom support from p → IsFirstPositive now.entries now.from p (get_or numbers index 0)
  first_found p f =
      let zeros = zeros_before p f in
      let size : length support ≡ length (support_of now.entries) = ap length walked_kept.positions in
      let within : p < length now.entries = let under = f.below_size in let all = support_size now.entries in omega arith in
      record {
        within = within;
        zeros = zeros;
        here = next_here p zeros f.member;
        positive = let here = next_here p zeros f.member in let some = positive_here now.entries support numbers walked_kept p f.member in omega arith;
        narrow = next_narrow p zeros f.member within;
      }

  pub none_left : HasNoneFrom support from → AreZerosFrom now.entries now.from
  none_left none = subst (λ (v : WalkValue). AreZerosFrom v.entries v.from) seen (λ p late. zero_here (unpacked support numbers) support numbers w.kept p (none p late))
