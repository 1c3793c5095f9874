-- A position of a vector that is kept as its positive entries: with the index of its number the entry is read and
-- changed.
use Rattle.std.proofs.Common.{◌≡◌, refl, sym, ap, ◌∙◌, subst, ℕ, zero, suc, ◌^◌, ◌<◌, ◌≤◌, nat_lt, List, [], ◌∷◌, ◌++◌, Bool, true, false, length, get_or, replicate, insert, remove, slice_index, slice_set, arith}
use Rattle.std.proofs.lemmas.Bool.{lt-ltb, le-ltb}
use Rattle.net_values.specs.PlaceSets.{has, members_below}
use Rattle.net_values.specs.Vectors.{AreZerosFrom, IsKept, IsPacked, packed, unpacked, positives_below, positive_count}
use Rattle.net_values.proofs.Supports.{support_has, set_vector, set_support, zeros_vector, zeros_support}
use Rattle.net_values.proofs.Walks.{zero_where, positive_where, count_short}
use Rattle.net_values.proofs.Packed.{unpacked_size, packed_size, members_positive, number_at, number_below, index_within, number_put, number_inserted, number_removed, number_pushed, kept_whole, packed_none, packs}
use Rattle.net_values.specs.declared.limits.TheConstants.{MAX_ENTRIES}

member_again : (set : List Bool) (p : ℕ) → has set p ≡ true → slice_set set p true ≡ set
member_again [] p is = refl
member_again (b ∷ set) zero is = ap (λ (x : Bool). x ∷ set) (sym is)
member_again (b ∷ set) (suc p) is = ap (λ (s : List Bool). b ∷ s) (member_again set p is)

module _ (entries : List ℕ) (support : List Bool) (numbers : List ℕ) (k : IsKept entries support numbers) where
  pub member_of : (p : ℕ) → has support p ≡ nat_lt 0 (slice_index entries p)
  member_of p = ap (λ (s : List Bool). has s p) k.positions ∙ support_has entries p

  pub positive_here : (p : ℕ) → has support p ≡ true → 0 < slice_index entries p
  positive_here p is = positive_where (slice_index entries p) (sym (member_of p) ∙ is)

  pub zero_here : (p : ℕ) → has support p ≡ false → slice_index entries p ≡ 0
  zero_here p is = zero_where (slice_index entries p) (sym (member_of p) ∙ is)

  put_same : (p : ℕ) → has support p ≡ true → slice_set support p true ≡ support
  put_same p is = member_again support p is

  pub index_of : (p : ℕ) → members_below support p ≡ positives_below entries p
  index_of p = ap (λ (s : List Bool). members_below s p) k.positions ∙ members_positive entries p

  pub count_is : length numbers ≡ positive_count entries
  count_is = ap length k.listed ∙ packed_size entries

  module _ (p index : ℕ) (counted : index ≡ members_below support p) where
    at : index ≡ positives_below entries p
    at = counted ∙ index_of p

    pub index_below : has support p ≡ true → index < length numbers
    index_below is =
        let size : length numbers ≡ length (packed entries) = ap length k.listed in
        let under = number_below entries p (positive_here p is) in
        omega (arith, at)

    pub index_most : index ≤ length numbers
    index_most =
        let size : length numbers ≡ length (packed entries) = ap length k.listed in
        let under = index_within entries p in
        omega (arith, at)

    pub number_here : (d : ℕ) → has support p ≡ true → get_or numbers index d ≡ slice_index entries p
    number_here d is = ap (λ (xs : List ℕ). get_or xs index d) k.listed ∙ ap (λ (i : ℕ). get_or (packed entries) i d) at ∙ number_at entries p d (positive_here p is)

    pub number_narrow : (d : ℕ) → p < length entries → has support p ≡ true → get_or numbers index d < 2 ^ 127
    number_narrow d within is =
        let here = number_here d is in
        let narrow = k.vector.narrow p 0 within in
        omega arith

    pub put_kept : (entry : ℕ) → p < length entries → 0 < entry → entry < 2 ^ 127 → has support p ≡ true → IsKept (slice_set entries p entry) support (slice_set numbers index entry)
    put_kept entry within positive narrow is = record {
      vector = set_vector entries p entry within narrow k.vector;
      positions = sym (put_same p is) ∙ set_support entries support p entry true (lt-ltb 0 entry positive) k.positions;
      listed = ap (λ (xs : List ℕ). slice_set xs index entry) k.listed ∙ ap (λ (i : ℕ). slice_set (packed entries) i entry) at ∙ sym (number_put entries p entry positive (positive_here p is));
    }

    pub inserted_kept : (entry : ℕ) → p < length entries → 0 < entry → entry < 2 ^ 127 → has support p ≡ false → IsKept (slice_set entries p entry) (slice_set support p true) (insert numbers index entry)
    inserted_kept entry within positive narrow is = record {
      vector = set_vector entries p entry within narrow k.vector;
      positions = set_support entries support p entry true (lt-ltb 0 entry positive) k.positions;
      listed = ap (λ (xs : List ℕ). insert xs index entry) k.listed ∙ ap (λ (i : ℕ). insert (packed entries) i entry) at ∙ sym (number_inserted entries p entry positive within (zero_here p is));
    }

    pub removed_kept : p < length entries → has support p ≡ true → IsKept (slice_set entries p 0) (slice_set support p false) (remove numbers index)
    removed_kept within is = record {
      vector = set_vector entries p 0 within (omega arith) k.vector;
      positions = set_support entries support p 0 false (le-ltb 0 0 (omega arith)) k.positions;
      listed = ap (λ (xs : List ℕ). remove xs index) k.listed ∙ ap (remove (packed entries)) at ∙ sym (number_removed entries p (positive_here p is));
    }

  pub pushed_kept : (p entry : ℕ) → p < length entries → 0 < entry → entry < 2 ^ 127 → AreZerosFrom entries p → IsKept (slice_set entries p entry) (slice_set support p true) (numbers ++ entry ∷ [])
  pushed_kept p entry within positive narrow zeros = record {
    vector = set_vector entries p entry within narrow k.vector;
    positions = set_support entries support p entry true (lt-ltb 0 entry positive) k.positions;
    listed = ap (λ (xs : List ℕ). xs ++ entry ∷ []) k.listed ∙ sym (number_pushed entries p entry positive within zeros);
  }

-- what is kept of no positive entry
pub zeros_kept : (n : ℕ) → n ≤ MAX_ENTRIES → IsKept (replicate n 0) (replicate n false) []
zeros_kept n bound = record { vector = zeros_vector n bound; positions = zeros_support n; listed = sym (packed_none n) }

-- a vector with an entry 0 hasn't as many positive entries as entries
pub not_full : (entries : List ℕ) (p : ℕ) → p < length entries → slice_index entries p ≡ 0 → positive_count entries < length entries
not_full [] p under none = absurd (omega arith)
not_full (e ∷ entries) zero under none = let rest = count_short entries in omega arith
not_full (e ∷ entries) (suc p) under none = let rest = not_full entries p (omega arith) none in omega arith

-- what is kept now, and what it is seen as
module _ (entries : List ℕ) (support set : List Bool) (numbers list : List ℕ) (set_is : set ≡ support) (list_is : list ≡ numbers) (k : IsKept entries support numbers) where
  kept_now : IsKept entries set list
  kept_now = subst (λ (s : List Bool). IsKept entries s list) (sym set_is) (subst (IsKept entries support) (sym list_is) k)

  pub stored : (room : ℕ) → length entries ≤ room → IsPacked set list room
  stored room enough = packs entries set list room enough kept_now

  pub shown : unpacked set list ≡ entries
  shown = kept_whole entries set list kept_now

pub short_support : (support : List Bool) (numbers : List ℕ) (room : ℕ) → IsPacked support numbers room → length support ≤ MAX_ENTRIES
short_support support numbers room p = let size = unpacked_size support numbers in omega (arith, p.kept.vector.short)

-- what is kept of the entries that a vector is seen as
module _ (entries : List ℕ) (support : List Bool) (numbers : List ℕ) (room : ℕ) (p : IsPacked support numbers room) (seen : unpacked support numbers ≡ entries) where
  pub held : IsKept entries support numbers
  held = subst (λ (es : List ℕ). IsKept es support numbers) seen p.kept

  pub held_room : length entries ≤ room
  held_room =
      let size = unpacked_size support numbers in
      let same : length (unpacked support numbers) ≡ length entries = ap length seen in
      omega (arith, p.enough)
