-- Only the positive entries, in order: with the set of their positions they give all entries back, and the entry at a
-- position is the number whose index is the count of positive entries before it.
use Rattle.std.proofs.Common.{◌≡◌, refl, sym, ap, ◌∙◌, subst, ℕ, zero, suc, ◌+◌, ◌<◌, ◌≤◌, List, [], ◌∷◌, ◌++◌, Bool, true, false, length, get_or, drop, insert, remove, replicate, slice_index, slice_set, arith}
use Rattle.std.proofs.lemmas.Bool.{lt-ltb}
use Rattle.std.proofs.lemmas.List.{take_all, drop_all}
use Rattle.net_values.specs.PlaceSets.{members_below}
use Rattle.net_values.specs.Vectors.{AreZerosFrom, IsKept, IsPacked, packed, unpacked, support_of, positives_below, positive_count}
use Rattle.net_values.proofs.Supports.{support_size}
use Rattle.net_values.proofs.Walks.{one_more, below_all, all_passed}

pub whole : (entries : List ℕ) → unpacked (support_of entries) (packed entries) ≡ entries
whole [] = refl
whole (zero ∷ entries) = ap (λ (es : List ℕ). 0 ∷ es) (whole entries)
whole (suc n ∷ entries) = ap (λ (b : Bool). unpacked (b ∷ support_of entries) (suc n ∷ packed entries)) (lt-ltb 0 (suc n) (omega arith)) ∙ ap (λ (es : List ℕ). suc n ∷ es) (whole entries)

pub kept_whole : (entries : List ℕ) (support : List Bool) (numbers : List ℕ) → IsKept entries support numbers → unpacked support numbers ≡ entries
kept_whole entries support numbers k = ap (λ (s : List Bool). unpacked s numbers) k.positions ∙ ap (unpacked (support_of entries)) k.listed ∙ whole entries

pub packs : (entries : List ℕ) (support : List Bool) (numbers : List ℕ) (room : ℕ) → length entries ≤ room → IsKept entries support numbers → IsPacked support numbers room
packs entries support numbers room enough k = record {
  kept = subst (λ (es : List ℕ). IsKept es support numbers) (sym (kept_whole entries support numbers k)) k;
  enough = let size = support_size entries in let same : length support ≡ length (support_of entries) = ap length k.positions in omega arith;
}

pub unpacked_size : (support : List Bool) (numbers : List ℕ) → length (unpacked support numbers) ≡ length support
unpacked_size [] numbers = refl
unpacked_size (false ∷ support) numbers = ap suc (unpacked_size support numbers)
unpacked_size (true ∷ support) [] = ap suc (unpacked_size support [])
unpacked_size (true ∷ support) (n ∷ numbers) = ap suc (unpacked_size support numbers)

pub packed_size : (entries : List ℕ) → length (packed entries) ≡ positive_count entries
packed_size [] = refl
packed_size (zero ∷ entries) = let rest = packed_size entries in omega arith
packed_size (suc n ∷ entries) = let rest = packed_size entries in omega arith

pub packed_none : (n : ℕ) → packed (replicate n 0) ≡ []
packed_none zero = refl
packed_none (suc n) = packed_none n

pub members_positive : (entries : List ℕ) (p : ℕ) → members_below (support_of entries) p ≡ positives_below entries p
members_positive [] p = refl
members_positive (e ∷ entries) zero = refl
members_positive (zero ∷ entries) (suc p) = let rest = members_positive entries p in omega arith
members_positive (suc n ∷ entries) (suc p) =
    let rest = members_positive entries p in
    let here : members_below (support_of (suc n ∷ entries)) (suc p) ≡ 1 + members_below (support_of entries) p = ap (λ (b : Bool). members_below (b ∷ support_of entries) (suc p)) (lt-ltb 0 (suc n) (omega arith)) in
    omega arith

-- the index of an entry
pass_zero : (entries : List ℕ) (p : ℕ) → positives_below (0 ∷ entries) (suc p) ≡ positives_below entries p
pass_zero entries p = omega arith

pass_one : (n : ℕ) (entries : List ℕ) (p : ℕ) → positives_below (suc n ∷ entries) (suc p) ≡ suc (positives_below entries p)
pass_one n entries p = omega arith

pub packed_more : (n : ℕ) (entries : List ℕ) → 0 < n → packed (n ∷ entries) ≡ n ∷ packed entries
packed_more zero entries some = absurd (omega arith)
packed_more (suc n) entries some = refl

pub number_at : (entries : List ℕ) (p d : ℕ) → 0 < slice_index entries p → get_or (packed entries) (positives_below entries p) d ≡ slice_index entries p
number_at [] p d some = absurd (omega arith)
number_at (zero ∷ entries) zero d some = absurd (omega arith)
number_at (suc n ∷ entries) zero d some = refl
number_at (zero ∷ entries) (suc p) d some = ap (λ (k : ℕ). get_or (packed entries) k d) (pass_zero entries p) ∙ number_at entries p d some
number_at (suc n ∷ entries) (suc p) d some = ap (λ (k : ℕ). get_or (suc n ∷ packed entries) k d) (pass_one n entries p) ∙ number_at entries p d some

pub number_below : (entries : List ℕ) (p : ℕ) → 0 < slice_index entries p → positives_below entries p < length (packed entries)
number_below entries p some =
    let more = one_more entries p some in
    let all = below_all entries (suc p) in
    let size = packed_size entries in
    omega arith

pub index_within : (entries : List ℕ) (p : ℕ) → positives_below entries p ≤ length (packed entries)
index_within entries p = let all = below_all entries p in let size = packed_size entries in omega arith

-- an entry changed
pub number_put : (entries : List ℕ) (p entry : ℕ) → 0 < entry → 0 < slice_index entries p → packed (slice_set entries p entry) ≡ slice_set (packed entries) (positives_below entries p) entry
number_put [] p entry positive some = absurd (omega arith)
number_put (zero ∷ entries) zero entry positive some = absurd (omega arith)
number_put (suc n ∷ entries) zero entry positive some = packed_more entry entries positive
number_put (zero ∷ entries) (suc p) entry positive some = number_put entries p entry positive some ∙ ap (λ (k : ℕ). slice_set (packed entries) k entry) (sym (pass_zero entries p))
number_put (suc n ∷ entries) (suc p) entry positive some =
    ap (λ (es : List ℕ). suc n ∷ es) (number_put entries p entry positive some) ∙ ap (λ (k : ℕ). slice_set (suc n ∷ packed entries) k entry) (sym (pass_one n entries p))

pub number_inserted : (entries : List ℕ) (p entry : ℕ) → 0 < entry → p < length entries → slice_index entries p ≡ 0 → packed (slice_set entries p entry) ≡ insert (packed entries) (positives_below entries p) entry
number_inserted [] p entry positive under none = absurd (omega arith)
number_inserted (zero ∷ entries) zero entry positive under none = packed_more entry entries positive
number_inserted (suc n ∷ entries) zero entry positive under none = absurd (omega arith)
number_inserted (zero ∷ entries) (suc p) entry positive under none = number_inserted entries p entry positive (omega arith) none ∙ ap (λ (k : ℕ). insert (packed entries) k entry) (sym (pass_zero entries p))
number_inserted (suc n ∷ entries) (suc p) entry positive under none =
    ap (λ (es : List ℕ). suc n ∷ es) (number_inserted entries p entry positive (omega arith) none) ∙ ap (λ (k : ℕ). insert (suc n ∷ packed entries) k entry) (sym (pass_one n entries p))

pub number_removed : (entries : List ℕ) (p : ℕ) → 0 < slice_index entries p → packed (slice_set entries p 0) ≡ remove (packed entries) (positives_below entries p)
number_removed [] p some = absurd (omega arith)
number_removed (zero ∷ entries) zero some = absurd (omega arith)
number_removed (suc n ∷ entries) zero some = refl
number_removed (zero ∷ entries) (suc p) some = number_removed entries p some ∙ ap (λ (k : ℕ). remove (packed entries) k) (sym (pass_zero entries p))
number_removed (suc n ∷ entries) (suc p) some =
    ap (λ (es : List ℕ). suc n ∷ es) (number_removed entries p some) ∙ ap (λ (k : ℕ). remove (suc n ∷ packed entries) k) (sym (pass_one n entries p))

pub zero_again : (entries : List ℕ) (p : ℕ) → slice_index entries p ≡ 0 → slice_set entries p 0 ≡ entries
zero_again [] p none = refl
zero_again (e ∷ entries) zero none = ap (λ (x : ℕ). x ∷ entries) (sym none)
zero_again (e ∷ entries) (suc p) none = ap (λ (es : List ℕ). e ∷ es) (zero_again entries p none)

inserted_last : (numbers : List ℕ) (k entry : ℕ) → length numbers ≡ k → insert numbers k entry ≡ numbers ++ entry ∷ []
inserted_last numbers k entry all = ap (λ (xs : List ℕ). xs ++ entry ∷ drop k numbers) (take_all k numbers (omega arith)) ∙ ap (λ (xs : List ℕ). numbers ++ entry ∷ xs) (drop_all k numbers (omega arith))

pub number_pushed : (entries : List ℕ) (p entry : ℕ) → 0 < entry → p < length entries → AreZerosFrom entries p → packed (slice_set entries p entry) ≡ packed entries ++ entry ∷ []
number_pushed entries p entry positive under zeros =
    number_inserted entries p entry positive under (zeros p (omega arith))
    ∙ inserted_last (packed entries) (positives_below entries p) entry (packed_size entries ∙ sym (all_passed entries p zeros))
