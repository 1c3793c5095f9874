-- The set of the positions of the positive entries of a vector.
use Rattle.std.proofs.Common.{◌≡◌, sym, ap, ◌∙◌, ℕ, ◌^◌, ◌<◌, ◌≤◌, nat_lt, List, Bool, false, length, get_or, replicate, slice_index, slice_set, length-set, inl, inr, arith}
use Rattle.std.proofs.lemmas.Bool.{cases_lt, cases_eq, le-ltb}
use Rattle.std.proofs.lemmas.List.{same_lists, get_or-map, length-map, get_or-replicate, length-replicate, get_or-set_same, get_or-set_other, map-set, get_or_past}
use Rattle.net_values.specs.PlaceSets.{has}
use Rattle.net_values.specs.Vectors.{IsVector, support_of}
use Rattle.net_values.specs.declared.limits.TheConstants.{MAX_ENTRIES}

pub support_size : (entries : List ℕ) → length (support_of entries) ≡ length entries
support_size entries = length-map entries (λ entry. nat_lt 0 entry)

-- past the end there is no entry, and no position
pub support_has : (entries : List ℕ) (p : ℕ) → has (support_of entries) p ≡ nat_lt 0 (slice_index entries p)
support_has entries p =
    elim (cases_lt p (length entries)) [
      | inl under ↦ get_or-map (λ entry. nat_lt 0 entry) entries p 0 false under
      | inr past ↦
          get_or_past (support_of entries) p false (omega (arith, support_size entries))
          ∙ sym (le-ltb 0 (slice_index entries p) (omega (arith, get_or_past entries p 0 past)))
    ]

pub zeros_support : (n : ℕ) → replicate n false ≡ support_of (replicate n 0)
zeros_support n =
    let size = length-replicate n false in
    let count = length-replicate {A = ℕ} n 0 in
    same_lists (replicate n false) (support_of (replicate n 0)) (size ∙ sym (support_size (replicate n 0) ∙ count)) (λ k d under.
    let inside : k < n = omega (arith, size) in
    get_or-replicate n k false d inside
    ∙ sym (get_or-map (λ entry. nat_lt 0 entry) (replicate n 0) k 0 d (omega (arith, count)) ∙ ap (λ (x : ℕ). nat_lt 0 x) (get_or-replicate n k 0 0 inside)))

-- what is kept of no positive entry, and of one entry changed
pub zeros_vector : (n : ℕ) → n ≤ MAX_ENTRIES → IsVector (replicate n 0)
zeros_vector n bound =
    let size = length-replicate {A = ℕ} n 0 in
    record {
      short = omega arith;
      narrow = λ k d under. let zero : get_or (replicate n 0) k d ≡ 0 = get_or-replicate n k 0 d (omega arith) in omega arith;
    }

pub set_vector : (entries : List ℕ) (i value : ℕ) → i < length entries → value < 2 ^ 127 → IsVector entries → IsVector (slice_set entries i value)
set_vector entries i value within small h =
    let size = length-set entries i value in
    let short = h.short in
    record {
      short = omega arith;
      narrow = λ k d under. elim (cases_eq k i) [
        | inl same ↦
            let here : get_or (slice_set entries i value) k d ≡ value = ap (λ (x : ℕ). get_or (slice_set entries i value) x d) same ∙ get_or-set_same entries i value d within in
            omega arith
        | inr other ↦
            let there : get_or (slice_set entries i value) k d ≡ get_or entries k d = get_or-set_other entries i k value d other in
            let narrow = h.narrow k d (omega arith) in
            omega arith
      ];
    }

pub set_support : (entries : List ℕ) (support : List Bool) (i value : ℕ) (b : Bool) → nat_lt 0 value ≡ b → support ≡ support_of entries → slice_set support i b ≡ support_of (slice_set entries i value)
set_support entries support i value b is positions = ap (λ (set : List Bool). slice_set set i b) positions ∙ ap (slice_set (support_of entries) i) (sym is) ∙ sym (map-set (λ entry. nat_lt 0 entry) entries i value)
