-- A vector divided by a number that no positive entry is below: the positive entries stay positive.
use Rattle.std.proofs.Common.{◌≡◌, refl, sym, ap, ◌∙◌, ℕ, ◌/◌, ◌<◌, ◌≤◌, nat_lt, suc, zero, List, [], ◌∷◌, Bool, length, map, get_or, slice_index, inl, inr, arith}
use Rattle.std.proofs.Math.Nat.{div-le_self}
use Rattle.std.proofs.lemmas.Nat.{le-div}
use Rattle.std.proofs.lemmas.Bool.{cases_lt, lt-ltb, le-ltb}
use Rattle.std.proofs.lemmas.List.{get_or-map, length-map}
use Rattle.net_values.specs.Vectors.{IsVector, IsKept, packed, support_of}
use Rattle.net_values.proofs.Packed.{packed_more}

pub divided_by_one : (entries : List ℕ) (divisor : ℕ) → divisor ≡ 1 → entries ≡ map (λ entry. entry / divisor) entries
divided_by_one [] divisor one = refl
divided_by_one (e ∷ entries) divisor one = let same : e ≡ e / divisor = sym (ap (λ (d : ℕ). e / d) one ∙ omega arith) in cc (divided_by_one entries divisor one)

-- what is positive stays so
still : (n d : ℕ) → 0 < d → (0 < n → d ≤ n) → nat_lt 0 (n / d) ≡ nat_lt 0 n
still n d some least =
    elim (cases_lt 0 n) [
      | inl positive ↦
          let one : 1 ≤ n / d = le-div 1 n d some (let enough = least positive in omega arith) in
          lt-ltb 0 (n / d) (omega arith) ∙ sym (lt-ltb 0 n positive)
      | inr none ↦
          let part = div-le_self n d in
          le-ltb 0 (n / d) (omega arith) ∙ sym (le-ltb 0 n none)
    ]

pub divided_vector : (entries : List ℕ) (divisor : ℕ) → IsVector entries → IsVector (map (λ entry. entry / divisor) entries)
divided_vector entries divisor h =
    let f : ℕ → ℕ = λ entry. entry / divisor in
    let size = length-map entries f in
    let short = h.short in
    record {
      short = omega arith;
      narrow = λ k d under.
          let within : k < length entries = omega arith in
          let is : get_or (map f entries) k d ≡ get_or entries k 0 / divisor = get_or-map f entries k 0 d within in
          let part = div-le_self (get_or entries k 0) divisor in
          let narrow = h.narrow k 0 within in
          omega arith;
    }

module _ (divisor : ℕ) (some : 0 < divisor) where
  divided_support : (entries : List ℕ) → ((i : ℕ) → 0 < slice_index entries i → divisor ≤ slice_index entries i) → support_of entries ≡ support_of (map (λ entry. entry / divisor) entries)
  divided_support [] least = refl
  divided_support (e ∷ entries) least =
      ap (λ (b : Bool). b ∷ support_of entries) (sym (still e divisor some (least 0)))
      ∙ ap (λ (s : List Bool). nat_lt 0 (e / divisor) ∷ s) (divided_support entries (λ i. least (suc i)))

  divided_numbers : (entries : List ℕ) → ((i : ℕ) → 0 < slice_index entries i → divisor ≤ slice_index entries i) → map (λ entry. entry / divisor) (packed entries) ≡ packed (map (λ entry. entry / divisor) entries)
  divided_numbers [] least = refl
  divided_numbers (zero ∷ entries) least =
      let none : 0 / divisor ≡ 0 = let part = div-le_self 0 divisor in omega arith in
      divided_numbers entries (λ i. least (suc i)) ∙ ap (λ (x : ℕ). packed (x ∷ map (λ entry. entry / divisor) entries)) (sym none)
  divided_numbers (suc n ∷ entries) least =
      let one : 1 ≤ suc n / divisor = le-div 1 (suc n) divisor some (let enough = least 0 (omega arith) in omega arith) in
      ap (λ (xs : List ℕ). suc n / divisor ∷ xs) (divided_numbers entries (λ i. least (suc i)))
      ∙ sym (packed_more (suc n / divisor) (map (λ entry. entry / divisor) entries) (omega arith))

  pub divided_kept : (entries : List ℕ) (support : List Bool) (numbers : List ℕ) → ((i : ℕ) → 0 < slice_index entries i → divisor ≤ slice_index entries i) → IsKept entries support numbers → IsKept (map (λ entry. entry / divisor) entries) support (map (λ entry. entry / divisor) numbers)
  divided_kept entries support numbers least k = record {
    vector = divided_vector entries divisor k.vector;
    positions = k.positions ∙ divided_support entries least;
    listed = ap (map (λ entry. entry / divisor)) k.listed ∙ divided_numbers entries least;
  }
