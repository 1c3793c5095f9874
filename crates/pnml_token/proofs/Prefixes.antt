-- Cutting at the length of a run gives the run and what follows it. The first byte that the class lacks
-- tells that length.
use Rattle.std.proofs.Common.{◌≡◌, ◌∙◌, ℕ, zero, suc, ◌+◌, ◌≤◌, Bool, true, false, cond, List, [], ◌∷◌, Option, Some, None, take, drop, length, get_or, refl, sym, ap, arith}
use Rattle.std.specs.Prelude.{not, unwrap_or}
use Rattle.std.specs.List.{list_all, prefix_len}
use Rattle.std.proofs.lemmas.Bool.{and_parts}
use Rattle.std.proofs.lemmas.List.{length-drop}
use Rattle.std.proofs.lemmas.List.Sums.{prefix_len_is, prefix_len-le-length}
use Rattle.memchr.specs.Find.{IsFirstByte}
use Rattle.pnml_grammar.specs.Runs.{passed, beyond}

one_more : (n : ℕ) → 1 + n ≡ suc n
one_more n = omega arith

pub take_prefix : (p : ℕ → Bool) (xs : List ℕ) → take (prefix_len p xs) xs ≡ passed p xs
take_prefix p [] = refl
take_prefix p (x ∷ xs) =
    elim (p x) as (λ b. take (cond b (1 + prefix_len p xs) 0) (x ∷ xs) ≡ cond b (x ∷ passed p xs) []) [
      | true ↦ rw (one_more (prefix_len p xs)) (ap (λ (t : List ℕ). x ∷ t) (take_prefix p xs))
      | false ↦ refl
    ]

pub drop_prefix : (p : ℕ → Bool) (xs : List ℕ) → drop (prefix_len p xs) xs ≡ beyond p xs
drop_prefix p [] = refl
drop_prefix p (x ∷ xs) =
    elim (p x) as (λ b. drop (cond b (1 + prefix_len p xs) 0) (x ∷ xs) ≡ cond b (beyond p xs) (x ∷ xs)) [
      | true ↦ rw (one_more (prefix_len p xs)) (drop_prefix p xs)
      | false ↦ refl
    ]

-- the three together, as cutting at a length that was counted asks for them
pub cut_inside : (p : ℕ → Bool) (xs : List ℕ) (n : ℕ) → n ≡ prefix_len p xs → n ≤ length xs
cut_inside p xs n e = omega (arith, e, prefix_len-le-length p xs)

pub cut_front : (p : ℕ → Bool) (xs front : List ℕ) (n : ℕ) → front ≡ take n xs → n ≡ prefix_len p xs → front ≡ passed p xs
cut_front p xs front n cut e = cut ∙ ap (λ (m : ℕ). take m xs) e ∙ take_prefix p xs

pub cut_rest : (p : ℕ → Bool) (xs rest : List ℕ) (n : ℕ) → rest ≡ drop n xs → n ≡ prefix_len p xs → rest ≡ beyond p xs
cut_rest p xs rest n cut e = cut ∙ ap (λ (m : ℕ). drop m xs) e ∙ drop_prefix p xs

-- a byte that isn't the one sought is of the class of all others
other_byte : (b : Bool) → (b ≡ true → ⊥) → not b ≡ true
other_byte true other = absurd (other refl)
other_byte false other = refl

pub sought_prefix : (sought : ℕ → Bool) (bytes : List ℕ) (r : Option ℕ) → IsFirstByte sought bytes r → unwrap_or r (length bytes) ≡ prefix_len (λ byte. not (sought byte)) bytes
sought_prefix sought bytes (Some k) found =
    sym
    (prefix_len_is (λ byte. not (sought byte)) bytes k 0 (omega (arith, found.0.high))
    (λ j before. other_byte (sought (get_or bytes j 0)) (found.0.before j (omega arith) before))
    (λ inside. ap not found.1))
sought_prefix sought bytes None none =
    sym
    (prefix_len_is (λ byte. not (sought byte)) bytes (length bytes) 0 (omega arith)
    (λ j before. other_byte (sought (get_or bytes j 0)) (none j (omega arith) before))
    (λ inside. absurd (omega (arith, inside))))

-- ---- parts that are passed whole

all_passed : (p : ℕ → Bool) (xs : List ℕ) (n : ℕ) → n ≤ length xs → list_all p (take n xs) ≡ true → prefix_len p xs ≡ n + prefix_len p (drop n xs)
all_passed p xs zero le all = omega arith
all_passed p [] (suc n) le all = absurd (omega arith)
all_passed p (x ∷ xs) (suc n) le all =
    let both = and_parts (p x) (list_all p (take n xs)) all in
    let rest = all_passed p xs n (omega arith) both.1 in
    ap (λ b. cond b (1 + prefix_len p xs) 0) both.0 ∙ omega arith

-- so many bytes were passed, and the run goes on in those that are left
pub record AreParts (p : ℕ → Bool) (bytes : List ℕ) (n : ℕ) (rest : List ℕ) : Type 0 where
  pub run : prefix_len p bytes ≡ n + prefix_len p rest
  pub total : n + length rest ≡ length bytes

pub part_passed : (p : ℕ → Bool) (bytes rest part after : List ℕ) (n k : ℕ) → AreParts p bytes n rest → k ≤ length rest → part ≡ take k rest → after ≡ drop k rest
    → list_all p part ≡ true → AreParts p bytes (n + k) after
part_passed p bytes rest part after n k parts le front back all =
    let run = parts.run in
    let total = parts.total in
    let passed = all_passed p rest k le (sym (ap (list_all p) front) ∙ all) in
    let left = length-drop k rest in
    rw back record { run = omega arith; total = omega arith }

pub no_part : (p : ℕ → Bool) (bytes : List ℕ) → AreParts p bytes 0 bytes
no_part p bytes = record { run = omega arith; total = omega arith }
