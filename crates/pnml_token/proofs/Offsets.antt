-- The first index at which a part occurs is where it is found from the front: where it doesn't occur at 0,
-- the search goes on after the first byte, and every offset there is one less.
use Rattle.std.proofs.Common.{◌≡◌, ℕ, zero, suc, ◌+◌, ◌<◌, ◌≤◌, Bool, true, false, List, [], ◌∷◌, ◌++◌, Option, Some, None, take, drop, length, get_or, refl, sym, ap, subst, ◌∙◌, arith, inl, inr}
use Rattle.std.specs.Prelude.{nat_eq, is_some, codes}
use Rattle.std.specs.List.{starts_with}
use Rattle.std.proofs.lemmas.Bool.{cases_Bool}
use Rattle.std.proofs.lemmas.Bool.Decides.{Decides-eqb}
use Rattle.std.proofs.lemmas.Slice.Eq.{starts_is}
use Rattle.std.proofs.lemmas.List.Prefix.{front_fits, front_reads, front_from_reads}
use Rattle.memchr.specs.Find.{OccursAt, FindsNeedle, IsFirstByte, is_byte}
use Rattle.pnml_grammar.specs.Runs.{until, with_byte}

abbrev starts : List ℕ → List ℕ → Bool
starts part bytes = starts_with nat_eq bytes part

occurs_first : (part bytes : List ℕ) → starts part bytes ≡ true → OccursAt bytes part 0
occurs_first part bytes e =
    let whole : bytes ≡ part ++ drop (length part) bytes = (starts_is Decides-eqb bytes part (starts part bytes) refl).0 e in
    record {
      fits = omega (arith, front_fits bytes part (drop (length part) bytes) whole);
      reads = λ j lt. subst (λ (k : ℕ). get_or bytes k 0 ≡ get_or part j 0) (sym (zero_plus j)) (front_reads 0 bytes part (drop (length part) bytes) whole j lt);
    }
  where
    zero_plus : (j : ℕ) → 0 + j ≡ j
    zero_plus j = omega arith

first_starts : (part bytes : List ℕ) → OccursAt bytes part 0 → starts part bytes ≡ true
first_starts part bytes occurs =
    let zero_plus : (j : ℕ) → 0 + j ≡ j = λ j. omega arith in
    let whole = front_from_reads 0 bytes part (omega (arith, occurs.fits)) (λ j lt. subst (λ (k : ℕ). get_or bytes k 0 ≡ get_or part j 0) (zero_plus j) (occurs.reads j lt)) in
    (starts_is Decides-eqb bytes part (starts part bytes) refl).1 (drop (length part) bytes) whole

occurs_later : (part : List ℕ) (b : ℕ) (bs : List ℕ) (k : ℕ) → OccursAt bs part k → OccursAt (b ∷ bs) part (suc k)
occurs_later part b bs k occurs = record {
  fits = omega (arith, occurs.fits);
  reads = λ j lt. subst (λ (n : ℕ). get_or (b ∷ bs) n 0 ≡ get_or part j 0) (later j) (occurs.reads j lt);
}
  where
    later : (j : ℕ) → suc (k + j) ≡ suc k + j
    later j = omega arith

occurs_sooner : (part : List ℕ) (b : ℕ) (bs : List ℕ) (k : ℕ) → OccursAt (b ∷ bs) part (suc k) → OccursAt bs part k
occurs_sooner part b bs k occurs = record {
  fits = omega (arith, occurs.fits);
  reads = λ j lt. subst (λ (n : ℕ). get_or (b ∷ bs) n 0 ≡ get_or part j 0) (sooner j) (occurs.reads j lt);
}
  where
    sooner : (j : ℕ) → suc k + j ≡ suc (k + j)
    sooner j = omega arith

until_first : (part bytes : List ℕ) → starts part bytes ≡ true → until part bytes ≡ Some ([], drop (length part) bytes)
until_first part [] e = rw e refl
until_first part (b ∷ bs) e = rw e refl

until_later : (part : List ℕ) (b : ℕ) (bs : List ℕ) → starts part (b ∷ bs) ≡ false → until part (b ∷ bs) ≡ with_byte b (until part bs)
until_later part b bs e = rw e refl

not_first : (part bytes : List ℕ) → (OccursAt bytes part 0 → ⊥) → starts part bytes ≡ false
not_first part bytes h = elim (cases_Bool (starts part bytes)) [ inl begins ↦ absurd (h (occurs_first part bytes begins)) | inr other ↦ other ]

nowhere_until : (part bytes : List ℕ) → ((k : ℕ) → k ≤ length bytes → OccursAt bytes part k → ⊥) → until part bytes ≡ None
nowhere_until part [] h = rw (not_first part [] (h 0 (omega arith))) refl
nowhere_until part (b ∷ bs) h =
    until_later part b bs (not_first part (b ∷ bs) (h 0 (omega arith)))
    ∙ ap (λ (o : Option (List ℕ × List ℕ)). with_byte b o)
    (nowhere_until part bs (λ k le occurs. h (suc k) (omega arith) (occurs_later part b bs k occurs)))

later_drop : (n k : ℕ) (b : ℕ) (bs : List ℕ) → drop (k + n) bs ≡ drop (suc k + n) (b ∷ bs)
later_drop n k b bs = let same : suc k + n ≡ suc (k + n) = omega arith in rw same refl

first_until : (part bytes : List ℕ) (k : ℕ) → ((j : ℕ) → j < k → OccursAt bytes part j → ⊥) → OccursAt bytes part k → until part bytes ≡ Some (take k bytes, drop (k + length part) bytes)
first_until part bytes zero before occurs =
    let same : length part ≡ 0 + length part = omega arith in
    until_first part bytes (first_starts part bytes occurs) ∙ ap (λ (n : ℕ). Some ([], drop n bytes)) same
first_until part [] (suc k) before occurs = absurd (omega (arith, occurs.fits))
first_until part (b ∷ bs) (suc k) before occurs =
    until_later part b bs (not_first part (b ∷ bs) (before 0 (omega arith)))
    ∙ ap (λ (o : Option (List ℕ × List ℕ)). with_byte b o)
    (first_until part bs k (λ j lt later. before (suc j) (omega arith) (occurs_later part b bs j later)) (occurs_sooner part b bs k occurs))
    ∙ ap (λ (t : List ℕ). Some (b ∷ take k bs, t)) (later_drop (length part) k b bs)

pub found_until : (part bytes : List ℕ) (k : ℕ) → FindsNeedle bytes part 0 (Some k) → until part bytes ≡ Some (take k bytes, drop (k + length part) bytes)
found_until part bytes k h = first_until part bytes k (λ j lt occurs. h.0.before j (omega arith) lt occurs) h.1

pub none_until : (part bytes : List ℕ) → FindsNeedle bytes part 0 None → until part bytes ≡ None
none_until part bytes h = nowhere_until part bytes (λ k le occurs. h k (omega arith) (omega arith) occurs)

-- where the last byte of `]]>` occurs nowhere, neither does the whole
pub no_section_end : (bytes : List ℕ) → IsFirstByte (is_byte 62) bytes None → false ≡ is_some (until (codes "]]>") bytes)
no_section_end bytes none =
    let nowhere : FindsNeedle bytes (codes "]]>") 0 None =
    λ k low high occurs. none (k + 2) (omega arith) (omega (arith, occurs.fits)) (ap (is_byte 62) (occurs.reads 2 (omega arith)))
    in
    sym (ap (λ (found : Option (List ℕ × List ℕ)). is_some found) (none_until (codes "]]>") bytes nowhere))
