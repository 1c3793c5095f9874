-- A character has at most four bytes, so that of four bytes that begin none no more bytes make one. Bytes that aren't UTF-8
-- stop to be so where their whole characters end. Of whole characters the first tells whether they begin with a byte order mark.
use Rattle.std.proofs.Common.{◌≡◌, ℕ, ◌+◌, ◌-◌, ◌<◌, ◌≤◌, Bool, true, false, List, [], ◌∷◌, ◌++◌, refl, sym, ap, subst, ◌∙◌, arith, length, take, drop, length-append, length-take-le, take_all, take-take, take_at, take-add, true≢false}
use Rattle.std.specs.Prelude.{IsUtf8, encode_utf8, nat_eq}
use Rattle.std.specs.Str.{IsValidUpTo, is_utf8, all_scalars, chars}
use Rattle.std.proofs.lemmas.Bool.{and_parts, eqb-true}
use Rattle.std.proofs.lemmas.List.{append-nil, take-append-le}
use Rattle.std.proofs.lemmas.Str.{IsUtf8-append, IsUtf8-drop, IsCharBoundary-from_take, length-encode, len_utf8_bounds, is_utf8-from_IsUtf8}
use Rattle.std.proofs.Math.Seq.{drop-append_seam, take-append_seam, take-append-add}
use Rattle.std.proofs.Math.Utf8.{encodes, scalar}
use Rattle.pnml_grammar.specs.FirstFault.{FirstFault, not_utf8}
use Rattle.pnml_grammar.specs.Tokens.{first_offset}
use Rattle.pnml_decode.specs.Standing.{IsCut, character_length}

-- ---- characters that are cut

one_character : (c : ℕ) → scalar c ≡ true → IsUtf8 (encode_utf8 c)
one_character c e = (c ∷ [], (rw e refl, append-nil (encode_utf8 c)))

first_character : (cs bytes : List ℕ) → all_scalars cs ≡ true → encodes cs ≡ bytes → 0 < length bytes
    → (c : ℕ) × (tail : List ℕ) × IsUtf8 (encode_utf8 c) × (bytes ≡ encode_utf8 c ++ tail)
first_character [] bytes scalars is some = absurd (omega (arith, ap length is))
first_character (c ∷ cs) bytes scalars is some = (c, encodes cs, one_character c (and_parts (scalar c) (all_scalars cs) scalars).0, sym is)

pub cut_for_good : (rest more : List ℕ) → IsCut rest → character_length ≤ length rest → IsCut (rest ++ more)
cut_for_good rest more cut long n some inside text =
    let size : length (take n (rest ++ more)) ≡ n = length-take-le n (rest ++ more) inside in
    let first = first_character text.0 (take n (rest ++ more)) text.1.0 text.1.1 (omega arith) in
    let m : ℕ = length (encode_utf8 first.0) in
    let bounds = len_utf8_bounds first.0 in
    let length_is = length-encode first.0 in
    let least : 0 < m = omega arith in
    let most : m ≤ 4 = omega arith in
    let within : m ≤ n = omega (arith, ap length first.3, length-append (encode_utf8 first.0) first.1) in
    let front : take m rest ≡ encode_utf8 first.0 =
    sym (take-append-le m rest more (omega arith)) ∙ sym (take-take m n (rest ++ more) within) ∙ ap (take m) first.3 ∙ take_at (encode_utf8 first.0) first.1 m refl in
    cut m least (omega arith) (subst IsUtf8 (sym front) first.2)

pub valid_then_cut : (bytes : List ℕ) (k : ℕ) → IsValidUpTo bytes k → IsCut (drop k bytes)
valid_then_cut bytes k valid n some inside text =
    valid.longest (k + n) (omega arith) (subst IsUtf8 (sym (take-add k n bytes)) (IsUtf8-append (take k bytes) (take n (drop k bytes)) valid.front text))

after_characters : (front rest : List ℕ) → IsUtf8 front → IsUtf8 (front ++ rest) → IsUtf8 rest
after_characters front rest first whole =
    let inside : length front ≤ length (front ++ rest) = omega (arith, length-append front rest) in
    subst IsUtf8 (drop-append_seam front rest)
    (IsUtf8-drop (front ++ rest) (length front) whole (IsCharBoundary-from_take (front ++ rest) (length front) whole inside (subst IsUtf8 (sym (take-append_seam front rest)) first)))

longer_is_no_text : (front rest : List ℕ) → IsUtf8 front → IsCut rest → (j : ℕ) → length front < j → j ≤ length (front ++ rest) → IsUtf8 (take j (front ++ rest)) → ⊥
longer_is_no_text front rest first cut j beyond inside text =
    let m : ℕ = j - length front in
    let sum : j ≡ length front + m = omega arith in
    let parts : take j (front ++ rest) ≡ front ++ take m rest = ap (λ (n : ℕ). take n (front ++ rest)) sum ∙ take-append-add front rest m in
    cut m (omega arith) (omega (arith, length-append front rest)) (after_characters front (take m rest) first (subst IsUtf8 parts text))

-- where something is cut the bytes aren't UTF-8
pub cut_is_first_fault : (front rest : List ℕ) → IsUtf8 front → IsCut rest → 0 < length rest → FirstFault (front ++ rest) (not_utf8 (length front))
cut_is_first_fault front rest first cut some =
    let whole = length-append front rest in
    let longest = longer_is_no_text front rest first cut in (
      λ text. longest (length (front ++ rest)) (omega arith) (omega arith) (subst IsUtf8 (sym (take_all (length (front ++ rest)) (front ++ rest) (omega arith))) text),
      record {
        inside = omega arith;
        front = subst IsUtf8 (sym (take-append_seam front rest)) first;
        longest = longest;
      },
    )

-- ---- the byte order mark

lone : IsUtf8 (0xEF ∷ []) → ⊥
unfolding is_utf8 chars
lone text = true≢false (sym (is_utf8-from_IsUtf8 (0xEF ∷ []) text))

pair : (b : ℕ) → IsUtf8 (0xEF ∷ b ∷ []) → ⊥
unfolding is_utf8 chars
pair b text = true≢false (sym (is_utf8-from_IsUtf8 (0xEF ∷ b ∷ []) text))

-- whole characters tell whether they begin with one
pub mark_is_told : (text more : List ℕ) → IsUtf8 text → 0 < length text → first_offset (text ++ more) ≡ first_offset text
mark_is_told [] more text some = absurd (omega arith)
mark_is_told (a ∷ []) more text some = other (nat_eq 0xEF a) refl
  where
    other : (same : Bool) → nat_eq 0xEF a ≡ same → first_offset (a ∷ more) ≡ first_offset (a ∷ [])
    other true e = absurd (lone (subst (λ (x : ℕ). IsUtf8 (x ∷ [])) (sym (eqb-true 0xEF a e)) text))
    other false e = rw e refl
mark_is_told (a ∷ b ∷ []) more text some = other (nat_eq 0xEF a) refl
  where
    other : (same : Bool) → nat_eq 0xEF a ≡ same → first_offset (a ∷ b ∷ more) ≡ first_offset (a ∷ b ∷ [])
    other true e = absurd (pair b (subst (λ (x : ℕ). IsUtf8 (x ∷ b ∷ [])) (sym (eqb-true 0xEF a e)) text))
    other false e = rw e refl
mark_is_told (a ∷ b ∷ c ∷ rest) more text some = refl
