-- Text cut at a separator: what is cut can be joined again, and what is joined of pieces without the separator is
-- cut into them.
use Rattle.std.proofs.Common.{◌≡◌, ◌≢◌, ◌⊎◌, refl, sym, ap, ◌∙◌, ℕ, zero, suc, ◌<◌, ◌≤◌, ◌==◌, if◌then◌else◌, Bool, true, false, List, [], ◌∷◌, ◌++◌, length, take, drop, get_or, append-nil, inl, inr, arith}
use Rattle.std.specs.List.{flat_map, AllByRecursion}
use Rattle.std.specs.Prelude.{Option, Some, None, unwrap_or, ◌-◌, ◌+◌}
use Rattle.std.proofs.lemmas.Bool.Decides.{nat_tests}
use Rattle.memchr.specs.Find.{IsFirstByte, is_byte}
use Rattle.certificates.specs.Words.{before, from_first, cut, words_in}

-- no byte is the separator
abbrev pub IsFree : ℕ → List ℕ → Type 0
IsFree separator bytes = AllByRecursion (λ byte. byte ≢ separator) bytes

-- the pieces with the separator before each but the first
abbrev pub joined : ℕ → List ℕ → List (List ℕ) → List ℕ
joined separator word words = word ++ flat_map (λ piece. separator ∷ piece) words

pub same_test : (a b : ℕ) → (a == b) ≡ true → a ≡ b
same_test a b e = grind (arith, nat_tests)

pub other_test : (a b : ℕ) → a ≢ b → (a == b) ≡ false
other_test a b h = grind (arith, nat_tests)

pub true_test : (a : ℕ) → (a == a) ≡ true
true_test a = grind (arith, nat_tests)

-- the pieces with one more byte in front
abbrev with_byte : Bool → ℕ → List ℕ × List (List ℕ) → List ℕ × List (List ℕ)
with_byte test byte pieces = if test then ([], pieces.0 ∷ pieces.1) else (byte ∷ pieces.0, pieces.1)

pub cut_joins : (separator : ℕ) (bytes : List ℕ) → bytes ≡ joined separator (cut separator bytes).0 (cut separator bytes).1
cut_joins separator [] = refl
cut_joins separator (byte ∷ bytes) = go (byte == separator) refl (cut_joins separator bytes) where
  go : (test : Bool) → (byte == separator) ≡ test → bytes ≡ joined separator (cut separator bytes).0 (cut separator bytes).1 →
      byte ∷ bytes ≡ joined separator (with_byte test byte (cut separator bytes)).0 (with_byte test byte (cut separator bytes)).1
  go true e h = ap (λ b. b ∷ bytes) (same_test byte separator e) ∙ ap (λ xs. separator ∷ xs) h
  go false e h = ap (λ xs. byte ∷ xs) h

cut_front : (separator : ℕ) (word rest : List ℕ) → IsFree separator word → cut separator (word ++ rest) ≡ (word ++ (cut separator rest).0, (cut separator rest).1)
cut_front separator [] rest free = refl
cut_front separator (byte ∷ word) rest free = rw (other_test byte separator free.0) (ap (λ x. (byte ∷ x.0, x.1)) (cut_front separator word rest free.1))

cut_pieces : (separator : ℕ) (words : List (List ℕ)) → AllByRecursion (IsFree separator) words → cut separator (flat_map (λ piece. separator ∷ piece) words) ≡ ([], words)
cut_pieces separator [] free = refl
cut_pieces separator (word ∷ words) free =
    let rest = flat_map (λ (piece : List ℕ). separator ∷ piece) words in
    let front : cut separator (word ++ rest) ≡ (word ++ (cut separator rest).0, (cut separator rest).1) = cut_front separator word rest free.0 in
    let whole : cut separator (word ++ rest) ≡ (word, words) = front ∙ ap (λ (x : List ℕ × List (List ℕ)). (word ++ x.0, x.1)) (cut_pieces separator words free.1) ∙ ap (λ (xs : List ℕ). (xs, words)) (append-nil word) in
    rw (true_test separator) (ap (λ (x : List ℕ × List (List ℕ)). ([], x.0 ∷ x.1)) whole)

pub cut_again : (separator : ℕ) (word : List ℕ) (words : List (List ℕ)) → IsFree separator word → AllByRecursion (IsFree separator) words → cut separator (joined separator word words) ≡ (word, words)
cut_again separator word words free each =
    let rest = flat_map (λ (piece : List ℕ). separator ∷ piece) words in
    cut_front separator word rest free ∙ ap (λ (x : List ℕ × List (List ℕ)). (word ++ x.0, x.1)) (cut_pieces separator words each) ∙ ap (λ (xs : List ℕ). (xs, words)) (append-nil word)

-- ---- at the first separator

pub cut_first : (separator : ℕ) (bytes : List ℕ) → (cut separator bytes).0 ≡ before separator bytes
cut_first separator [] = refl
cut_first separator (byte ∷ bytes) = go (byte == separator) (cut_first separator bytes) where
  go : (test : Bool) → (cut separator bytes).0 ≡ before separator bytes →
      (with_byte test byte (cut separator bytes)).0 ≡ (if test then [] else byte ∷ before separator bytes)
  go true h = refl
  go false h = ap (λ xs. byte ∷ xs) h

pub cut_others : (bytes : List ℕ) → (cut 32 bytes).1 ≡ words_in (from_first 32 bytes)
cut_others [] = refl
cut_others (byte ∷ bytes) = go (byte == 32) (cut_others bytes) where
  go : (test : Bool) → (cut 32 bytes).1 ≡ words_in (from_first 32 bytes) →
      (with_byte test byte (cut 32 bytes)).1 ≡ words_in (if test then byte ∷ bytes else from_first 32 bytes)
  go true h = refl
  go false h = h

pub first_parts : (separator : ℕ) (bytes : List ℕ) → bytes ≡ before separator bytes ++ from_first separator bytes
first_parts separator [] = refl
first_parts separator (byte ∷ bytes) = go (byte == separator) (first_parts separator bytes) where
  go : (test : Bool) → bytes ≡ before separator bytes ++ from_first separator bytes →
      byte ∷ bytes ≡ (if test then [] else byte ∷ before separator bytes) ++ (if test then byte ∷ bytes else from_first separator bytes)
  go true h = refl
  go false h = ap (λ xs. byte ∷ xs) h

-- what begins at the first separator begins with it, or is empty
pub first_begins : (separator : ℕ) (bytes : List ℕ) → (from_first separator bytes ≡ []) ⊎ ((rest : List ℕ) × (from_first separator bytes ≡ separator ∷ rest))
first_begins separator [] = inl refl
first_begins separator (byte ∷ bytes) = go (byte == separator) refl (first_begins separator bytes) where
  go : (test : Bool) → (byte == separator) ≡ test → (from_first separator bytes ≡ []) ⊎ ((rest : List ℕ) × (from_first separator bytes ≡ separator ∷ rest)) →
      ((if test then byte ∷ bytes else from_first separator bytes) ≡ []) ⊎ ((rest : List ℕ) × ((if test then byte ∷ bytes else from_first separator bytes) ≡ separator ∷ rest))
  go true e h = inr (bytes, ap (λ b. b ∷ bytes) (same_test byte separator e))
  go false e h = h

pub before_free : (separator : ℕ) (bytes : List ℕ) → IsFree separator (before separator bytes)
before_free separator [] = tt
before_free separator (byte ∷ bytes) = go (byte == separator) refl (before_free separator bytes) where
  go : (test : Bool) → (byte == separator) ≡ test → IsFree separator (before separator bytes) → IsFree separator (if test then [] else byte ∷ before separator bytes)
  go true e h = tt
  go false e h = (grind (arith, nat_tests, e), h)

pub first_again : (separator : ℕ) (word rest : List ℕ) → IsFree separator word → (before separator (word ++ separator ∷ rest) ≡ word) × (from_first separator (word ++ separator ∷ rest) ≡ separator ∷ rest)
first_again separator [] rest free = (rw (true_test separator) refl, rw (true_test separator) refl)
first_again separator (byte ∷ word) rest free =
    let h = first_again separator word rest free.1 in
    (rw (other_test byte separator free.0) (ap (λ (xs : List ℕ). byte ∷ xs) h.0), rw (other_test byte separator free.0) h.1)

-- bytes are cut at the place that has the separator where none before it has, or at their end
pub cut_at : (separator : ℕ) (bytes : List ℕ) (at : ℕ) → at ≤ length bytes → ((k : ℕ) → k < at → get_or bytes k 0 ≢ separator) → (at < length bytes → get_or bytes at 0 ≡ separator) →
    (take at bytes ≡ before separator bytes) × (drop at bytes ≡ from_first separator bytes)
cut_at separator [] zero within none here = (refl, refl)
cut_at separator [] (suc at) within none here = absurd (omega (arith, within))
cut_at separator (byte ∷ bytes) zero within none here = let same : byte ≡ separator = here (omega arith) in let test : (byte == separator) ≡ true = grind (arith, nat_tests, same) in (rw test refl, rw test refl)
cut_at separator (byte ∷ bytes) (suc at) within none here =
    let other : (byte == separator) ≡ false = other_test byte separator (none 0 (omega arith)) in
    let rest = cut_at separator bytes at (omega (arith, within)) (λ k below. none (suc k) (omega (arith, below))) (λ inside. here (omega (arith, inside))) in
    (rw other (ap (λ (xs : List ℕ). byte ∷ xs) rest.0), rw other rest.1)

pub cut_found : (separator : ℕ) (bytes : List ℕ) (r : Option ℕ) → IsFirstByte (is_byte separator) bytes r →
    (take (unwrap_or r (length bytes)) bytes ≡ before separator bytes) × (drop (unwrap_or r (length bytes)) bytes ≡ from_first separator bytes)
cut_found separator bytes (Some k) found =
    cut_at separator bytes k (omega (arith, found.0.high))
    (λ j below same. found.0.before j (omega arith) below (grind (arith, nat_tests, same)))
    (λ inside. same_test (get_or bytes k 0) separator found.1)
cut_found separator bytes None none =
    cut_at separator bytes (length bytes) (omega arith)
    (λ j below same. none j (omega arith) below (grind (arith, nat_tests, same)))
    (λ inside. absurd (omega (arith, inside)))

-- ---- what follows a first byte

pub take_whole : (bytes : List ℕ) → take (length bytes) bytes ≡ bytes
take_whole [] = refl
take_whole (byte ∷ bytes) = ap (λ (xs : List ℕ). byte ∷ xs) (take_whole bytes)

pub next_words : (bytes first rest : List ℕ) → 1 ≤ length bytes → first ≡ before 32 (take (length bytes - 1) (drop 1 bytes)) → rest ≡ from_first 32 (take (length bytes - 1) (drop 1 bytes)) → words_in bytes ≡ first ∷ words_in rest
next_words [] first rest some is more = absurd (omega (arith, some))
next_words (byte ∷ bytes) first rest some is more =
    let size : length (byte ∷ bytes) - 1 ≡ length bytes = omega arith in
    let whole : take (length (byte ∷ bytes) - 1) bytes ≡ bytes = ap (λ (n : ℕ). take n bytes) size ∙ take_whole bytes in
    let first_is : (cut 32 bytes).0 ≡ first = cut_first 32 bytes ∙ ap (before 32) (sym whole) ∙ sym is in
    let rest_is : (cut 32 bytes).1 ≡ words_in rest = cut_others bytes ∙ ap (λ (xs : List ℕ). words_in (from_first 32 xs)) (sym whole) ∙ ap words_in (sym more) in
    ap (λ (word : List ℕ). word ∷ (cut 32 bytes).1) first_is ∙ ap (λ (words : List (List ℕ)). first ∷ words) rest_is

line_rest : (part rest : List ℕ) → part ≡ 10 ∷ rest → (part ≡ 10 ∷ take (length part - 1) (drop 1 part)) × (length (take (length part - 1) (drop 1 part)) + 1 ≡ length part)
line_rest [] rest is = absurd (cc)
line_rest (byte ∷ bytes) rest is =
    let size : length (byte ∷ bytes) - 1 ≡ length bytes = omega arith in
    let whole : take (length (byte ∷ bytes) - 1) bytes ≡ bytes = ap (λ (n : ℕ). take n bytes) size ∙ take_whole bytes in
    let same : byte ≡ 10 = cc in
    (ap (λ (b : ℕ). b ∷ bytes) same ∙ ap (λ (xs : List ℕ). 10 ∷ xs) (sym whole), rw whole (omega arith))

pub line_behind : (bytes part : List ℕ) → part ≡ from_first 10 bytes → 1 ≤ length part →
    (from_first 10 bytes ≡ 10 ∷ take (length part - 1) (drop 1 part)) × (length (take (length part - 1) (drop 1 part)) + 1 ≡ length part)
line_behind bytes part is some =
    elim (first_begins 10 bytes) [
      | inl none ↦ let nothing : length part ≡ 0 = ap length (is ∙ none) in absurd (omega (arith, some, nothing))
      | inr begins ↦ let h = line_rest part begins.0 (is ∙ begins.1) in (sym is ∙ h.0, h.1)
    ]
