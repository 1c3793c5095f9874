-- The lines of bytes are one list: each line ends at the first line feed from where it begins.
use Rattle.std.proofs.Common.{◌≡◌, ◌≢◌, refl, sym, ap, ◌∙◌, subst, ℕ, ◌==◌, Bool, true, false, List, [], ◌∷◌, ◌++◌, append_assoc, arith}
use Rattle.std.specs.List.{flat_map, AllByRecursion}
use Rattle.std.proofs.lemmas.Bool.Decides.{nat_tests}
use Rattle.certificates.specs.Words.{before, from_first}
use Rattle.certificates.specs.BadLines.{IsLine, AreLinesOf}
use Rattle.certificates.proofs.Cuts.{IsFree, first_again, other_test, same_test}
use Rattle.certificates.proofs.Lists.{all_each, each_all}

-- the bytes of lines
abbrev pub bytes_of : List (List ℕ) → List ℕ
bytes_of lines = flat_map (λ line. line) lines

abbrev pub NoFeed : ℕ → Type 0
NoFeed byte = byte ≢ 10

none_first : (rest : List ℕ) → IsFree 10 rest → from_first 10 rest ≡ []
none_first [] free = refl
none_first (byte ∷ rest) free = rw (other_test byte 10 free.0) (none_first rest free.1)

-- a line and what follows it, from the bytes
pub cut_line : (line rest : List ℕ) (is : IsLine line) → (from_first 10 (line ++ rest) ≡ 10 ∷ rest) × (line ≡ before 10 (line ++ rest) ++ 10 ∷ [])
cut_line line rest (front, free, is) =
    let whole : line ++ rest ≡ front ++ 10 ∷ rest = ap (λ (xs : List ℕ). xs ++ rest) is ∙ append_assoc front (10 ∷ []) rest in
    let cuts = first_again 10 front rest (all_each NoFeed front free) in
    (ap (from_first 10) whole ∙ cuts.1, is ∙ ap (λ (xs : List ℕ). xs ++ 10 ∷ []) (sym cuts.0 ∙ sym (ap (before 10) whole)))

pub same_lines : (lines others : List (List ℕ)) (rest end : List ℕ) → AllByRecursion IsLine lines → AllByRecursion IsLine others → IsFree 10 rest → IsFree 10 end →
    bytes_of lines ++ rest ≡ bytes_of others ++ end → (lines ≡ others) × (rest ≡ end)
same_lines [] [] rest end each all free ends same = (refl, same)
same_lines [] (other ∷ others) rest end each all free ends same =
    let more = bytes_of others ++ end in
    let cuts = cut_line other more all.0 in
    let none : [] ≡ 10 ∷ more = sym (none_first rest free) ∙ ap (from_first 10) (same ∙ append_assoc other (bytes_of others) end) ∙ cuts.0 in
    absurd (cc)
same_lines (line ∷ lines) [] rest end each all free ends same =
    let more = bytes_of lines ++ rest in
    let cuts = cut_line line more each.0 in
    let none : [] ≡ 10 ∷ more = sym (none_first end ends) ∙ ap (from_first 10) (sym same ∙ append_assoc line (bytes_of lines) rest) ∙ cuts.0 in
    absurd (cc)
same_lines (line ∷ lines) (other ∷ others) rest end each all free ends same =
    let one = cut_line line (bytes_of lines ++ rest) each.0 in
    let two = cut_line other (bytes_of others ++ end) all.0 in
    let whole : line ++ (bytes_of lines ++ rest) ≡ other ++ (bytes_of others ++ end) = sym (append_assoc line (bytes_of lines) rest) ∙ same ∙ append_assoc other (bytes_of others) end in
    let heads : line ≡ other = one.1 ∙ ap (λ (xs : List ℕ). before 10 xs ++ 10 ∷ []) whole ∙ sym two.1 in
    let tails : 10 ∷ (bytes_of lines ++ rest) ≡ 10 ∷ (bytes_of others ++ end) = sym one.0 ∙ ap (from_first 10) whole ∙ two.0 in
    let following : bytes_of lines ++ rest ≡ bytes_of others ++ end = cc in
    let h = same_lines lines others rest end each.1 all.1 free ends following in
    ((λ i. heads i ∷ h.0 i), h.1)

-- ---- bytes have lines

-- the lines and the rest of bytes
pub record HasLines (bytes : List ℕ) : Type 0 where
  pub lines : List (List ℕ)
  pub rest : List ℕ
  pub each : AllByRecursion IsLine lines
  pub free : IsFree 10 rest
  pub joined : bytes ≡ bytes_of lines ++ rest

pub lines_of_has : (bytes : List ℕ) (h : HasLines bytes) → AreLinesOf bytes h.lines h.rest
lines_of_has bytes h = record { each = each_all IsLine h.lines h.each; unended = each_all NoFeed h.rest h.free; joined = h.joined }

with_feed : (bytes : List ℕ) → HasLines bytes → HasLines (10 ∷ bytes)
with_feed bytes h = record {
  lines = (10 ∷ []) ∷ h.lines;
  rest = h.rest;
  each = (([], each_all NoFeed [] tt, refl), h.each);
  free = h.free;
  joined = ap (λ (xs : List ℕ). 10 ∷ xs) h.joined;
}

with_other : (byte : ℕ) (bytes : List ℕ) → byte ≢ 10 → (lines : List (List ℕ)) (rest : List ℕ) → AllByRecursion IsLine lines → IsFree 10 rest → bytes ≡ bytes_of lines ++ rest → HasLines (byte ∷ bytes)
with_other byte bytes other [] rest each free joined = record { lines = []; rest = byte ∷ rest; each = tt; free = (other, free); joined = ap (λ (xs : List ℕ). byte ∷ xs) joined }
with_other byte bytes other (line ∷ lines) rest each free joined = record {
  lines = (byte ∷ line) ∷ lines;
  rest = rest;
  each = ((byte ∷ each.0.0, each_all NoFeed (byte ∷ each.0.0) (other, all_each NoFeed each.0.0 each.0.1), ap (λ (xs : List ℕ). byte ∷ xs) each.0.2), each.1);
  free = free;
  joined = ap (λ (xs : List ℕ). byte ∷ xs) joined;
}

unlike : (byte : ℕ) → (byte == 10) ≡ false → byte ≢ 10
unlike byte is same = let test : (byte == 10) ≡ true = grind (arith, nat_tests, same) in absurd (cc)

pub has_lines : (bytes : List ℕ) → HasLines bytes
has_lines [] = record { lines = []; rest = []; each = tt; free = tt; joined = refl }
has_lines (byte ∷ bytes) = go (byte == 10) refl (has_lines bytes) where
  go : (test : Bool) → (byte == 10) ≡ test → HasLines bytes → HasLines (byte ∷ bytes)
  go true is h = let same : 10 ≡ byte = sym (same_test byte 10 is) in subst (λ (b : ℕ). HasLines (b ∷ bytes)) same (with_feed bytes h)
  go false is h = with_other byte bytes (unlike byte is) h.lines h.rest h.each h.free h.joined
