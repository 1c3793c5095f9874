-- The bytes of a split, put together from its parts; and the tail of bytes from a place on.
use Rattle.std.proofs.Common.{◌≡◌, sym, ap, ◌∙◌, ℕ, zero, suc, ◌-◌, ◌≤◌, List, [], ◌∷◌, ◌++◌, length, get_or, take, drop, decimal, append_assoc, arith}
use Rattle.std.specs.Prelude.{codes}
use Rattle.certificates.specs.declared.certificate.TreeLine.TheVariants.{Split}
use Rattle.certificates.specs.Spelling.{tree_line}
use Rattle.certificates.proofs.Cuts.{take_whole}

pub tail_whole : (n : ℕ) (xs : List ℕ) → n ≤ length xs → take (length xs - n) (drop n xs) ≡ drop n xs
tail_whole zero xs within = let all : length xs - 0 ≡ length xs = omega arith in ap (λ k. take k xs) all ∙ take_whole xs
tail_whole (suc n) [] within = absurd (omega (arith, within))
tail_whole (suc n) (x ∷ xs) within =
    let less : length (x ∷ xs) - suc n ≡ length xs - n = omega arith in
    ap (λ k. take k (drop n xs)) less ∙ tail_whole n xs (omega (arith, within))

-- bytes whose first one is known
pub first_known : (byte : ℕ) (bytes : List ℕ) → 1 ≤ length bytes → get_or bytes 0 0 ≡ byte → bytes ≡ byte ∷ take (length bytes - 1) (drop 1 bytes)
first_known byte [] some is = absurd (omega (arith, some))
first_known byte (first ∷ bytes) some is = ap (λ b. b ∷ bytes) is ∙ ap (λ (xs : List ℕ). byte ∷ xs) (sym (tail_whole 1 (first ∷ bytes) some))

pub split_text : (p : ℕ) (bytes rest after : List ℕ) → bytes ≡ decimal p ++ rest → rest ≡ 10 ∷ after → codes "split " ++ bytes ≡ tree_line (Split p) ++ after
unfolding tree_line
split_text p bytes rest after number ends =
    ap (λ (xs : List ℕ). codes "split " ++ xs) (number ∙ ap (λ (xs : List ℕ). decimal p ++ xs) ends ∙ sym (append_assoc (decimal p) (10 ∷ []) after))
