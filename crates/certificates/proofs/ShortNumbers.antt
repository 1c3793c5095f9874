-- A decimal text with one digit more is that of ten times the number and the digit, where the number isn't 0.
use Rattle.std.proofs.Common.{◌≡◌, sym, ap, ◌∙◌, ℕ, ◌+◌, ◌*◌, ◌/◌, ◌%◌, ◌<◌, List, [], ◌∷◌, ◌++◌, ◌-◌, take, drop, get_or, length, decimal, arith}
use Rattle.std.proofs.lemmas.Grind.{get_or_after_one}
use Rattle.std.proofs.lemmas.List.{get_or-take}
use Rattle.std.proofs.lemmas.Fmt.{decimal_digit, decimal_step}

pub one_digit : (byte n : ℕ) → n < 10 → byte ≡ 48 + n → byte ∷ [] ≡ decimal n
one_digit byte n below is = ap (λ b. b ∷ []) is ∙ sym (decimal_digit n below)

pub digit_more : (text : List ℕ) (n byte d : ℕ) → 0 < n → n < 1000 → d < 10 → byte ≡ 48 + d → text ≡ decimal n → text ++ byte ∷ [] ≡ decimal (10 * n + d)
digit_more text n byte d some few below is before =
    let whole : (10 * n + d) / 10 ≡ n = omega arith in
    let left : (10 * n + d) % 10 ≡ d = omega arith in
    ap (λ front. front ++ byte ∷ []) before
    ∙ ap (λ b. decimal n ++ b ∷ []) is
    ∙ sym (decimal_step (10 * n + d) (omega arith) (omega arith) ∙ ap (λ k. decimal k ++ ((48 + (10 * n + d) % 10) ∷ [])) whole ∙ ap (λ k. decimal n ++ ((48 + k) ∷ [])) left)

-- a digit after the first one
pub rest_at : (text : List ℕ) (i : ℕ) → i + 1 < length text → get_or text (i + 1) 0 ≡ get_or (take (length text - 1) (drop 1 text)) i 0
rest_at text i below =
    let first : 1 + i ≡ i + 1 = omega arith in
    sym (get_or-take (length text - 1) (drop 1 text) i 0 (omega arith) ∙ get_or_after_one text i 0 ∙ ap (λ k. get_or text k 0) first)
