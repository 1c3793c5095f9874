-- A word spells one number at most.
use Rattle.std.proofs.Common.{◌≡◌, ℕ, ◌<◌, ◌^◌, List, sym, ◌∙◌, arith}
use Rattle.certificates.proofs.DecimalTexts.{decimal_one}
use Rattle.struct_core.specs.Words.{IsNumber}

pub one_number : (least most : ℕ) (word : List ℕ) (one other : ℕ) → most < 2 ^ 128 → IsNumber least most word one → IsNumber least most word other → one ≡ other
one_number least most word one other small is also =
    decimal_one one other (omega (arith, small, is.high)) (omega (arith, small, also.high)) (sym is.spelled ∙ also.spelled)
