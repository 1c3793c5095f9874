use Rattle.std.proofs.Common.{ℕ, ◌*◌, ◌^◌, ◌<◌, ◌≤◌, arith}
use Rattle.std.proofs.Math.Nat.{mul-le-mul_right}
use Rattle.semiflow_elim.proofs.row_arithmetic.small_product.Goals as goal

product_bound : (x r : ℕ) → x < 2 ^ 63 → r < 2 ^ 63 → x * r < 2 ^ 126
product_bound x r first second =
    let most : x * r ≤ 2 ^ 63 * r = mul-le-mul_right r (omega arith) in
    omega arith

pub overflow_mul-result : goal.overflow_mul-result
overflow_mul-result c = let bound = product_bound c.args.x c.args.r c.requires.first c.requires.second in omega arith

pub returns-clause-bound : goal.returns-clause-bound
returns-clause-bound c = product_bound c.args.x c.args.r c.requires.first c.requires.second
