-- The nets are counted from 1 here, and from 0 there.
use Rattle.std.proofs.Common.{◌≡◌, ◌+◌, ◌-◌, subst, refl, suc, arith}
use Rattle.page_flatten.specs.Flat.{Flat}
use Rattle.struct_core.proofs.answer.chosen_net.Goals as goal

pub returns-in-Ok-clause-flat : goal.returns-in-Ok-clause-flat
returns-in-Ok-clause-flat c =
    let same : c.args.k - 1 + 1 ≡ c.args.k = omega (arith, c.requires.number) in
    (c.in-Ok.ensures.ok.0, subst (λ n. Flat c.args.document.now n c.in-Ok.net) same c.in-Ok.ensures.ok.1)

pub returns-in-Err-clause-refused : goal.returns-in-Err-clause-refused
returns-in-Err-clause-refused c =
    let same : c.args.k ≡ suc (c.args.k - 1) = omega (arith, c.requires.number) in
    (c.in-Err.fault, refl, c.args.k - 1, same, c.in-Err.ensures.fault)
