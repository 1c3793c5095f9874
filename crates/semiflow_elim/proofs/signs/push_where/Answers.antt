use Rattle.std.proofs.Common.{◌≡◌, ◌++◌, ◌∷◌, ◌∙◌, ◌+◌, sym, subst, ℕ, List, [], true, rules}
use Rattle.semiflow_elim.specs.Numbers.{AreNumbers}
use Rattle.semiflow_elim.proofs.Numbering.{numbers_push, numbers_skip}
use Rattle.semiflow_elim.proofs.signs.push_where.Goals as goal

pub returns-in_ok-push : goal.returns-in_ok-push
returns-in_ok-push c = λ test same h.
    let pushed : c.push.new.self.items ≡ c.args.numbers.now.items ++ c.args.number ∷ [] = search rules in
    subst (AreNumbers test (c.args.number + 1)) (sym pushed) (numbers_push test c.args.number c.args.numbers.now.items h (same ∙ c.if-holds.true))

pub returns-else-holds : goal.returns-else-holds
returns-else-holds c = λ test same h. numbers_skip test c.args.number c.args.numbers.now.items h (same ∙ c.if-holds.false)
