-- The text was read when all of it was taken.
use Rattle.std.proofs.Common.{◌≡◌, ℕ, ◌++◌, List, [], drop, subst, arith}
use Rattle.std.proofs.lemmas.List.{drop_all}
use Rattle.pnml_decode.specs.Standing.{FollowsBy}
use Rattle.pnml_decode.specs.Views.{view}
use Rattle.pnml_decode.proofs.Arrivals.{text_comes}
use Rattle.pnml_decode.proofs.progress.Progress.read.Goals as goal

pub returns-clause-follows : goal.returns-clause-follows
returns-clause-follows c = λ bytes follows.
    let old = c.args.self.now in
    let new = c.tokens.self in
    let text = c.args.text.now in
    let all : drop c.tokens.at text ≡ [] = drop_all c.tokens.at text (omega (arith, c.tokens-test.false)) in
    subst (λ (rest : List ℕ). FollowsBy new.stage (view new.reader) new.tokens new.skipped new.front.items (bytes ++ text) rest) all
    (c.tokens.invariant.follows (bytes ++ text) (text_comes old.stage (view old.reader) old.tokens old.skipped old.front.items bytes text follows))
