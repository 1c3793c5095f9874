-- what is said of the bytes held is said of the state
use Rattle.std.proofs.Common.{List, ℕ, ◌++◌, sym, subst, ◌∙◌}
use Rattle.std.specs.Prelude.{IfErr}
use Rattle.pnml_token.specs.Steps.{IfBadToken}
use Rattle.pnml_token.specs.Streams.{Settles, IsHopeless}
use Rattle.pnml_token.proofs.StateLaws.{none_held, if_live}
use Rattle.pnml_token.proofs.tokens.Tokens.feed.Goals as goal

pub returns-in-Ok-clause-token : goal.returns-in-Ok-clause-token
returns-in-Ok-clause-token c =
    let none = none_held c.self.inside.refusal c.self.inside.offset c.self.inside.held c.args.self.now c.self.view_is (sym c.len.ensures.bytes ∙ c.if-len-eq0.true) in
    rw c.pass.ensures.token (subst (λ (t : List ℕ). Settles t c.args.piece.now c.in-Ok.taken c.in-Ok.token) (sym none) c.in-Ok.ensures.token)

pub returns-clause-none : goal.returns-clause-none
returns-clause-none c =
    if_live c.args.self.now (λ held. IfErr c.feed_held.result (λ fault. IfBadToken fault (λ at. IsHopeless (held ++ c.args.piece.now)))) c.feed_held.ensures.none
