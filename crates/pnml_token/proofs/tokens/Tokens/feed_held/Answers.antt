-- what is said of the bytes held is said of the state
use Rattle.std.proofs.Common.{List, ℕ, ◌++◌, subst}
use Rattle.std.specs.Prelude.{IfNone}
use Rattle.pnml_token.specs.Steps.{IfBadToken}
use Rattle.pnml_token.specs.Streams.{IsUnsettled, IsHopeless}
use Rattle.pnml_token.proofs.StateLaws.{live_held, bad_at}
use Rattle.pnml_token.proofs.tokens.Tokens.feed_held.Goals as goal

pub returns-after-is_some-clause-unsettled : goal.returns-after-is_some-clause-unsettled
returns-after-is_some-clause-unsettled c =
    subst (λ (t : List ℕ). IfNone c.in-Ok.given.token (IsUnsettled (t ++ c.args.piece.now)))
    (live_held c.self.inside.refusal c.self.inside.offset c.self.inside.held c.args.self.now c.self.view_is c.requires.live)
    c.in-Ok.ensures.unsettled

pub returns-in-Err-clause-none : goal.returns-in-Err-clause-none
returns-in-Err-clause-none c =
    let none = bad_at c.self.inside.offset c.in-Err.miss (IsHopeless (c.self.inside.held ++ c.args.piece.now)) c.in-Err.ensures.none in
    subst (λ (t : List ℕ). IfBadToken c.refuse.result (λ at. IsHopeless (t ++ c.args.piece.now)))
    (live_held c.self.inside.refusal c.self.inside.offset c.self.inside.held c.args.self.now c.self.view_is c.requires.live)
    (rw (c.refuse.ensures.fault, c.fault_at.ensures) none)
