-- the bytes held have no end
use Rattle.std.proofs.Common.{List, ℕ, sym, ap, subst, ◌∙◌}
use Rattle.pnml_token.specs.declared.scan.Scan.TheVariants.{Nothing}
use Rattle.pnml_token.specs.Scans.{scanned, has_ended, first_token}
use Rattle.pnml_grammar.specs.declared.token.Token.{Token}
use Rattle.pnml_token.specs.Gives.{Gives}
use Rattle.pnml_token.proofs.HeldLaws.{finish_token, finish_none}
use Rattle.pnml_token.proofs.held.HeldBytes.finish.Goals as goal

pub returns-clause-token : goal.returns-clause-token
returns-clause-token c =
    finish_token c.args.self.now c.take_token.result
    (ap (λ (t : List ℕ). has_ended (scanned Nothing t)) (sym c.self.view_is) ∙ ap has_ended (sym c.self.invariant.2.0) ∙ c.self.invariant.2.1)
    (subst (λ (t : List ℕ). Gives (λ (token : Token). token) c.take_token.result (first_token t)) c.self.view_is c.take_token.ensures.token)

pub returns-clause-none : goal.returns-clause-none
returns-clause-none c =
    finish_none c.args.self.now c.take_token.result
    (subst (λ (t : List ℕ). Gives (λ (token : Token). token) c.take_token.result (first_token t)) c.self.view_is c.take_token.ensures.token)
