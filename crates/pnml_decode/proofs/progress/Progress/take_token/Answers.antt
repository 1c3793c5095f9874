use Rattle.std.proofs.Common.{ℕ, List, sym, ◌∙◌}
use Rattle.pnml_grammar.specs.Tokens.{TokenAt}
use Rattle.pnml_decode.specs.Standing.{HasRead}
use Rattle.pnml_decode.specs.Views.{view}
use Rattle.pnml_decode.proofs.Arrivals.{declared_is_read, on_ok, other_is_later}
use Rattle.pnml_decode.proofs.progress.Progress.take_token.Goals as goal

pub returns-then-is_declared-clause-reads : goal.returns-then-is_declared-clause-reads
returns-then-is_declared-clause-reads c = λ input e read occurs.
    declared_is_read c.args.self.now.stage (view c.args.self.now.reader) c.args.token input c.args.offset e (sym c.is_declared.ensures ∙ c.if-is_declared.true) read occurs

pub returns-clause-reads : goal.returns-clause-reads
returns-clause-reads c =
    let later = λ (input : List ℕ) (e : ℕ) (read : HasRead c.args.self.now.stage (view c.args.self.now.reader) input c.args.offset) (occurs : TokenAt input c.args.offset c.args.token e).
    other_is_later c.args.self.now.stage (view c.args.self.now.reader) c.args.token input c.args.offset e c.requires.reading (sym c.is_declared.ensures ∙ c.if-is_declared.false) read occurs in
    on_ok c.take_later.result _ _ (λ reads input e read occurs. reads input e (later input e read occurs) occurs) c.take_later.ensures.reads
