-- What was read to the end spells the document, or is cut.
use Rattle.std.proofs.Common.{ℕ, sym, subst, ◌∙◌}
use Rattle.pnml_grammar.proofs.FaultLaws.{whole_is_spelled, whole_is_truncated}
use Rattle.pnml_grammar.specs.FirstFault.{FirstFault, truncated}
use Rattle.pnml_decode.specs.Views.{view}
use Rattle.pnml_decode.proofs.Arrivals.{end_is_read, not_broke_reads}
use Rattle.pnml_decode.proofs.progress.Progress.finish_reader.Goals as goal

pub returns-in-Some : goal.returns-in-Some
returns-in-Some c = record {
  found = λ bytes past read.
      whole_is_spelled bytes (view c.args.self.reader) c.in-Some.document
      (end_is_read c.args.self.stage (view c.args.self.reader) bytes (not_broke_reads c.args.self.stage past c.in_default.not-Broke) read) (sym c.finish.ensures ∙ c.in-Some.is);
  fault = tt;
}

pub returns : goal.returns
returns c = record {
  found = tt;
  fault = λ bytes past text count read.
      subst (λ (n : ℕ). FirstFault bytes (truncated n)) (sym count)
      (whole_is_truncated bytes (view c.args.self.reader) text
      (end_is_read c.args.self.stage (view c.args.self.reader) bytes (not_broke_reads c.args.self.stage past c.in_default.not-Broke) read) (sym c.finish.ensures ∙ c.in-None.is));
}
