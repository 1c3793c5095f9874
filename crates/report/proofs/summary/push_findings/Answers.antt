use Rattle.report.specs.SummaryText.{findings_lines}
use Rattle.report.proofs.Pieces.{three_more}
use Rattle.report.proofs.summary.push_findings.Goals as goal

pub returns : goal.returns
unfolding findings_lines
returns c = three_more _ _ _ _ _ _ _ c.push_count-3.result c.in_ok-push_count.ensures c.in_ok-push_count-2.ensures c.push_count-3.ensures
