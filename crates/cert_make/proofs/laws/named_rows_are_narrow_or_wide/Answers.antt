use Rattle.cert_make.proofs.WideChecks.{narrow_or_wide}
use Rattle.cert_make.proofs.laws.named_rows_are_narrow_or_wide.Goals as goal

pub returns : goal.returns
returns c = narrow_or_wide
