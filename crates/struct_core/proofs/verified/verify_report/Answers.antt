-- The text of an accepted certificate, or the line that is bad or false.
use Rattle.net_values.specs.FlatNets.{net_of}
use Rattle.struct_core.proofs.Certifying.{malformed_told, rejected_told, accepted_told}
use Rattle.struct_core.proofs.verified.verify_report.Goals as goal

pub returns-in-Err-BadLine-clause-refused : goal.returns-in-Err-BadLine-clause-refused
returns-in-Err-BadLine-clause-refused c =
    rw c.in-Err-BadLine.field-0-is (malformed_told (net_of c.args.net.now) _ _ c.in-Err-BadLine.field-0 c.in-Err-BadLine.field-0-is c.in-Err-BadLine.ensures.bad)

pub returns-in-Ok-check-clause-text : goal.returns-in-Ok-check-clause-text
returns-in-Ok-check-clause-text c =
    accepted_told _ _ _ _ c.in-Ok.ensures.spelled c.in-Ok-check.ensures.accepted c.in_ok-verified_text-in-Ok-check.ensures

pub returns-clause-refused : goal.returns-clause-refused
returns-clause-refused c = rejected_told _ _ _ _ c.in-Ok.ensures.spelled c.in-Err.ensures.rejected
