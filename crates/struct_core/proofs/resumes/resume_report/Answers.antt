-- The text of a run, or the line that keeps the token from being read.
use Rattle.net_values.specs.FlatNets.{net_of}
use Rattle.net_values.specs.Nodes.{place_id}
use Rattle.struct_core.proofs.Resumptions.{malformed_told, rejected_told, resumed_told}
use Rattle.struct_core.proofs.resumes.resume_report.Goals as goal

pub returns-in-Err-BadLine-clause-refused : goal.returns-in-Err-BadLine-clause-refused
returns-in-Err-BadLine-clause-refused c =
    rw c.in-Err-BadLine.field-0-is (malformed_told c.args.document.now (net_of c.args.net.now) (place_id c.args.net.now) c.args.leaves c.args.bytes.now _ c.in-Err-BadLine.field-0 c.in-Err-BadLine.field-0-is c.in-Err-BadLine.ensures.bad)

pub returns-in-Err-Rejected-clause-refused : goal.returns-in-Err-Rejected-clause-refused
returns-in-Err-Rejected-clause-refused c =
    rw c.in-Err-Rejected.field-0-is (rejected_told c.args.document.now (net_of c.args.net.now) (place_id c.args.net.now) c.args.leaves c.args.bytes.now _ c.in-Err-Rejected.field-0 c.in-Err-Rejected.field-0-is c.in-Err-Rejected.ensures.rejected)

pub returns-clause-text : goal.returns-clause-text
returns-clause-text c =
    let run = c.in_ok-resumed.ensures in
    resumed_told c.args.document.now (net_of c.args.net.now) (place_id c.args.net.now) c.args.leaves c.args.bytes.now c.in-Ok.classes c.in_ok-resumed.resumed c.in_ok-resume_text.field-0 c.in-Ok.ensures.read
    record { is_run = run.run; ascending = run.ascending; left = run.pending; counted = run.leaves } c.in_ok-resume_text.ensures
