use Rattle.std.proofs.Common.{◌∙◌}
use Rattle.pnmlstruct_c.specs.Memory.{ran}
use Rattle.pnmlstruct_c.proofs.pnmlstruct_run.Goals as goal

pub returns-in-Ok-clause-answers : goal.returns-in-Ok-clause-answers
returns-in-Ok-clause-answers c =
    let r = c.in-Ok.ensures.ran in
    let text = c.fill-written.ensures.front ∙ c.as_slice.ensures.value in
    let line = c.fill-written-in-Ok.ensures.front ∙ c.as_slice-in-Ok.ensures.value in
    rw text (rw line (ran r.0 r.1 (rw c.fill-written.auto.buffer (rw c.fill-written-in-Ok.auto.buffer r.2))))
