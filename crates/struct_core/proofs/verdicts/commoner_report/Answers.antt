-- The verdict by the list of the siphons, or the limit that is passed.
use Rattle.struct_core.proofs.Judging.{verdict_told, verdict_refused, on_net}
use Rattle.struct_core.proofs.verdicts.commoner_report.Goals as goal

pub returns-in_err-siphons-clause-refused : goal.returns-in_err-siphons-clause-refused
returns-in_err-siphons-clause-refused c = verdict_refused _ _ _ c.from_residual.result _ c.from_residual.ensures.1 c.in_err-siphons.ensures.refused

pub commoner_text-requires : goal.commoner_text-requires
commoner_text-requires c = on_net _ _ _ c.in_ok-siphons.ensures.list c.in_ok-verdict.ensures.first

pub returns-clause-text : goal.returns-clause-text
returns-clause-text c =
    verdict_told _ _ _ _ _ _ c.in_ok-siphons.ensures.few c.in_ok-siphons.ensures.list c.in_ok-verdict.ensures.exact c.in_ok-verdict.ensures.first c.in_ok-commoner_text.ensures
