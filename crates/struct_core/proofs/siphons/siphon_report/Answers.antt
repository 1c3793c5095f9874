-- The text of the list, or the limit that is passed.
use Rattle.struct_core.proofs.Listing.{siphons_told, siphons_refused}
use Rattle.struct_core.proofs.siphons.siphon_report.Goals as goal

pub returns-in_err-sets-clause-refused : goal.returns-in_err-sets-clause-refused
returns-in_err-sets-clause-refused c = siphons_refused _ _ _ _ c.from_residual.result _ c.from_residual.ensures.1 c.in_err-sets.ensures.refused

pub returns-clause-text : goal.returns-clause-text
returns-clause-text c =
    siphons_told _ _ _ _ _ _ c.in_ok-sets.ensures.few c.in_ok-sets.ensures.list c.in_ok-siphons_text.ensures
