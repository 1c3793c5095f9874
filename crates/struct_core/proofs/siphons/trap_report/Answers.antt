-- The siphons of the net with every arc turned round.
use Rattle.struct_core.proofs.Listing.{traps_told, traps_refused}
use Rattle.struct_core.proofs.siphons.trap_report.Goals as goal

pub returns-in_err-sets-clause-refused : goal.returns-in_err-sets-clause-refused
returns-in_err-sets-clause-refused c =
    traps_refused _ _ _ _ _ c.from_residual-in_err-sets.result _ c.in_ok-turned.ensures.net c.from_residual-in_err-sets.ensures.1 c.in_err-sets.ensures.refused

pub returns-clause-text : goal.returns-clause-text
returns-clause-text c =
    traps_told _ _ _ _ _ _ _ c.in_ok-turned.ensures.net c.in_ok-sets.ensures.few c.in_ok-sets.ensures.list c.in_ok-traps_text.ensures
