-- The sizes of the listed sets, and the limit that is passed.
use Rattle.struct_core.proofs.Listing.{sets_sized, limit_told}
use Rattle.struct_core.proofs.siphons.list_siphons.Goals as goal

pub returns-in-Ok-clause-sizes : goal.returns-in-Ok-clause-sizes
returns-in-Ok-clause-sizes c = sets_sized _ _ c.in-Ok.ensures.list

pub returns-in-Err-SetLimit-clause-refused : goal.returns-in-Err-SetLimit-clause-refused
returns-in-Err-SetLimit-clause-refused c =
    limit_told _ _ c.in-Err-SetLimit.field-0-0 c.in-Err-SetLimit.field-0 c.in-Err-SetLimit.field-0-is c.in-Err-SetLimit.ensures.fault
