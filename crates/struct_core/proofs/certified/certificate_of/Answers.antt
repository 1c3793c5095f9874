-- The limit that is passed.
use Rattle.struct_core.proofs.Listing.{limit_told}
use Rattle.struct_core.proofs.certified.certificate_of.Goals as goal

pub returns-in-Err-SetLimit-clause-refused : goal.returns-in-Err-SetLimit-clause-refused
returns-in-Err-SetLimit-clause-refused c =
    limit_told _ _ c.in-Err-SetLimit.field-0-0 c.in-Err-SetLimit.field-0 c.in-Err-SetLimit.field-0-is c.in-Err-SetLimit.ensures.fault
