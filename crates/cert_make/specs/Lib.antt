-- Definitions: which certificate of the bounds is made and where a check of it is wide, and the laws that there is one.
-- They are what the public clauses and laws mean, so they are to be read and believed.
pub mod BoundCertificates
pub mod Laws
-- Parts of a certificate while it is made. Only clauses of private functions and lemmas cite these.
pub mod PlaceLists
pub mod Making
pub mod Trees
