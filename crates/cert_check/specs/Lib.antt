-- The way through a tree, and what a flow's vector meets. Only clauses of private functions, the invariant of the scratch
-- and lemmas cite these; what the public clauses and laws mean are the definitions of certificates.
pub mod Walks
pub mod KnownTraps
pub mod Flows
