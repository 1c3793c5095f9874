-- Definitions: how a token is spelled, what is read of bytes, and what runs of a search are.
pub mod Tokens
pub mod Pending
pub mod Runs
pub mod Texts
pub mod Laws
-- Only clauses of private functions and lemmas cite these.
pub mod Lines
pub mod Disjoint
