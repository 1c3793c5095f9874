-- Definitions: they are what the public clauses mean, so they are to be read and believed.
pub mod Classes
pub mod Verdicts
-- Only clauses of private functions and lemmas cite these.
pub mod Neighbours
pub mod Owners
