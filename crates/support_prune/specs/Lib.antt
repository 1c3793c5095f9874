-- Definitions: they are what the public clauses mean, so they are to be read and believed.
pub mod Supports
pub mod Pools
-- Only clauses of private functions and lemmas cite this.
pub mod Masks
