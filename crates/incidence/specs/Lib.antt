-- Definitions: they are what the public clauses and laws mean, so they are to be read and believed. Tables says how an
-- `Incidence` is seen.
pub mod Sums
pub mod Matrix
pub mod Semiflow
pub mod Invariance
pub mod Tables
-- Only clauses of private functions and lemmas cite this.
pub mod Excess
