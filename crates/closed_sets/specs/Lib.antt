-- Definitions, which the crates above cite: they are what the public clauses and laws mean, so they are to be read and
-- believed.
pub mod ClosedSets
pub mod MinimalSets
pub mod Growth
pub mod Commoner
pub mod Kept
pub mod Opens
pub mod LoneInputs
-- Only clauses of private functions and lemmas cite these.
pub mod Kinds
pub mod Passes
pub mod Guards
pub mod Needed
pub mod Leavers
pub mod Falling
