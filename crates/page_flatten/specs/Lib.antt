-- The elements of a document, the five rules that it must keep, and the flat net that it represents.
--
-- Definitions: they are what the public clauses and laws mean, so they are to be read and believed.
pub mod Elements
pub mod Chains
pub mod Rules
pub mod Flat
pub mod Laws
-- Only clauses of private functions and lemmas cite these.
pub mod Tables
pub mod Joints
pub mod Passes
pub mod Names
