-- Definitions: what the words mean, which outcome an input has, and what a run does, with the laws on them. They are what
-- the public clauses and laws mean, so they are to be read and believed.
pub mod Words
pub mod Matrices
pub mod Enumerations
pub mod Verdicts
pub mod Certificates
pub mod FiringLists
pub mod Resuming
pub mod SubSemiflows
pub mod Inputs
pub mod Sample
pub mod Summaries
pub mod Outcome
pub mod Run
pub mod Completeness
pub mod Determined
pub mod Laws
-- The way from the words and the calls to them. Only clauses of private functions and lemmas cite these.
pub mod WordReading
pub mod Answers
pub mod Intaking
pub mod Obtaining
