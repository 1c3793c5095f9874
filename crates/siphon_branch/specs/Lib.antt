-- The definitions of the search for siphons.
pub mod Limits
pub mod Met
pub mod Classes
pub mod LiveClasses
pub mod Searches
pub mod Faults
pub mod Laws
-- Only clauses of private functions and lemmas cite this.
pub mod Held
