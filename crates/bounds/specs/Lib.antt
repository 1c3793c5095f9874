-- Definitions: they are what the public clauses mean, so they are to be read and believed. The last words of Listed, from
-- `smaller_of` on, say what one turn of a loop does, and only clauses of private functions cite them.
pub mod LeastBound
pub mod Listed
