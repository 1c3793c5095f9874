-- Definitions: how certificates are spelled, which are well formed, which lines are bad, what each line asks of a net,
-- and what an accepted certificate claims. They are what the public clauses and laws mean, so they are to be read and
-- believed.
pub mod Spelling
pub mod WellFormed
pub mod BadLines
pub mod Conditions
pub mod Claims
pub mod Laws
-- Functions on lists that read lines in the way of the code. Only clauses of private functions and lemmas cite these.
pub mod Words
pub mod Lines
pub mod Moves
