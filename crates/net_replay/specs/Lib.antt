-- Firing lists, their replays and the text that tells of one: the definitions that the public clauses and laws mean, to
-- be read and believed.
pub mod FiringLists
pub mod Replays
pub mod Failures
pub mod Texts
pub mod Laws
-- Only clauses of private functions cite this.
pub mod Numbers
