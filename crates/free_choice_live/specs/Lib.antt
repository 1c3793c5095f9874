-- What liveness means, what it rests on in a free-choice net, and what the test for it answers: the definitions that the
-- public clauses and laws mean, to be read and believed.
pub mod Live
pub mod Answers
pub mod Texts
