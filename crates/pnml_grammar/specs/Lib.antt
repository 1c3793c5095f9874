-- What tokens are and how they are spelled, what documents they spell, and where an input stops to be one.
--
-- Definitions: they are what the public clauses and laws mean, so they are to be read and believed. `number_in` of
-- Numerals is a function that reads, and the law `numerals_are_read` tells what it reads.
pub mod Characters
pub mod Names
pub mod References
pub mod Values
pub mod Attributes
pub mod Declarations
pub mod Tags
pub mod Tokens
pub mod Canon
pub mod Valued
pub mod CanonicalTexts
pub mod Elements
pub mod Numerals
pub mod Trees
pub mod Contents
pub mod Counts
pub mod Documents
pub mod OpenElements
pub mod Reasons
pub mod FirstFault
pub mod OneNet
-- Functions on lists that find the same from the front, in the way of the code. Nothing hangs on them but proofs: only
-- clauses of private functions and lemmas cite them, and each is proved to find what the definitions say.
pub mod Runs
pub mod Resolving
pub mod Reading
pub mod LegalTexts
pub mod ValuedTests
pub mod Machine
pub mod ReadTo
