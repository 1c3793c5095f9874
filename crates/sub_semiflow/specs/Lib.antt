-- Sub-semiflows, and the text that tells of them: the definitions that the public clauses and laws mean, to be read and
-- believed.
pub mod SubSemiflows
pub mod Texts
