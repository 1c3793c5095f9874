-- What a token is, pnml_grammar defines. The public clauses cite the words of Steps on the variants of an answer, to be
-- read and believed.
pub mod Steps
pub mod Streams
-- Only clauses of private functions and lemmas cite these.
pub mod ByteClasses
pub mod Gives
pub mod Views
pub mod Pieces
pub mod EmptyTags
pub mod Scans
pub mod Ranks
