-- How the reader is seen as the machine of pnml_grammar, whose definitions say what is read, and for which bytes a decoder
-- stands. Of these modules the public clauses cite only `NamesFirstFault` and `IfNoMemory` of Faults and the words of
-- Feeding, which rest on Standing; all else serves private functions and lemmas.
pub mod Numbers
pub mod Views
pub mod Taking
pub mod Faults
pub mod Standing
pub mod Feeding
