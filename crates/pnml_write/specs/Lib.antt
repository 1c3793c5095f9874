-- Only clauses of private functions and lemmas cite these; what a canonical text is, pnml_grammar says.
pub mod Escapes
pub mod Elements
pub mod Pages
