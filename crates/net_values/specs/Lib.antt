-- The definitions that several crates cite: they are what public clauses mean, so they are to be read and believed.
pub mod Characters
pub mod Items
pub mod PlaceSets
pub mod Vectors
pub mod TheList
pub mod Columns
pub mod Net
pub mod PlaceArcs
pub mod FlatNets
pub mod Nodes
pub mod TokenGame
-- A lemma on which the order of place sets rests.
pub mod Comparisons
-- Only clauses of private functions and lemmas cite this.
pub mod PlaceWords
