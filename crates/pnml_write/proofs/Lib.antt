pub mod Pieces
pub mod Runs
pub mod Labels
pub mod Shapes
pub mod Sequences
pub mod Frames
