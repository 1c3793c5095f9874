pub mod Counting
pub mod Firing
pub mod LostTransitions
