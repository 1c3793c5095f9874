-- The definitions that contracts over sources and sinks cite: they are what the public clauses mean, so they are to be
-- read and believed.
pub mod Causes
pub mod Streams
pub mod Writing
pub mod Adapters
pub mod Memory
