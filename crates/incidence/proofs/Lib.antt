pub mod Below
pub mod Firing
pub mod Entries
pub mod TableLemmas
pub mod SumLemmas
pub mod Extending
pub mod WalkedSums
