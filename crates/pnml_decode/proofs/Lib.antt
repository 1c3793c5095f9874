-- Lemmas for the reader's code.
pub mod Lists
pub mod Giving
pub mod LoopLaws
pub mod Digits
pub mod SkippedTags
pub mod ReadTags
pub mod Arrivals
pub mod Characters
pub mod Taken
pub mod TagValueLaws
