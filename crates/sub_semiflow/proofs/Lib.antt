pub mod Sums
pub mod Slack
pub mod Cutting
pub mod Ordering
pub mod Listing
pub mod Bounding
pub mod Fronts
pub mod Counting
