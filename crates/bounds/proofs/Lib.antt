pub mod Sums
pub mod OfRows
pub mod AllPlaces
pub mod Tightening
