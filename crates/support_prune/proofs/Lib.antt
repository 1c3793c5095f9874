pub mod SupportLemmas
pub mod Sieves
pub mod Offers
pub mod MaskLemmas
