pub mod Shift
pub mod Small
pub mod TwoTerms
pub mod Changed
pub mod Following
