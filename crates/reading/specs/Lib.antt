pub mod Promise
pub mod Handing
pub mod ReadLaws
