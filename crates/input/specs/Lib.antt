pub mod Promise
pub mod ReadLaws
