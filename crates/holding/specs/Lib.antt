pub mod Held
pub mod HeldLaws
pub mod HoldLaws
pub mod ReadLaws
