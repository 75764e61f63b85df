pub mod Plan
pub mod Distance
pub mod Moves
pub mod Relations
pub mod DistanceLaws
pub mod MoveLaws
