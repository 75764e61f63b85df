pub mod Constraints
pub mod Picked
pub mod Paid
