pub mod Scan
pub mod Positions
pub mod Visits
