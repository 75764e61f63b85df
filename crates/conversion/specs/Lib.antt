pub mod Promise
pub mod Carried
pub mod Trips
pub mod Promised
pub mod ConvertLaws
