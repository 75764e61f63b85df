pub mod Promise
pub mod Arrays
pub mod Concluding
pub mod Promised
