pub mod Part
pub mod Put
pub mod Numbers
pub mod Cuts
pub mod Halves
pub mod Records
pub mod Puts
