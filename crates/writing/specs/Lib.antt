pub mod Promise
pub mod Sections
pub mod Roomy
pub mod WriteLaws
