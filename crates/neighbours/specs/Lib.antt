pub mod Table
pub mod Near
pub mod Net
pub mod Degree
pub mod Edges
pub mod Counts
pub mod Rows
