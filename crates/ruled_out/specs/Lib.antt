pub mod Bytes
pub mod Reader
pub mod Sheets
pub mod Names
pub mod Reviews
