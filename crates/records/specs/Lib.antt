pub mod Numbers
pub mod NumberLaws
pub mod TooMany
pub mod Copied
