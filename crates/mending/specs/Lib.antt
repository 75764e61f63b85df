pub mod Mended
pub mod Lowest
pub mod Along
pub mod MendedLaws
pub mod Renamed
