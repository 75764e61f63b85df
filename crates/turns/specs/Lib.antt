pub mod Decoded
pub mod StateLaws
pub mod RowLaws
pub mod Taken
