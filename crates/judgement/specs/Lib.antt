pub mod Promise
pub mod Told
pub mod Places
pub mod Printing
pub mod SheetA
