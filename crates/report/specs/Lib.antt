pub mod Digits
pub mod Decimal
pub mod Placed
pub mod Text
pub mod TextLaws
