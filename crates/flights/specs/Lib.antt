pub mod Flying
pub mod FirstStretch
pub mod Both
pub mod Priced
pub mod Gauged
