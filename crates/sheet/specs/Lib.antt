pub mod Showing
pub mod Opening
pub mod HeadLaws
pub mod ShowLaws
