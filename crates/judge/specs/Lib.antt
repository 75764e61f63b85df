pub mod Figures
pub mod Tallies
pub mod FigureLaws
pub mod Small
pub mod Judging
