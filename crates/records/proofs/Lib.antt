pub mod CopiedLaws
pub mod Same
